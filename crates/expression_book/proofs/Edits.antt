-- A loop over the members of a set, one by one, which writes the row of each. Assumes nothing.
use Rattle.std.proofs.Common.{◌≡◌, ℕ, ◌<◌, Bool, true, false, ◌||◌, eqb, List, [], ◌∷◌, ◌++◌, length, set, sym, refl, ◌∙◌, ap₂, subst, inl, inr, length-set}
use Rattle.std.specs.List.{list_any}
use Rattle.std.proofs.lemmas.List.{get_or-set_same, get_or-set_other}
use Rattle.std.proofs.lemmas.List.Folds.{list_any-append}
use Rattle.std.proofs.lemmas.Bool.{cases_Bool, both_ways, or_cases, eqb-true, eq-eqb}
use Rattle.expression_book.specs.declared.row.Row.{Row}
use Rattle.expression_book.specs.Rows.{blank, row}

-- whether one passes, where one more came
pub one_more : (T : ℕ → Bool) (xs : List ℕ) (p : ℕ) (x y : Bool) → x ≡ list_any T xs → y ≡ T p → (x || y) ≡ list_any T (xs ++ p ∷ [])
one_more T xs p x y e f = ap₂ (λ (a b : Bool). a || b) e (f ∙ sym (alone (T p))) ∙ sym (list_any-append T xs (p ∷ []))
  where
    alone : (b : Bool) → (b || false) ≡ b
    alone true = refl
    alone false = refl

-- one of the numbers that came is p
abbrev pub came : List ℕ → ℕ → Bool
came xs p = list_any (λ x. eqb x p) xs

-- the rows of the numbers that came are edited as E says, the others are as before
pub record Edited (E : Row → Row → Type 0) (before now : List Row) (xs : List ℕ) : Type 0 where
  pub size : length now ≡ length before
  pub done : (p : ℕ) → came xs p ≡ true → E (row before p) (row now p)
  pub kept : (p : ℕ) → came xs p ≡ false → row now p ≡ row before p

-- two edits are one
module _ (E : Row → Row → Type 0) (both : (u v w : Row) → E u v → E v w → E u w) (before : List Row) where
  pub edit_none : Edited E before before []
  edit_none = record { size = refl; done = λ p h. absurd (both_ways _ refl h); kept = λ p h. refl }

  -- one turn: m comes, and its row becomes w
  pub edit_more : (now : List Row) (xs : List ℕ) (m : ℕ) (w : Row) → Edited E before now xs → m < length now → E (row now m) w
      → Edited E before (set now m w) (xs ++ m ∷ [])
  edit_more now xs m w e within is = record {
    size = length-set now m w ∙ e.size;
    done = λ p h. elim (or_cases (came xs p) (eqb m p) (sym (more p) ∙ h)) [
      | inl old ↦ elim (cases_Bool (eqb m p)) [
        | inl here ↦ at p (eqb-true m p here)
        | inr there ↦ subst (E (row before p)) (sym (other p there)) (e.done p old)
      ]
      | inr here ↦ at p (eqb-true m p here)
    ];
    kept = λ p h. let w = neither p (sym (more p) ∙ h) in other p w.1 ∙ e.kept p w.0;
  }
    where
      more : (p : ℕ) → came (xs ++ m ∷ []) p ≡ (came xs p || eqb m p)
      more p = sym (one_more (λ x. eqb x p) xs m (came xs p) (eqb m p) refl refl)

      other : (p : ℕ) → eqb m p ≡ false → row (set now m w) p ≡ row now p
      other p d = get_or-set_other now m p w blank (λ q. both_ways (eqb m p) d (eq-eqb m p (sym q)))

      neither : (p : ℕ) → (came xs p || eqb m p) ≡ false → (came xs p ≡ false) × (eqb m p ≡ false)
      neither p h = no (came xs p) (eqb m p) h
        where
          no : (a b : Bool) → (a || b) ≡ false → (a ≡ false) × (b ≡ false)
          no false b h = (refl, h)
          no true b h = absurd (both_ways true h refl)

      -- the row of m, which may have come before
      here : E (row before m) w
      here = elim (cases_Bool (came xs m)) [
        | inl old ↦ both (row before m) (row now m) w (e.done m old) is
        | inr new ↦ subst (λ (v : Row). E v w) (e.kept m new) is
      ]

      at : (p : ℕ) → m ≡ p → E (row before p) (row (set now m w) p)
      at p q =
          subst (λ (x : ℕ). E (row before x) (row (set now m w) x)) q
          (subst (E (row before m)) (sym (get_or-set_same now m w blank within)) here)
