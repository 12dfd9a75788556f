-- A table that grows: a position given, positions linked. Its invariants, and the counts. Assumes nothing.
use Rattle.std.proofs.Common.{◌≡◌, ℕ, ◌+◌, ◌<◌, Bool, true, false, not, ◌&&◌, ◌||◌, eqb, ltb, List, sym, refl, ap, ◌∙◌, ap₂, inl, inr, arith}
use Rattle.std.proofs.lemmas.Bool.{cases_eq, cases_Bool, both_ways, and_cases, or_right, eq-eqb, ne_eqb, lt-ltb, not-false}
use Rattle.std.proofs.Math.Bool.{or-false}
use Rattle.states.specs.Sets.{State, has, size}
use Rattle.states.proofs.Digits.{tally_all, tally_less}
use Rattle.expression_book.specs.declared.table.Table.{Table}
use Rattle.expression_book.specs.declared.row.Row.{Row}
use Rattle.expression_book.specs.Rows.{row, Gains}
use Rattle.expression_book.specs.Laws.{rule_at, follows_at}

-- ---- a free position

-- where fewer than 256 are members, not every position is one
pub some_free : (s rest : State) → size s < 256 → ((p : ℕ) → has rest p ≡ (ltb p 256 && not (has s p))) → ((p : ℕ) → has rest p ≡ false) → ⊥
some_free s rest few less none =
    let all : size s ≡ 256 = tally_all (has s) 256 (λ p l. full p l) in omega arith
  where
    full : (p : ℕ) → p < 256 → has s p ≡ true
    full p l = elim (and_cases (ltb p 256) (not (has s p)) (sym (less p) ∙ none p)) [
      | inl e ↦ absurd (both_ways _ e (lt-ltb p 256 l))
      | inr e ↦ not-false (has s p) e
    ]

-- one member more
pub size_more : (s t : State) (m : ℕ) → m < 256 → has s m ≡ false → ((p : ℕ) → has t p ≡ (has s p || eqb p m)) → size t ≡ size s + 1
size_more s t m l free more = sym (tally_less (has t) (has s) m 256 l (more m ∙ or_right (has s m) _ (eq-eqb m m refl)) back)
  where
    back : (p : ℕ) → has s p ≡ (has t p && not (eqb p m))
    back p = elim (cases_eq p m) [
      | inl e ↦ ap (has s) e ∙ free ∙ sym (ap₂ (λ (x y : Bool). x && not y) (more p ∙ or_right (has s p) _ (eq-eqb p m e)) (eq-eqb p m e))
      | inr d ↦ sym (ap₂ (λ (x y : Bool). x && not y) (more p ∙ ap (λ (y : Bool). has s p || y) (ne_eqb p m d)) (ne_eqb p m d) ∙ same (has s p))
    ]
      where
        same : (x : Bool) → ((x || false) && true) ≡ x
        same true = refl
        same false = refl

-- ---- followers gained

-- followers gained twice are gained
pub gains_both : (first : State) (u v w : Row) → Gains first u v → Gains first v w → Gains first u w
gains_both first u v w g h = record {
  rule = h.rule ∙ g.rule;
  codes = h.codes ∙ g.codes;
  follow = λ q. h.follow q ∙ ap (λ (x : Bool). x || has first q) (g.follow q) ∙ twice (has u.follow q) (has first q);
}
  where
    twice : (x y : Bool) → ((x || y) || y) ≡ (x || y)
    twice true y = refl
    twice false true = refl
    twice false false = refl

-- ---- positions linked

module _ (a : Table) (rows : List Row) (last first : State) (linked : (p : ℕ) → has last p ≡ true → Gains first (row a.rows p) (row rows p))
    (kept : (p : ℕ) → has last p ≡ false → row rows p ≡ row a.rows p) where
  -- rules and codes stay, and the followers are those that were and those of `first` behind those of `last`
  pub link_rule : (p : ℕ) → (row rows p).rule ≡ rule_at a p
  link_rule p = elim (cases_Bool (has last p)) [ inl e ↦ (linked p e).rule | inr e ↦ ap (λ (v : Row). v.rule) (kept p e) ]

  pub link_codes : (p : ℕ) → (row rows p).codes ≡ (row a.rows p).codes
  link_codes p = elim (cases_Bool (has last p)) [ inl e ↦ (linked p e).codes | inr e ↦ ap (λ (v : Row). v.codes) (kept p e) ]

  pub link_follow : (p q : ℕ) → has (row rows p).follow q ≡ (follows_at a p q || (has last p && has first q))
  link_follow p q = elim (cases_Bool (has last p)) [
    | inl e ↦ (linked p e).follow q ∙ ap (λ (x : Bool). follows_at a p q || (x && has first q)) (sym e)
    | inr e ↦ ap (λ (v : Row). has v.follow q) (kept p e) ∙ sym (ap (λ (x : Bool). follows_at a p q || (x && has first q)) e ∙ or-false (follows_at a p q))
  ]
