-- A table from which a rule is taken: its invariants. Assumes nothing.
use Rattle.std.proofs.Common.{◌≡◌, ℕ, ◌<◌, Bool, true, false, not, ◌&&◌, eqb, ◌⊎◌, List, get_or, set, is_some, None, Option, sym, refl, ap, ◌∙◌, inl, inr, arith}
use Rattle.std.proofs.lemmas.List.{get_or-set_same, get_or-set_other}
use Rattle.std.proofs.lemmas.Bool.{cases_Bool, both_ways, and_parts, and_from, eqb-true, eq-eqb, not-true}
use Rattle.std.proofs.lemmas.Bool.Decides.{same_from_decides}
use Rattle.states.specs.Sets.{State, has}
use Rattle.states.specs.Words.{Gathers}
use Rattle.states.proofs.Members.{has_nothing}
use Rattle.expression_book.specs.declared.table.Table.{Table}
use Rattle.expression_book.specs.declared.row.Row.{Row}
use Rattle.expression_book.specs.Rows.{blank, row}
use Rattle.expression_book.specs.Tables.{owns}
use Rattle.expression_book.specs.Laws.{rule_at, follows_at, mine}

-- ---- the positions of a rule

-- position p itself, if it is of rule r
abbrev pub itself : Table → ℕ → ℕ → ℕ → Bool
itself t r p q = eqb (rule_at t p) r && eqb q p

pub positions_made : (t : Table) (r : ℕ) (out : State) → Gathers (itself t r) (has t.live) (has out) → (p : ℕ) → has out p ≡ owns t r p
positions_made t r out all p = same_from_decides _ _ (all p) (
  λ e. let w = (mine t p r).0 e in (p, w.0, and_from _ _ (eq-eqb _ _ w.1) (eq-eqb p p refl)),
  λ w. let h = and_parts (eqb (rule_at t w.0) r) (eqb p w.0) w.2 in
      let here : p ≡ w.0 = eqb-true p _ h.1 in
      (mine t p r).1 (ap (has t.live) here ∙ w.1, ap (rule_at t) here ∙ eqb-true _ r h.0),
)

-- ---- one kind written

pub kind_here : (t : Table) (r : ℕ) (o : Option ℕ) → r < 64 → get_or (set t.kinds.by_rule r o) r None ≡ o
kind_here t r o low = let long = t.kinds.size.0 in get_or-set_same t.kinds.by_rule r o None (omega arith)

pub blank_follows : (q : ℕ) → has blank.follow q ≡ false
unfolding blank
blank_follows q = has_nothing q

module _ (a : Table) (r : ℕ) (rows : List Row) (gone live : State) (is : (p : ℕ) → has gone p ≡ owns a r p)
    (lives : (p : ℕ) → has live p ≡ (has a.live p && not (has gone p)))
    (cleared : (p : ℕ) → has gone p ≡ true → row rows p ≡ blank) (kept : (p : ℕ) → has gone p ≡ false → row rows p ≡ row a.rows p) where
  -- a live position that is not gone is of another rule
  other_rule : (p : ℕ) → has a.live p ≡ true → has gone p ≡ false → rule_at a p ≡ r → ⊥
  other_rule p l g e = both_ways _ (sym (is p) ∙ g) ((mine a p r).1 (l, e))

  -- what was live and is not gone is live
  stays : (p : ℕ) → has a.live p ≡ true → has gone p ≡ false → has live p ≡ true
  stays p l g = lives p ∙ and_from _ _ l (ap not g)

  still : (p : ℕ) → has live p ≡ true → (has a.live p ≡ true) × (has gone p ≡ false)
  still p h = let w = and_parts (has a.live p) (not (has gone p)) (sym (lives p) ∙ h) in (w.0, not-true _ w.1)

  pub removal_owned : (p : ℕ) → has live p ≡ true → is_some (get_or (set a.kinds.by_rule r None) (row rows p).rule None) ≡ true
  removal_owned p h =
      let w = still p h in
      ap (λ (v : Row). is_some (get_or (set a.kinds.by_rule r None) v.rule None)) (kept p w.1)
      ∙ ap is_some (get_or-set_other a.kinds.by_rule r (rule_at a p) None None (other_rule p w.0 w.1)) ∙ a.owned p w.0

  -- so do the start and the ends stay inside
  pub removal_inside : (from to : State) → ((p : ℕ) → has from p ≡ true → has a.live p ≡ true)
      → ((p : ℕ) → has to p ≡ (has from p && not (has gone p))) → (p : ℕ) → has to p ≡ true → has live p ≡ true
  removal_inside from to within less p h =
      let w = and_parts (has from p) (not (has gone p)) (sym (less p) ∙ h) in
      stays p (within p w.0) (not-true _ w.1)

  -- a follower in the new rows was one before, between positions that are not gone
  followers : (p q : ℕ) → has (row rows p).follow q ≡ true → (has gone p ≡ false) × (has gone q ≡ false) × (follows_at a p q ≡ true)
  followers p q h = elim (cases_Bool (has gone p)) [
    | inl g ↦ absurd (both_ways _ (ap (λ (v : Row). has v.follow q) (cleared p g) ∙ blank_follows q) h)
    | inr g ↦ (let f : follows_at a p q ≡ true = ap (λ (v : Row). has v.follow q) (sym (kept p g)) ∙ h in (g, there g f (cases_Bool (has gone q)), f))
  ]
    where
      there : has gone p ≡ false → follows_at a p q ≡ true → (has gone q ≡ true) ⊎ (has gone q ≡ false) → has gone q ≡ false
      there g f (inl e) = absurd (other_rule p (a.followed p q f) g (sym (a.together p q f) ∙ ((mine a q r).0 (sym (is q) ∙ e)).1))
      there g f (inr e) = e

  pub removal_followed : (p q : ℕ) → has (row rows p).follow q ≡ true → has live p ≡ true
  removal_followed p q h = let w = followers p q h in stays p (a.followed p q w.2) w.0

  pub removal_follows : (p q : ℕ) → has (row rows p).follow q ≡ true → has live q ≡ true
  removal_follows p q h = let w = followers p q h in stays q (a.follows p q w.2) w.1

  pub removal_together : (p q : ℕ) → has (row rows p).follow q ≡ true → (row rows q).rule ≡ (row rows p).rule
  removal_together p q h =
      let w = followers p q h in
      let at : (x : ℕ) → has gone x ≡ false → (row rows x).rule ≡ rule_at a x = λ x g. ap (λ (v : Row). v.rule) (kept x g) in
      at q w.1 ∙ a.together p q w.2 ∙ sym (at p w.0)
