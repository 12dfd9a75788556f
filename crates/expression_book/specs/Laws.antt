-- What a table's answers hold, and that it keeps the laws of every book. Assumes nothing.
use Rattle.std.specs.Prelude.{◌≡◌, ℕ, ◌<◌, ◌≤◌, Bool, true, false, cond, ◌&&◌, ◌||◌, length, is_some, Some, None, Decides, ◌==◌, nat_lt, slice_index_or, refl}
use Rattle.std.proofs.Common.{sym, ap, ◌∙◌, inl, inr, arith}
use Rattle.std.proofs.lemmas.List.{get_or_past}
use Rattle.std.proofs.lemmas.Bool.{cases_lt, both_ways, and_parts, and_from, eqb-true, eq-eqb, lt-ltb}
use Rattle.std.proofs.lemmas.Bool.Decides.{same_from_decides}
use Rattle.states.specs.Sets.{State, Rules, has, has_rule, set_of, rules_of}
use Rattle.states.specs.Words.{some, Gathers}
use Rattle.states.proofs.Members.{has_set_of, has_rule_rules_of, member_below, some_member, rules_above, same_members, same_rules}
use Rattle.books.specs.Meaning.{Meaning, Lawful, Live, touches, is}
use Rattle.books.proofs.Touching.{touched, fails}
use Rattle.expression_book.specs.declared.table.Table.{Table}
use Rattle.expression_book.specs.Rows.{row, takes, leads}
use Rattle.expression_book.specs.Tables.{table_meaning}

abbrev pub in_force : Table → ℕ → Bool
in_force t r = is_some (slice_index_or t.kinds.by_rule r None)

-- the rule at position p
abbrev pub rule_at : Table → ℕ → ℕ
rule_at t p = (row t.rows p).rule

-- q follows p
abbrev pub follows_at : Table → ℕ → ℕ → Bool
follows_at t p q = has (row t.rows p).follow q

module _ (t : Table) where
  -- ---- owners

  pub owner_is : (p r : ℕ) → is ((table_meaning t).owner p) r ≡ (has t.live p && rule_at t p == r)
  owner_is p r = of_test (has t.live p)
    where
      of_test : (b : Bool) → is (cond b (Some (rule_at t p)) None) r ≡ (b && rule_at t p == r)
      of_test true = refl
      of_test false = refl

  -- rule r owns p
  pub mine : (p r : ℕ) → Decides (is ((table_meaning t).owner p) r) ((has t.live p ≡ true) × (rule_at t p ≡ r))
  mine p r = (
    λ e. let w = and_parts (has t.live p) (rule_at t p == r) (sym (owner_is p r) ∙ e) in (w.0, eqb-true _ _ w.1),
    λ w. owner_is p r ∙ and_from _ _ w.0 (eq-eqb _ _ w.1),
  )

  pub owner_from : (p r : ℕ) → (table_meaning t).owner p ≡ Some r → (has t.live p ≡ true) × (rule_at t p ≡ r)
  owner_from p r = of_test (has t.live p)
    where
      of_test : (b : Bool) → cond b (Some (rule_at t p)) None ≡ Some r → (b ≡ true) × (rule_at t p ≡ r)
      of_test true e = (refl, cc)
      of_test false e = let z : ◌≡◌ {A = ℕ} 0 1 = cc in absurd (omega arith)

  pub live_is : (p : ℕ) → is_some ((table_meaning t).owner p) ≡ has t.live p
  live_is p = of_test (has t.live p)
    where
      of_test : (b : Bool) → is_some {T = ℕ} (cond b (Some (rule_at t p)) None) ≡ b
      of_test true = refl
      of_test false = refl

  pub rule_below : (r : ℕ) → in_force t r ≡ true → r < 64
  rule_below r e = elim (cases_lt r 64) [
    | inl l ↦ l
    | inr l ↦ (let long = t.kinds.size.0 in
        let out : length t.kinds.by_rule ≤ r = omega arith in
        absurd (both_ways (in_force t r) (ap is_some (get_or_past t.kinds.by_rule r None out)) e))
  ]

  -- ---- steps and ends

  pub next_by : (s : State) (c q : ℕ) → Decides (has ((table_meaning t).next s c) q) ((p : ℕ) × (has s p ≡ true) × (leads t.rows c p q ≡ true))
  next_by s c q = (
    λ e. (some_member s (λ p. leads t.rows c p q)).0 (sym (has_set_of f q (member_below (set_of f) q e)) ∙ e),
    λ w. let led = and_parts (takes (row t.rows w.0) c) (follows_at t w.0 q) w.2 in
        has_set_of f q (member_below (row t.rows w.0).follow q led.1) ∙ (some_member s (λ p. leads t.rows c p q)).1 w,
  )
    where
      f : ℕ → Bool
      f q = some (λ p. has s p && leads t.rows c p q) 256

  pub next_made : (s out : State) (c : ℕ) → Gathers (leads t.rows c) (has s) (has out) → out ≡ (table_meaning t).next s c
  next_made s out c all = same_members out ((table_meaning t).next s c) (λ q l. same_from_decides _ _ (all q) (next_by s c q))

  pub ended_by : (s : State) (r : ℕ)
      → Decides (has_rule ((table_meaning t).ended s) r) ((p : ℕ) × (has s p ≡ true) × (has t.ends p ≡ true) × (rule_at t p ≡ r))
  ended_by s r =
      let d = some_member s (λ p. has t.ends p && rule_at t p == r) in (
        λ e. elim (cases_lt r 64) [
          | inl l ↦ (let w = d.0 (sym (has_rule_rules_of f r l) ∙ e) in
              let h = and_parts (has t.ends w.0) (rule_at t w.0 == r) w.2 in
              (w.0, w.1, h.0, eqb-true _ r h.1))
          | inr l ↦ absurd (both_ways _ (rules_above (rules_of f) r l) e)
        ],
        λ w. let below : r < 64 = rule_below r (ap (in_force t) (sym w.3) ∙ t.owned w.0 (t.ending w.0 w.2)) in
            has_rule_rules_of f r below ∙ d.1 (w.0, w.1, and_from _ _ w.2 (eq-eqb _ r w.3)),
      )
    where
      f : ℕ → Bool
      f r = some (λ p. has s p && (has t.ends p && rule_at t p == r)) 256

  -- ---- the laws

  starts : (p : ℕ) → has t.start p ≡ true → Live (table_meaning t) p
  starts p h = live_is p ∙ t.starting p h

  steps : (s : State) (c q : ℕ) → has ((table_meaning t).next s c) q ≡ true → Live (table_meaning t) q
  steps s c q h = let w = (next_by s c q).0 h in live_is q ∙ t.follows w.0 q (and_parts (takes (row t.rows w.0) c) _ w.2).1

  apart : (r : ℕ) (s : State) (c : ℕ) → touches (table_meaning t) r ((table_meaning t).next s c) ≡ true → touches (table_meaning t) r s ≡ true
  apart r s c e =
      let u = (touched (table_meaning t) r ((table_meaning t).next s c)).0 e in
      let w = (next_by s c u.0).0 u.1 in
      let led = (and_parts (takes (row t.rows w.0) c) _ w.2).1 in
      (touched (table_meaning t) r s).1
      (w.0, w.1, (mine w.0 r).1 (t.followed w.0 u.0 led, sym (t.together w.0 u.0 led) ∙ ((mine u.0 r).0 u.2).1))

  ends : (r : ℕ) (s : State) → has_rule ((table_meaning t).ended s) r ≡ true → touches (table_meaning t) r s ≡ true
  ends r s e = let w = (ended_by s r).0 e in (touched (table_meaning t) r s).1 (w.0, w.1, (mine w.0 r).1 (t.ending w.0 w.2, w.3))

  pub table_lawful : Lawful (table_meaning t)
  table_lawful = record {
    rules = λ r k e. (rule_below r (ap is_some e), t.kinds.small r k e);
    owners = λ p r e. let w = owner_from p r e in (member_below t.live p w.0, ap (in_force t) (sym w.1) ∙ t.owned p w.0);
    starts = starts;
    steps = steps;
    apart = λ r s c. fails _ _ (apart r s c);
    ends = λ r s. fails _ _ (ends r s);
  }

-- ---- the rules of the ends that a state holds

-- position p adds its rule
abbrev pub rule_of : Table → ℕ → ℕ → Bool
rule_of t p q = q == rule_at t p && nat_lt q 64

pub ended_made : (t : Table) (s met : State) (out : Rules) → ((p : ℕ) → has met p ≡ (has s p && has t.ends p))
    → Gathers (rule_of t) (has met) (has_rule out) → out ≡ (table_meaning t).ended s
ended_made t s met out meets all = same_rules out ((table_meaning t).ended s) (λ q l. same_from_decides _ _ (all q) (
  λ e. let w = (ended_by t s q).0 e in
      (w.0, meets w.0 ∙ and_from _ _ w.1 w.2, and_from _ _ (eq-eqb q _ (sym w.3)) (lt-ltb q 64 l)),
  λ w. let h = and_parts (has s w.0) (has t.ends w.0) (sym (meets w.0) ∙ w.1) in
      (ended_by t s q).1 (w.0, h.0, h.1, sym (eqb-true q _ (and_parts (q == rule_at t w.0) (nat_lt q 64) w.2).0)),
))
