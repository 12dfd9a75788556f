-- What the number book's states hold, and that it keeps the laws of every book. Assumes nothing.
use Rattle.std.specs.Prelude.{◌≡◌, ℕ, zero, suc, ◌<◌, Bool, true, false, cond, ◌&&◌, is_some, Some, None, Decides, ◌==◌, nat_eq, nat_lt, refl}
use Rattle.std.proofs.Common.{sym, ap, ◌∙◌, inl, inr, arith}
use Rattle.std.proofs.lemmas.Bool.{cases_lt, both_ways, and_parts, and_from, ltb-true, lt-ltb, eqb-true, eq-eqb}
use Rattle.std.proofs.lemmas.Bool.Decides.{nat_tests, Decides-below_or}
use Rattle.states.specs.Sets.{State, has, has_rule}
use Rattle.states.specs.Words.{some}
use Rattle.states.proofs.Members.{has_set_of, has_rule_rules_of, member_below, rules_above}
use Rattle.books.specs.Meaning.{Lawful, Live, touches, is}
use Rattle.books.proofs.Touching.{touched, fails}
use Rattle.numbers.specs.Number.{takes, follows, leads, number_next, number_meaning}

-- ---- states

pub follows_below : (p q : ℕ) → follows p q ≡ true → q < 6
follows_below zero q e = grind (arith, nat_tests)
follows_below (suc zero) q e = grind (arith, nat_tests)
follows_below (suc (suc zero)) q e = grind (arith, nat_tests)
follows_below (suc (suc (suc zero))) q e = grind (arith, nat_tests)
follows_below (suc (suc (suc (suc zero)))) q e = grind (arith, nat_tests)
follows_below (suc (suc (suc (suc (suc p))))) q e = absurd (both_ways false refl e)

pub some_below : (f : ℕ → Bool) (n : ℕ) → Decides (some f n) ((p : ℕ) × (p < n) × (f p ≡ true))
unfolding some
some_below f n = Decides-below_or f (λ p. f p ≡ true) (some f) (λ p. (λ e. e, λ e. e)) refl (λ k. refl) n

-- q is in the next state
pub record Led (s : State) (c q : ℕ) : Type 0 where
  pub from : ℕ
  pub below : from < 6
  pub held : has s from ≡ true
  pub taken : takes from c ≡ true
  pub follow : follows from q ≡ true

pub next_led : (s : State) (c q : ℕ) → Decides (has (number_next s c) q) (Led s c q)
unfolding number_next
next_led s c q =
    let is = has_set_of (λ q. some (leads s c q) 6) q in (
      λ e. let w = (some_below (leads s c q) 6).0 (sym (is (member_below (number_next s c) q e)) ∙ e) in
          let h = and_parts (has s w.0) (takes w.0 c && follows w.0 q) w.2 in
          let t = and_parts (takes w.0 c) (follows w.0 q) h.1 in
          record { from = w.0; below = w.1; held = h.0; taken = t.0; follow = t.1 },
      λ w. let l = follows_below w.from q w.follow in
          is (omega arith) ∙ (some_below (leads s c q) 6).1 (w.from, w.below, and_from _ _ w.held (and_from _ _ w.taken w.follow)),
    )

-- the start holds the first position alone
pub starts_at : (p : ℕ) → has number_meaning.start p ≡ true → p ≡ 0
starts_at p h = eqb-true p 0 (sym (has_set_of (λ q. nat_eq q 0) p (member_below number_meaning.start p h)) ∙ h)

-- rule 0 is ended exactly by the states that hold the end
pub ended_end : (s : State) → has_rule (number_meaning.ended s) 0 ≡ has s 5
ended_end s = has_rule_rules_of (λ r. (r == 0) && has s 5) 0 (omega arith)

-- ---- owners

pub is_live : (p : ℕ) → is_some (number_meaning.owner p) ≡ nat_lt p 6
is_live p = of_test (nat_lt p 6)
  where
    of_test : (b : Bool) → is_some {T = ℕ} (cond b (Some 0) None) ≡ b
    of_test true = refl
    of_test false = refl

-- the rule that owns p is r
owned : (p r : ℕ) → is (number_meaning.owner p) r ≡ (nat_lt p 6 && 0 == r)
owned p r = of_test (nat_lt p 6)
  where
    of_test : (b : Bool) → is (cond b (Some 0) None) r ≡ (b && 0 == r)
    of_test true = refl
    of_test false = refl

-- what is given only where a test passes
given_by : (b : Bool) (x y : ℕ) → cond b (Some x) None ≡ Some y → (b ≡ true) × (x ≡ y)
given_by true x y e = (refl, cc)
given_by false x y e = let z : ◌≡◌ {A = ℕ} 0 1 = cc in absurd (omega arith)

-- ---- the laws

starts : (p : ℕ) → has number_meaning.start p ≡ true → Live number_meaning p
starts p h = let e = starts_at p h in is_live p ∙ lt-ltb p 6 (omega arith)

steps : (s : State) (c p : ℕ) → has (number_next s c) p ≡ true → Live number_meaning p
steps s c p h = let w = (next_led s c p).0 h in is_live p ∙ lt-ltb p 6 (follows_below w.from p w.follow)

apart : (r : ℕ) (s : State) (c : ℕ) → touches number_meaning r (number_next s c) ≡ true → touches number_meaning r s ≡ true
apart r s c e =
    let t = (touched number_meaning r (number_next s c)).0 e in
    let w = (next_led s c t.0).0 t.1 in
    let zeroth = (and_parts (nat_lt t.0 6) (0 == r) (sym (owned t.0 r) ∙ t.2)).1 in
    (touched number_meaning r s).1 (w.from, w.held, owned w.from r ∙ and_from _ _ (lt-ltb w.from 6 w.below) zeroth)

ends : (r : ℕ) (s : State) → has_rule (number_meaning.ended s) r ≡ true → touches number_meaning r s ≡ true
ends r s e = elim (cases_lt r 64) [
  | inl l ↦ (let w = and_parts (r == 0) (has s 5) (sym (has_rule_rules_of (λ r. (r == 0) && has s 5) r l) ∙ e) in
      (touched number_meaning r s).1 (5, w.1, owned 5 r ∙ eq-eqb 0 r (sym (eqb-true r 0 w.0))))
  | inr l ↦ absurd (both_ways _ (rules_above (number_meaning.ended s) r l) e)
]

pub number_lawful : Lawful number_meaning
number_lawful = record {
  rules = λ r k e. let w = given_by (r == 0) 1 k e in let z = eqb-true r 0 w.0 in let one = w.1 in (omega arith, omega arith);
  owners = λ p r e. let w = given_by (nat_lt p 6) 0 r e in
      let l = ltb-true p 6 w.0 in
      (omega arith, ap (λ (x : ℕ). is_some (number_meaning.kind x)) (sym w.1));
  starts = starts;
  steps = steps;
  apart = λ r s c. fails _ _ (apart r s c);
  ends = λ r s. fails _ _ (ends r s);
}
