-- `k4` after rule 1 is deleted, and after rule 3 is added and deleted. Assumes nothing.
use Rattle.std.proofs.Common.{◌≡◌, ℕ, ◌+◌, true, false, not, List, [], ◌∷◌, ◌++◌, is_some, Some, None, codes, filter, refl, sym, ap, ◌∙◌, subst, inl, inr, append-nil, arith, lit≤}
use Rattle.std.specs.List.{AllByRecursion}
use Rattle.std.proofs.lemmas.Bool.{both_ways, cases_eq, cond-true, cond-false}
use Rattle.states.specs.Sets.{State, rules_of, with_members, words_of}
use Rattle.states.specs.Words.{digits_of}
use Rattle.books.specs.Meaning.{Meaning, InForce, touches}
use Rattle.books.specs.Changes.{Added, Deleted}
use Rattle.readings.specs.Runs.{Pair, met}
use Rattle.readings.specs.Entries.{distinct_from}
use Rattle.readings.proofs.Changed.{clear_added}
use Rattle.readings.proofs.Follows.{Follows, follows_self, follows_turn, same_start, same_met}
use Rattle.readings.proofs.Follows.Turn.{grown, shrunk}
use Rattle.expressions.specs.Rules.{Additive}
use Rattle.worked.specs.Lines.{these, adds, deletes, reads, Answers}
use Rattle.worked.specs.Worked.{rule_added, rule_deleted}
use Rattle.worked.proofs.Rules.{Expressions, Has, with_rule, denoted_by}
use Rattle.worked.proofs.Pairs.{all_touched, all_new, none_new, other_code, other_state}
use Rattle.worked.proofs.Calls.{At}
use Rattle.worked.proofs.Patterns.{fours, fours_spelled}
use Rattle.worked.proofs.Answering.{answered_none, adding, deleting, reading, denoted_touches, denoted_met}
use Rattle.worked.proofs.Three.{three, k4, k4_way, k4_new, k4_answered}

-- ---- rule 1 deleted

-- pairs that all hold a position of the rule are dropped
all_dropped : (m : Meaning) (r : ℕ) (ps : List Pair) → AllByRecursion (λ p. touches m r p.0 ≡ true) ps → filter (λ (p : Pair). not (touches m r p.0)) ps ≡ []
all_dropped m r [] a = refl
all_dropped m r (p ∷ ps) a = cond-false (not (touches m r p.0)) _ _ (ap not a.0) ∙ all_dropped m r ps a.1

rule_0 : (rules_of (λ r. denoted_by k4 (with_rule 1 None three r))).words ≡ (these (0 ∷ [])).words
unfolding with_members words_of digits_of
rule_0 = refl

pub deleted : Answers rule_deleted
deleted b e es new low runs calls = k4_answered b e (deletes 1 (e + 4) ∷ reads k4 (0 ∷ []) 2 ∷ []) new low (λ m w additive has at.
    deleting at has 1 (e + 4) _ refl (omega arith) (omega arith) (λ n w₁ d additive₁ has₁ at₁.
    let gone = all_dropped m 1 (k4_way m) (all_touched m has.lawful 1 m.start k4 (denoted_touches has additive 1 k4 refl)) in
    let none_kept = subst (At w₁ n (e + 4)) gone at₁ in
    reading none_kept has₁ additive₁ k4 (0 ∷ []) (k4_way n) [] rule_0 (ap (distinct_from []) (denoted_met has₁ additive₁ 0 k4 refl) ∙ k4_new n) (lit≤ tt)
    (λ w₂ at₂. answered_none w₂))) es runs calls

-- ---- rule 3 added, and deleted again

-- pairs that hold no position of the rule are left
rest_left : (m : Meaning) (r : ℕ) (ps qs : List Pair) → AllByRecursion (λ p. touches m r p.0 ≡ false) ps
    → filter (λ (p : Pair). not (touches m r p.0)) (ps ++ qs) ≡ ps ++ filter (λ (p : Pair). not (touches m r p.0)) qs
rest_left m r [] qs a = refl
rest_left m r (p ∷ ps) qs a = cond-true (not (touches m r p.0)) _ _ (ap not a.0) ∙ ap (λ (t : List Pair). p ∷ t) (rest_left m r ps qs a.1)

abbrev four_rules : Expressions
four_rules = with_rule 3 (Some fours) three

rules_0_1_3 : (rules_of (λ r. denoted_by k4 (four_rules r))).words ≡ (these (0 ∷ 1 ∷ 3 ∷ [])).words
unfolding with_members words_of digits_of
rules_0_1_3 = refl

rules_0_1 : (rules_of (λ r. denoted_by k4 (with_rule 3 None four_rules r))).words ≡ (these (0 ∷ 1 ∷ [])).words
unfolding with_members words_of digits_of
rules_0_1 = refl

-- From m to n rule 3 is added.
module _ {m n : Meaning} {k l : ℕ} (has : Has m three k) (added : Added 3 3 m n) (additive : Additive n) (has' : Has n four_rules l) where
  -- the states before hold no position of it
  before : AllByRecursion (λ p. touches n 3 p.0 ≡ false) (k4_way m)
  before = (
    (clear_added m.start has.lawful added has.lawful.starts).after,
    ((clear_added (m.next m.start 107) has.lawful added (has.lawful.steps m.start 107)).after, tt),
  )

  -- and those behind it do
  behind : AllByRecursion (λ p. touches n 3 p.0 ≡ true) (k4_way n)
  behind = all_touched n has'.lawful 3 n.start k4 (denoted_touches has' additive 3 k4 refl)

  apart : {s t : State} → touches n 3 s ≡ false → touches n 3 t ≡ true → s ≡ t → ⊥
  apart {s} {t} out here e = both_ways (touches n 3 s) out (ap (touches n 3) e ∙ here)

  steps_new : distinct_from (k4_way m) (k4_way n) ≡ k4_way n
  steps_new = all_new (k4_way m) (k4_way n) (
    (other_state (apart before.0 behind.0), (other_code refl, tt)),
    ((other_code refl, (other_state (apart before.1.0 behind.1.0), (other_code refl, tt))), tt),
  )

  steps_left : filter (λ (p : Pair). not (touches n 3 p.0)) (k4_way m ++ k4_way n) ≡ k4_way m
  steps_left =
      rest_left n 3 (k4_way m) (k4_way n) before
      ∙ ap (λ (t : List Pair). k4_way m ++ t) (all_dropped n 3 (k4_way n) behind) ∙ append-nil (k4_way m)

  -- When it is deleted again, the text meets what it met before.
  module _ {o : Meaning} {j : ℕ} (deleted : Deleted 3 n o) (has'' : Has o (with_rule 3 None four_rules) j) where
    not_before : InForce m 3 → ⊥
    not_before h = both_ways (is_some (m.kind 3)) (ap is_some added.before) h

    follows : Follows m o
    follows =
        follows_turn has.lawful (follows_turn has.lawful (follows_self m) has.lawful has'.lawful (grown 3 3 added refl) (λ r h e. cc)) has'.lawful has''.lawful
        (shrunk 3 deleted refl) (λ r h e. let same : r ≡ 3 = cc in not_before (subst (InForce m) same h))

    no_others : (r : ℕ) → InForce o r → InForce m r
    no_others r h = elim (cases_eq r 3) [
      | inl e ↦ absurd (both_ways (is_some (o.kind 3)) (ap is_some deleted.after) (subst (InForce o) e h))
      | inr d ↦ ap is_some (sym (added.elsewhere.kinds r d) ∙ sym (deleted.elsewhere.kinds r d)) ∙ h
    ]

    met_again : met o.next o.start k4 ≡ met m.next m.start k4
    met_again =
        ap (λ (s : State). met o.next s k4) (same_start has.lawful follows has''.lawful no_others)
        ∙ same_met has.lawful follows m.start k4 has.lawful.starts

pub added : Answers rule_added
added b e es new low runs calls =
    k4_answered b e (adds 3 3 (codes "k4+") (e + 4) ∷ reads k4 (0 ∷ 1 ∷ 3 ∷ []) 2 ∷ deletes 3 (e + 5) ∷ reads k4 (0 ∷ 1 ∷ []) 0 ∷ []) new low
    (λ m w additive has at.
    adding at has 3 3 (codes "k4+") fours (e + 4) _ fours_spelled refl refl refl refl (omega arith) (omega arith) (λ n w₁ a additive₁ has₁ at₁.
    let worked = ap (distinct_from (k4_way m)) (denoted_met has₁ additive₁ 0 k4 refl) ∙ steps_new has a additive₁ has₁ in
    reading at₁ has₁ additive₁ k4 (0 ∷ 1 ∷ 3 ∷ []) (k4_way n) _ rules_0_1_3 worked (lit≤ tt) (λ w₂ at₂.
    deleting at₂ has₁ 3 (e + 5) _ refl (omega arith) (omega arith) (λ o w₃ d additive₂ has₂ at₃.
    let left = subst (At w₃ o (e + 5)) (steps_left has a additive₁ has₁) at₃ in
    let again = ap (distinct_from (k4_way m)) (met_again has a additive₁ has₁ d has₂ ∙ denoted_met has additive 0 k4 refl) ∙ none_new [] (k4_way m) in
    reading left has₂ additive₂ k4 (0 ∷ 1 ∷ []) [] [] rules_0_1 again (lit≤ tt) (λ w₄ at₄. answered_none w₄))))) es runs calls
