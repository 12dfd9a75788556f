-- A change of one rule leaves the other rules the expressions that they are. Assumes nothing.
use Rattle.std.proofs.Common.{◌≡◌, ℕ, true, ◌↔◌, Some, sym, refl, ap, ◌∙◌, subst, inl, inr}
use mathlib.Core.Logic.Iff
use Rattle.std.proofs.lemmas.Bool.{both_ways, cases_Bool}
use Rattle.states.specs.Sets.{State, has, has_rule}
use Rattle.books.specs.Meaning.{Meaning, Lawful, touches}
use Rattle.books.specs.Changes.{Elsewhere, Added, Deleted}
use Rattle.expressions.specs.Expression.{Plain}
use Rattle.expressions.specs.Rules.{only, Means, Additive}
use Rattle.expressions.proofs.Members.{same_test, only_holds, only_is, other_is, touched, others_untouched}

-- Rule r is changed from m to n, and rule q is another, with the same positions in the start.
module _ (r q : ℕ) (m n : Meaning) (e : Plain) (other : q ≡ r → ⊥) (elsewhere : Elsewhere r m n)
    (lawful : Lawful n) (additive : Additive n)
    (starts : (p : ℕ) → m.owner p ≡ Some q → n.owner p ≡ Some q → has n.start p ≡ true ↔ has m.start p ≡ true)
    (means : Means m q e) where
  -- where q owns the position before and after
  before : (p : ℕ) → n.owner p ≡ Some q → m.owner p ≡ Some q
  before p o = (elsewhere.places q p other).0 o

  next_same : (p c : ℕ) → n.owner p ≡ Some q → n.next (only p) c ≡ m.next (only p) c
  next_same p c o = elsewhere.nexts (only p) c (others_untouched m q r p (before p o) other) (others_untouched n q r p o other)

  ended_same : (p : ℕ) → n.owner p ≡ Some q → n.ended (only p) ≡ m.ended (only p)
  ended_same p o = elsewhere.endings (only p) (others_untouched m q r p (before p o) other) (others_untouched n q r p o other)

  -- a position that alone ends q is q's
  ends_own : (p : ℕ) → has_rule (n.ended (only p)) q ≡ true → n.owner p ≡ Some q
  ends_own p h = elim (cases_Bool (touches n q (only p))) [
    | inl t ↦ (let w = touched n q (only p) t in subst (λ (x : ℕ). n.owner x ≡ Some q) (only_is p w.0 w.1) w.2)
    | inr t ↦ absurd (both_ways _ (lawful.ends q (only p) t) h)
  ]

  end_owned : n.owner means.end ≡ Some q
  end_owned = (elsewhere.places q means.end other).1 ((means.owns means.end).1 (inr refl))

  pub stays_expression : Means n q e
  stays_expression = record {
    body = means.body;
    end = means.end;
    copy = means.copy;
    distinct = means.distinct;
    owns = λ p. Iff.trans (elsewhere.places q p other) (means.owns p);
    starts = λ p o. Iff.trans (starts p (before p o) o) (means.starts p (before p o));
    steps = λ p c x o.
        let same = ap (λ (s : State). has s x) (next_same p c o) in
        let was = means.steps p c x (before p o) in
        (λ h. was.0 (sym same ∙ h), λ h. same ∙ was.1 h);
    ends = λ s. same_test _ _ (ended_holds s) (holds_ended s);
  }
    where
      ended_holds : (s : State) → has_rule (n.ended s) q ≡ true → has s means.end ≡ true
      ended_holds s h =
          let (p, k, x) = (additive.endings s q).0 h in
          let o = ends_own p x in
          let alone : has (only p) means.end ≡ true = sym (means.ends (only p)) ∙ ap (λ z. has_rule z q) (sym (ended_same p o)) ∙ x in
          subst (λ (y : ℕ). has s y ≡ true) (sym (only_is p means.end alone)) k

      holds_ended : (s : State) → has s means.end ≡ true → has_rule (n.ended s) q ≡ true
      holds_ended s h =
          let alone = only_holds means.end (lawful.owners means.end q end_owned).0 in
          (additive.endings s q).1 (means.end, h, ap (λ z. has_rule z q) (ended_same means.end end_owned) ∙ means.ends (only means.end) ∙ alone)

-- adding rule r leaves every other rule the expression that it is
pub added_stays : (r k q : ℕ) (m n : Meaning) (e : Plain) → Added r k m n → (q ≡ r → ⊥) → Lawful n → Additive n → Means m q e → Means n q e
added_stays r k q m n e added other lawful additive =
    stays_expression r q m n e other added.elsewhere lawful additive
    (λ p o o'. (added.gains p (other_is (n.owner p) q r o' other), added.keeps p))

-- deleting rule r leaves every other rule the expression that it is
pub deleted_stays : (r q : ℕ) (m n : Meaning) (e : Plain) → Deleted r m n → (q ≡ r → ⊥) → Lawful n → Additive n → Means m q e → Means n q e
deleted_stays r q m n e deleted other lawful additive =
    stays_expression r q m n e other deleted.elsewhere lawful additive
    (λ p o o'. let same = deleted.stays p (other_is (m.owner p) q r o other) in (λ h. sym same ∙ h, λ h. same ∙ h))
