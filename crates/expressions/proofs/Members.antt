-- States that hold one position alone, and the positions of a rule in a state. Assumes nothing.
use Rattle.std.proofs.Common.{◌≡◌, ℕ, ◌<◌, Bool, true, false, eqb, Some, None, Option, sym, refl, ap, ◌∙◌, subst, inl, inr}
use Rattle.std.proofs.lemmas.Bool.{both_ways, cases_Bool, eqb-true, eq-eqb, ne_eqb}
use Rattle.states.specs.Sets.{State, has}
use Rattle.states.proofs.Members.{has_set_of, member_below, some_member}
use Rattle.books.specs.Meaning.{Meaning, Lawful, is, touches}
use Rattle.expressions.specs.Rules.{only}

-- two tests are the same that hold on the same terms
pub same_test : (a b : Bool) → (a ≡ true → b ≡ true) → (b ≡ true → a ≡ true) → a ≡ b
same_test a b f g = elim (cases_Bool a) [
  | inl t ↦ t ∙ sym (f t)
  | inr t ↦ elim (cases_Bool b) [ inl u ↦ absurd (both_ways a t (g u)) | inr u ↦ t ∙ sym u ]
]

-- ---- one position alone

pub only_holds : (p : ℕ) → p < 256 → has (only p) p ≡ true
unfolding only
only_holds p l = has_set_of (λ q. eqb q p) p l ∙ eq-eqb p p refl

pub only_is : (p q : ℕ) → has (only p) q ≡ true → q ≡ p
unfolding only
only_is p q h = eqb-true q p (sym (has_set_of (λ x. eqb x p) q (member_below (only p) q h)) ∙ h)

-- ---- owners

pub is_some : (o : Option ℕ) (r : ℕ) → is o r ≡ true → o ≡ Some r
is_some None r h = absurd (both_ways false refl h)
is_some (Some q) r h = ap (λ (x : ℕ). Some x) (eqb-true q r h)

pub some_is : (o : Option ℕ) (r : ℕ) → o ≡ Some r → is o r ≡ true
some_is o r e = ap (λ (x : Option ℕ). is x r) e ∙ eq-eqb r r refl

-- another owner is not r
pub other_is : (o : Option ℕ) (q r : ℕ) → o ≡ Some q → (q ≡ r → ⊥) → is o r ≡ false
other_is o q r e d = ap (λ (x : Option ℕ). is x r) e ∙ ne_eqb q r d

-- ---- the positions of a rule in a state

pub touching : (m : Meaning) (r p : ℕ) (s : State) → has s p ≡ true → m.owner p ≡ Some r → touches m r s ≡ true
unfolding touches
touching m r p s h o = (some_member s (λ q. is (m.owner q) r)).1 (p, h, some_is (m.owner p) r o)

pub touched : (m : Meaning) (r : ℕ) (s : State) → touches m r s ≡ true → (p : ℕ) × (has s p ≡ true) × (m.owner p ≡ Some r)
unfolding touches
touched m r s t = let w = (some_member s (λ q. is (m.owner q) r)).0 t in (w.0, w.1, is_some (m.owner w.0) r w.2)

-- a state that leads to a position of a rule, and holds p alone: p is the rule's
pub leads_from_own : (m : Meaning) → Lawful m → (r p c q : ℕ) → m.owner q ≡ Some r → has (m.next (only p) c) q ≡ true → m.owner p ≡ Some r
leads_from_own m law r p c q o h = elim (cases_Bool (touches m r (only p))) [
  | inl t ↦ (let w = touched m r (only p) t in subst (λ (x : ℕ). m.owner x ≡ Some r) (only_is p w.0 w.1) w.2)
  | inr t ↦ absurd (both_ways _ (law.apart r (only p) c t) (touching m r q (m.next (only p) c) h o))
]

-- a position that another rule owns touches not r
pub others_untouched : (m : Meaning) (q r p : ℕ) → m.owner p ≡ Some q → (q ≡ r → ⊥) → touches m r (only p) ≡ false
others_untouched m q r p o d = elim (cases_Bool (touches m r (only p))) [
  | inl t ↦ (
      let w = touched m r (only p) t in
      let e : m.owner p ≡ Some r = subst (λ (x : ℕ). m.owner x ≡ Some r) (only_is p w.0 w.1) w.2 in
      absurd (both_ways _ (other_is (m.owner p) q r o d) (some_is (m.owner p) r e)))
  | inr t ↦ t
]
