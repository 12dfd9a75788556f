-- A change of the same rule leaves books with the same rules. Assumes nothing.
use Rattle.std.proofs.Common.{◌≡◌, ℕ, List, is_some, sym, refl, ap, ◌∙◌, subst, inl, inr}
use Rattle.std.proofs.lemmas.Bool.{both_ways, cases_eq}
use Rattle.books.specs.Meaning.{Meaning, InForce}
use Rattle.books.specs.Changes.{Elsewhere}
use Rattle.readings.specs.Views.{View}
use Rattle.readings.specs.Readings.{Told}
use Rattle.readings.specs.Calls.{Call, Does}
use Rattle.readings.specs.Changing.{AddedBy, DeletedBy}
use Rattle.readings.proofs.Acting.{acts_does}
use Rattle.expressions.specs.Expression.{Plain}
use Rattle.expressions.specs.Rules.{Means, SameRules, refusal}
use Rattle.expression_book.specs.Promises.{ExpressionAdded, ExpressionDeleted}
use Rattle.alike.specs.Runs.{ExpressionActs}

-- what is known of an accepted adding and an accepted deletion
abbrev pub Writes : ℕ → ℕ → ℕ → List ℕ → Meaning → Meaning → Type 0
Writes last = AddedBy (refusal last) (λ r k bytes. ExpressionAdded last r bytes)

abbrev pub Strikes : ℕ → Meaning → Meaning → Type 0
Strikes = DeletedBy ExpressionDeleted

pub run_does : (last : ℕ) (call : Call) (t : Told) (n : ℕ) (v w : View) → ExpressionActs last call t n v w → Does call t n v w
run_does last = acts_does (refusal last) (λ r k bytes. ExpressionAdded last r bytes) ExpressionDeleted

-- ---- the same change of books with the same rules

module _ (m n m' n' : Meaning) (same : SameRules m n) where
  -- the other rules keep their kinds and expressions
  others : (r : ℕ) → Elsewhere r m m' → Elsewhere r n n' →
      ((q : ℕ) (e : Plain) → (q ≡ r → ⊥) → Means m q e → Means m' q e) → ((q : ℕ) (e : Plain) → (q ≡ r → ⊥) → Means n q e → Means n' q e) →
      n'.kind r ≡ m'.kind r → (InForce m' r → (e : Plain) × Means m' r e × Means n' r e) → SameRules m' n'
  others r left right stay stay' here means = record {
    kinds = λ q. elim (cases_eq q r) [
      | inl e ↦ ap n'.kind e ∙ here ∙ ap m'.kind (sym e)
      | inr d ↦ right.kinds q d ∙ same.kinds q ∙ sym (left.kinds q d)
    ];
    expressions = λ q h. elim (cases_eq q r) [
      | inl e ↦ subst (λ (x : ℕ). (e : Plain) × Means m' x e × Means n' x e) (sym e) (means (subst (InForce m') e h))
      | inr d ↦ (let (e, a, b) = same.expressions q (ap is_some (sym (left.kinds q d)) ∙ h) in (e, stay q e d a, stay' q e d b))
    ];
  }

  pub added_same : (last r k : ℕ) (bytes : List ℕ) → Writes last r k bytes m m' → Writes last r k bytes n n' → SameRules m' n'
  added_same last r k bytes a b =
      let x = a.grown.adopts in
      let y = b.grown.adopts in
      others r a.added.elsewhere b.added.elsewhere a.grown.others.expressions b.grown.others.expressions (b.added.after ∙ sym a.added.after)
      (λ h. (x.expression, x.means, subst (Means n' r) ((x.spelled y.expression).0 ((y.spelled y.expression).1 refl)) y.means))

  pub deleted_same : (r : ℕ) → Strikes r m m' → Strikes r n n' → SameRules m' n'
  deleted_same r a b =
      others r a.deleted.elsewhere b.deleted.elsewhere a.shrunk.others.expressions b.shrunk.others.expressions
      (b.deleted.after ∙ sym a.deleted.after) (λ h. absurd (both_ways _ (ap is_some a.deleted.after) h))
