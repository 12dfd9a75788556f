-- The positions that were live before a deletion and are so no more are those of the deleted rule.
use Rattle.std.proofs.Common.{◌≡◌, ℕ, Bool, not, ◌&&◌, List, is_some, Some, None, filter, Option, sym, refl, ap, ◌∙◌, inl, inr}
use Rattle.std.proofs.lemmas.Bool.{ne_eqb, eq-eqb, cases_eq}
use Rattle.states.specs.Sets.{State}
use Rattle.states.specs.Words.{some}
use Rattle.states.specs.Sets.{has, shares}
use Rattle.books.specs.Meaning.{Meaning, is, touches}
use Rattle.books.specs.Changes.{Deleted}
use Rattle.kept.specs.Steps.{Step}
use Rattle.readings.specs.Calls.{without}

module _ (r : ℕ) (m n : Meaning) (d : Deleted r m n) (before after gone : State)
    (was : (p : ℕ) → has before p ≡ is_some (m.owner p)) (now-is : (p : ℕ) → has after p ≡ is_some (n.owner p))
    (minus : (p : ℕ) → has gone p ≡ (has before p && not (has after p))) where
  gone_at : (p : ℕ) (o : Option ℕ) → m.owner p ≡ o → has gone p ≡ is o r
  gone_at p None e = minus p ∙ ap (λ (b : Bool). b && not (has after p)) (was p ∙ ap is_some e)
  gone_at p (Some q) e =
      minus p ∙ ap (λ (b : Bool). b && not (has after p)) (was p ∙ ap is_some e)
      ∙ elim (cases_eq q r) [
        | inl same ↦ ap not (now-is p ∙ ap is_some (d.freed p (e ∙ ap (λ (x : ℕ). Some x) same))) ∙ sym (eq-eqb q r same)
        | inr other ↦ ap not (now-is p ∙ ap is_some ((d.elsewhere.places q p other).1 e)) ∙ sym (ne_eqb q r other)
      ]

  shares_gone : (s : State) → shares s gone ≡ touches m r s
  unfolding touches
  shares_gone s = λ i. some (λ p. has s p && gone_at p (m.owner p) refl i) 256

  -- so the steps that touch them are those whose state holds a position of the rule
  pub drops : (ks : List Step) → filter (λ x. not (shares x.state gone)) ks ≡ without m r ks
  drops ks = λ i. filter (λ (x : Step). not (shares_gone x.state i)) ks
