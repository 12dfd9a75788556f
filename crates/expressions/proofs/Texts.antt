-- A whole text meets a rule exactly when the rule's expression denotes it. Assumes nothing.
use Rattle.std.proofs.Common.{◌≡◌, ℕ, true, ◌↔◌, List, [], ◌∷◌, Some, sym, refl, ◌∙◌, subst, inr}
use mathlib.Core.Logic.Iff
use Rattle.states.specs.Sets.{State, has, has_rule}
use Rattle.books.specs.Meaning.{Meaning, Lawful}
use Rattle.books.specs.Texts.{after, meets}
use Rattle.expressions.specs.Expression.{Plain, Denotes}
use Rattle.expressions.specs.Positions.{Positions, First, followed_by}
use Rattle.expressions.specs.Rules.{Means, Additive}
use Rattle.expressions.proofs.Owned.{first_owned, follow_owned}
use Rattle.expressions.proofs.Followed.{Ahead_of, firsts_read}
use Rattle.expressions.proofs.Members.{leads_from_own}

module _ (m : Meaning) (r : ℕ) (e : Plain) (law : Lawful m) (additive : Additive m) (means : Means m r e) where
  abbrev Here : State → Positions
  Here s p = (has s p ≡ true) × (m.owner p ≡ Some r)

  abbrev Reads : Positions → List ℕ → Type 0
  Reads = Ahead_of means.body means.end means.distinct

  -- a text leads from a state to the end exactly when it leads there from some position of the rule in the state
  after_reads : (text : List ℕ) (s : State) → has (after m.next s text) means.end ≡ true ↔ Reads (Here s) text
  after_reads [] s = (λ h. (means.end, (h, (means.owns means.end).1 (inr refl)), refl), λ (p, (h, o), x). subst (λ (q : ℕ). has s q ≡ true) x h)
  after_reads (c ∷ text) s = through (after_reads text (m.next s c))
    where
      through : has (after m.next (m.next s c) text) means.end ≡ true ↔ Reads (Here (m.next s c)) text →
          has (after m.next (m.next s c) text) means.end ≡ true ↔ Reads (Here s) (c ∷ text)
      through i = (
        λ h.
            let (q, (n, o), x) = i.0 h in
            let (p, k, l) = (additive.nexts s c q).0 n in
            let own = leads_from_own m law r p c q o l in
            let both = (means.steps p c q own).0 l in
            (p, (k, own), (both.0, (q, both.1, x))),
        λ (p, (k, own), (t, (q, f, x))).
            let o = (means.owns q).1 (follow_owned (followed_by means.body means.end) p q f).1 in
            i.1 (q, ((additive.nexts s c q).1 (p, k, (means.steps p c q own).1 (t, f)), o), x),
      )

  -- of the rule's positions the start holds the firsts
  start_reads : (text : List ℕ) → Reads (Here m.start) text ↔ Reads (First (followed_by means.body means.end)) text
  start_reads text = (
    λ (p, (h, o), x). (p, (means.starts p o).0 h, x),
    λ (p, f, x).
        let o = (means.owns p).1 (first_owned (followed_by means.body means.end) p f) in
        (p, ((means.starts p o).1 f, o), x),
  )

  pub meets_denoted : (text : List ℕ) → has_rule (meets m text) r ≡ true ↔ Denotes e text
  meets_denoted text =
      let ends = means.ends (after m.next m.start text) in
      let texts = Iff.trans (after_reads text m.start) (Iff.trans (start_reads text) (firsts_read means.body means.end means.distinct text)) in (
        λ h. subst (λ (x : Plain). Denotes x text) means.copy (texts.0 (sym ends ∙ h)),
        λ d. ends ∙ texts.1 (subst (λ (x : Plain). Denotes x text) (sym means.copy) d),
      )

-- a rule is two expressions only if they denote the same texts
pub same_texts : (m : Meaning) (r : ℕ) (e e' : Plain) → Lawful m → Additive m → Means m r e → Means m r e' → (text : List ℕ) →
    Denotes e text ↔ Denotes e' text
same_texts m r e e' law additive means means' text =
    Iff.trans (Iff.symm (meets_denoted m r e law additive means text)) (meets_denoted m r e' law additive means' text)
