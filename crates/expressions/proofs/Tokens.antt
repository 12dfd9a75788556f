-- The token law: the longest beginning that ends a rule is the longest that some rule's expression denotes. Assumes nothing.
use Rattle.std.proofs.Common.{◌≡◌, ℕ, true, false, ◌↔◌, List, take, is_some, refl, subst, inl, inr}
use Rattle.std.proofs.lemmas.Bool.{both_ways, cases_Bool, cases_lt}
use Rattle.std.proofs.lemmas.Bool.Decides.{Decides-below_or}
use Rattle.states.specs.Sets.{Rules, has_rule, no_rule}
use Rattle.states.specs.Words.{some}
use Rattle.states.proofs.Members.{same_rules, is_empty_decides, rules_above}
use Rattle.books.specs.Meaning.{Meaning, Lawful}
use Rattle.books.specs.Texts.{meets}
use Rattle.readings.specs.Readings.{Told, Longest, Searches}
use Rattle.readings.specs.Readings.Told.{matched}
use Rattle.readings.specs.Readings.Searches.{finds, fails}
use Rattle.expressions.specs.Rules.{Additive, Expressed}
use Rattle.expressions.specs.Tokens.{RuleDenotes, DenotedBy, SomeDenotes, LongestDenoted, Finds}
use Rattle.expressions.specs.Tokens as Tokens
use Rattle.expressions.proofs.Members.{same_test}
use Rattle.expressions.proofs.Texts.{meets_denoted}
use Rattle.expressions.proofs.Alike.{ends_none}

-- a set of rules that is not empty has a member
some_rule : (rules : Rules) → no_rule rules ≡ false → (r : ℕ) × (has_rule rules r ≡ true)
unfolding some
some_rule rules h =
    let d = Decides-below_or (has_rule rules) (λ r. has_rule rules r ≡ true) (some (has_rule rules)) (λ r. (λ x. x, λ x. x)) refl (λ n. refl) 64 in
    elim (cases_Bool (some (has_rule rules) 64)) [
      | inl t ↦ (let w = d.0 t in (w.0, w.2))
      | inr t ↦ absurd (both_ways (no_rule rules) h ((is_empty_decides rules _ refl).1 (λ r. elim (cases_lt r 64) [
        | inl l ↦ elim (cases_Bool (has_rule rules r)) [ inl x ↦ absurd (both_ways _ t (d.1 (r, l, x))) | inr x ↦ x ]
        | inr l ↦ rules_above rules r l
      ])))
    ]

-- two sets of rules that hold on the same terms
denoted_once : (m : Meaning) (text : List ℕ) (a b : Rules) → DenotedBy m text a → DenotedBy m text b → a ≡ b
denoted_once m text a b f g = same_rules a b (λ r l. same_test _ _ (λ h. (g r).1 ((f r).0 h)) (λ h. (f r).1 ((g r).0 h)))

module _ (m : Meaning) (lawful : Lawful m) (additive : Additive m) (expressed : Expressed m) where
  -- a whole text meets exactly the rules whose expressions denote it
  pub meets_all : (text : List ℕ) → DenotedBy m text (meets m text)
  meets_all text r = (
    λ h. elim (cases_Bool (is_some (m.kind r))) [
      | inl t ↦ (let (e, means) = expressed r t in (e, means, (meets_denoted m r e lawful additive means text).0 h))
      | inr t ↦ absurd (both_ways _ (ends_none m r _ lawful t) h)
    ],
    λ (e, means, d). (meets_denoted m r e lawful additive means text).1 d,
  )

  meets_some : (text : List ℕ) → no_rule (meets m text) ≡ false → SomeDenotes m text
  meets_some text h = let (r, k) = some_rule (meets m text) h in (r, (meets_all text r).0 k)

  some_meets : (text : List ℕ) → SomeDenotes m text → no_rule (meets m text) ≡ false
  some_meets text (r, d) = elim (cases_Bool (no_rule (meets m text))) [
    | inl t ↦ absurd (both_ways _ ((is_empty_decides (meets m text) _ refl).0 t r) ((meets_all text r).1 d))
    | inr t ↦ t
  ]

  none_meets : (text : List ℕ) → (SomeDenotes m text → ⊥) → no_rule (meets m text) ≡ true
  none_meets text n = elim (cases_Bool (no_rule (meets m text))) [ inl t ↦ t | inr t ↦ absurd (n (meets_some text t)) ]

  -- the longest beginning, by endings and by expressions
  pub longest_denoted : (text : List ℕ) (n : ℕ) → Longest m m.next text n ↔ LongestDenoted m text n
  longest_denoted text n = (
    λ l. record {
      some = l.some;
      within = l.within;
      denoted = meets_some (take n text) l.ends;
      longer = λ k a b d. both_ways _ (some_meets (take k text) d) (l.longer k a b);
    },
    λ l. record {
      some = l.some;
      within = l.within;
      ends = some_meets (take n text) l.denoted;
      longer = λ k a b. none_meets (take k text) (l.longer k a b);
    },
  )

  -- what a search tells, by endings and by expressions
  pub search_denoted : (rest : List ℕ) (place : ℕ) (t : Told) → Searches m m.next rest place t ↔ Finds m rest place t
  search_denoted rest place t = (to, from)
    where
      to : {t : Told} → Searches m m.next rest place t → Finds m rest place t
      to (finds n l) = Tokens.finds n (meets m (take n rest)) ((longest_denoted rest n).0 l) (meets_all (take n rest))
      to (fails h) = Tokens.fails (λ k a b d. both_ways _ (some_meets (take k rest) d) (h k a b))

      from : {t : Told} → Finds m rest place t → Searches m m.next rest place t
      from (Tokens.finds n rules l d) =
          subst (λ (x : Rules). Searches m m.next rest place (matched place n x)) (denoted_once m (take n rest) _ _ (meets_all (take n rest)) d)
          (finds n ((longest_denoted rest n).1 l))
      from (Tokens.fails h) = fails (λ k a b. none_meets (take k rest) (h k a b))
