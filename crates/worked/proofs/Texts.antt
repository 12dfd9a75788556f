-- `k4` again, `k45` and the empty text, behind a first reading of `k4`. Assumes nothing.
use Rattle.std.proofs.Common.{◌≡◌, ℕ, List, [], ◌∷◌, refl, ap, ◌∙◌, lit≤}
use Rattle.states.specs.Sets.{rules_of, with_members, words_of}
use Rattle.states.specs.Words.{digits_of}
use Rattle.books.specs.Meaning.{Meaning}
use Rattle.readings.specs.Runs.{Pair}
use Rattle.readings.specs.Entries.{distinct_from}
use Rattle.worked.specs.Lines.{these, reads, Answers}
use Rattle.worked.specs.Worked.{texts_read}
use Rattle.worked.proofs.Rules.{denoted_by}
use Rattle.worked.proofs.Pairs.{way, none_new, new_behind, other_code}
use Rattle.worked.proofs.Answering.{answered_none, reading, denoted_met}
use Rattle.worked.proofs.Three.{three, k4, k4_way, k4_rules, k4_answered}

abbrev k45 : List ℕ
k45 = 107 ∷ 52 ∷ 53 ∷ []

-- the last step of it
abbrev last : Meaning → Pair
last m = (m.next (m.next m.start 107) 52, 53)

last_new : (m : Meaning) → distinct_from (k4_way m) (way m.next m.start k45) ≡ last m ∷ []
last_new m = new_behind (k4_way m) (last m ∷ []) ((other_code refl, (other_code refl, tt)), tt)

k45_rules : (rules_of (λ r. denoted_by k45 (three r))).words ≡ (these (0 ∷ [])).words
unfolding with_members words_of digits_of
k45_rules = refl

no_rules_met : (rules_of (λ r. denoted_by [] (three r))).words ≡ (these []).words
unfolding with_members words_of digits_of
no_rules_met = refl

pub texts : Answers texts_read
texts b e es new low runs calls = k4_answered b e (reads k4 (0 ∷ 1 ∷ []) 0 ∷ reads k45 (0 ∷ []) 1 ∷ reads [] [] 0 ∷ []) new low (λ m w additive has at.
    let again = ap (distinct_from (k4_way m)) (denoted_met has additive 0 k4 refl) ∙ none_new [] (k4_way m) in
    reading at has additive k4 (0 ∷ 1 ∷ []) [] _ k4_rules again (lit≤ tt) (λ w₁ at₁.
    let longer = ap (distinct_from (k4_way m)) (denoted_met has additive 0 k45 refl) ∙ last_new m in
    reading at₁ has additive k45 (0 ∷ []) (last m ∷ []) _ k45_rules longer (lit≤ tt) (λ w₂ at₂.
    reading at₂ has additive [] [] [] [] no_rules_met refl (lit≤ tt) (λ w₃ at₃. answered_none w₃)))) es runs calls
