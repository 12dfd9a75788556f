-- A new reader whose book gets the three rules, and which reads `k4` then. Assumes nothing.
use Rattle.std.proofs.Common.{◌≡◌, ℕ, ◌+◌, ◌≤◌, List, [], ◌∷◌, ◌++◌, Some, codes, refl, ap, ◌∙◌, arith, lit≤}
use Rattle.states.specs.Sets.{rules_of, with_members, words_of}
use Rattle.states.specs.Words.{digits_of}
use Rattle.books.specs.Meaning.{Meaning, Model}
use Rattle.readings.specs.Views.{View, fresh}
use Rattle.readings.specs.Runs.{Pair}
use Rattle.readings.specs.Calls.{final}
use Rattle.readings.specs.Entries.{distinct_from}
use Rattle.expressions.specs.Rules.{Additive}
use Rattle.worked.specs.Lines.{Line, NoRules, these, reads}
use Rattle.worked.specs.Worked.{three_rules, k4_read}
use Rattle.worked.proofs.Rules.{Expressions, Has, no_rules, has_none, with_rule, denoted_by}
use Rattle.worked.proofs.Pairs.{way, all_new, other_code}
use Rattle.worked.proofs.Calls.{At, at_first}
use Rattle.worked.proofs.Patterns.{number, four, kerf, number_spelled, four_spelled, kerf_spelled}
use Rattle.worked.proofs.Answering.{Answered, adding, reading, denoted_met}

abbrev pub three : Expressions
three = with_rule 2 (Some kerf) (with_rule 1 (Some four) (with_rule 0 (Some number) no_rules))

-- the lines behind the three addings
pub three_added : (b : Model) (e : ℕ) (ls : List Line) → NoRules b.meaning → e + 5 ≤ final
    → ((m : Meaning) (w : View) → Additive m → Has m three 13 → At w m (e + 3) [] → Answered w ls) → Answered (fresh b e) (three_rules e ++ ls)
three_added b e ls new low more =
    adding (at_first b e new.lawful) (has_none b.meaning new) 0 0 (codes "k[0-9]+") number (e + 1) _ number_spelled refl refl refl refl (omega arith) (omega arith)
    (λ m₁ w₁ a₁ additive₁ has₁ at₁. adding at₁ has₁ 1 1 (codes "k4") four (e + 2) _ four_spelled refl refl refl refl (omega arith) (omega arith)
    (λ m₂ w₂ a₂ additive₂ has₂ at₂. adding at₂ has₂ 2 2 (codes "kerf|ke") kerf (e + 3) ls kerf_spelled refl refl refl refl (omega arith) (omega arith)
    (λ m w a additive has at. more m w additive has at)))

-- ---- `k4`

abbrev pub k4 : List ℕ
k4 = 107 ∷ 52 ∷ []

-- its way in a book
abbrev pub k4_way : Meaning → List Pair
k4_way m = way m.next m.start k4

-- the two codes differ
pub k4_new : (m : Meaning) → distinct_from [] (k4_way m) ≡ k4_way m
k4_new m = all_new [] (k4_way m) (tt, ((other_code refl, tt), tt))

-- the rules that it meets
pub k4_rules : (rules_of (λ r. denoted_by k4 (three r))).words ≡ (these (0 ∷ 1 ∷ [])).words
unfolding with_members words_of digits_of
k4_rules = refl

-- the lines behind a first reading of it
pub k4_answered : (b : Model) (e : ℕ) (ls : List Line) → NoRules b.meaning → e + 5 ≤ final
    → ((m : Meaning) (w : View) → Additive m → Has m three 13 → At w m (e + 3) (k4_way m) → Answered w ls) → Answered (fresh b e) (k4_read e ++ ls)
k4_answered b e ls new low more = three_added b e (reads k4 (0 ∷ 1 ∷ []) 2 ∷ ls) new low (λ m w additive has at.
    reading at has additive k4 (0 ∷ 1 ∷ []) (k4_way m) ls k4_rules (ap (distinct_from []) (denoted_met has additive 0 k4 refl) ∙ k4_new m) (lit≤ tt)
    (λ w' at'. more m w' additive has at'))
