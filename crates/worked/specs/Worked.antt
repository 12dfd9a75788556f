-- The worked lines, as one result about what the definitions mean.
use Rattle.std.specs.Prelude.{◌≡◌, ℕ, ◌+◌, true, false, List, [], ◌∷◌, ◌++◌, map, Err, sum, codes}
use Rattle.states.specs.Sets.{has_rule}
use Rattle.books.specs.Texts.{meets}
use Rattle.books.specs.Refusals.{at}
use Rattle.numbers.specs.Number.{number_meaning}
use Rattle.patterns.specs.declared.faults.PatternFault.{PatternFault}
use Rattle.patterns.specs.Refusals.{told}
use Rattle.patterns.specs.Outcome.{outcome}
use Rattle.worked.specs.Lines.{Line, commands, adds, deletes, reads, finds, finds_none, Answers}

-- the rules, and the calls that add them, behind edition e
abbrev pub three_rules : ℕ → List Line
three_rules e = adds 0 0 (codes "k[0-9]+") (e + 1) ∷ adds 1 1 (codes "k4") (e + 2) ∷ adds 2 2 (codes "kerf|ke") (e + 3) ∷ []

-- a first reading of `k4`: both steps are worked out
abbrev pub k4_read : ℕ → List Line
k4_read e = three_rules e ++ reads (codes "k4") (0 ∷ 1 ∷ []) 2 ∷ []

-- The same text again works nothing out, `k45` one step more, and the empty text meets nothing.
abbrev pub texts_read : ℕ → List Line
texts_read e = k4_read e ++ reads (codes "k4") (0 ∷ 1 ∷ []) 0 ∷ reads (codes "k45") (0 ∷ []) 1 ∷ reads [] [] 0 ∷ []

-- A token is the longest one, with a look at all of `kerx`; behind it there is none.
abbrev pub tokens_read : ℕ → List Line
tokens_read e = three_rules e ++ finds (codes "kerx") 0 2 (2 ∷ []) 4 ∷ finds_none (codes "kerx") 2 1 ∷ []

-- A new rule has positions of its own, so that new steps are worked out; when it is gone, the old ones are still kept.
abbrev pub rule_added : ℕ → List Line
rule_added e =
    k4_read e ++ adds 3 3 (codes "k4+") (e + 4) ∷ reads (codes "k4") (0 ∷ 1 ∷ 3 ∷ []) 2
    ∷ deletes 3 (e + 5) ∷ reads (codes "k4") (0 ∷ 1 ∷ []) 0 ∷ []

-- A deletion drops the steps from states that hold a position of the rule.
abbrev pub rule_deleted : ℕ → List Line
rule_deleted e = k4_read e ++ deletes 1 (e + 4) ∷ reads (codes "k4") (0 ∷ []) 2 ∷ []

-- the pattern text is refused by this number, at this place
abbrev pub PatternRefused : List ℕ → ℕ → ℕ → Type 0
PatternRefused text number place = (f : PatternFault) × (outcome text ≡ Err f) × (told f ≡ at number 4 place)

-- how many steps the lines work out, all together
abbrev pub steps_of : List Line → ℕ
steps_of lines = sum (map (λ (l : Line). l.count) lines)

pub record WorkedLines (steps : ℕ) : Type 0 where
  pub texts : Answers texts_read
  pub tokens : Answers tokens_read
  pub added : Answers rule_added
  pub deleted : Answers rule_deleted
  -- of the number book
  pub number : has_rule (meets number_meaning (codes "12.5mm")) 0 ≡ true
  pub no_number : has_rule (meets number_meaning (codes "12.")) 0 ≡ false
  -- of pattern texts: C a, C b, S, A
  pub choice : commands (codes "a|b*") ≡ codes "C" ++ 0 ∷ codes "a" ++ codes "C" ++ 0 ∷ codes "b" ++ codes "SA"
  pub empty_class : PatternRefused (codes "[]") 21 0
  pub falling_range : PatternRefused (codes "[z-a]") 20 1
  pub sign_alone : PatternRefused (codes "a|*") 22 2
  pub bracket_alone : PatternRefused (codes "(a") 23 0
  -- the steps of all calls
  pub together : steps ≡ steps_of (texts_read 0) + (steps_of (tokens_read 0) + (steps_of (rule_added 0) + steps_of (rule_deleted 0)))
