-- What texts meet, and which tokens are found, told by what the expressions of the rules denote.
use Rattle.std.specs.Prelude.{◌≡◌, ℕ, ◌<◌, ◌≤◌, true, ◌↔◌, List, length, take}
use Rattle.states.specs.Sets.{Rules, has_rule}
use Rattle.books.specs.Meaning.{Meaning}
use Rattle.readings.specs.Readings.{Told}
use Rattle.readings.specs.Readings.Told.{matched, refused}
use Rattle.expressions.specs.Expression.{Plain, Denotes}
use Rattle.expressions.specs.Rules.{Means}

-- the expression of rule r denotes the text
abbrev pub RuleDenotes : Meaning → List ℕ → ℕ → Type 0
RuleDenotes m text r = (e : Plain) × Means m r e × Denotes e text

-- these are exactly the rules whose expressions denote the text
abbrev pub DenotedBy : Meaning → List ℕ → Rules → Type 0
DenotedBy m text rules = (r : ℕ) → has_rule rules r ≡ true ↔ RuleDenotes m text r

-- the expression of some rule denotes the text
abbrev pub SomeDenotes : Meaning → List ℕ → Type 0
SomeDenotes m text = (r : ℕ) × RuleDenotes m text r

-- n is the length of the longest beginning, not empty, that the expression of some rule denotes
pub record LongestDenoted (m : Meaning) (text : List ℕ) (n : ℕ) : Type 0 where
  pub some : 1 ≤ n
  pub within : n ≤ length text
  pub denoted : SomeDenotes m (take n text)
  pub longer : (k : ℕ) → n < k → k ≤ length text → SomeDenotes m (take k text) → ⊥

-- What a search for a token in the rest of a text, from a place on, tells: the longest beginning that some rule's expression denotes,
-- with all the rules whose expressions denote it; or that there is none.
pub data Finds (m : Meaning) (rest : List ℕ) (place : ℕ) : Told → Type 0 where
  finds : (n : ℕ) (rules : Rules) → LongestDenoted m rest n → DenotedBy m (take n rest) rules → Finds m rest place (matched place n rules)
  fails : ((k : ℕ) → 1 ≤ k → k ≤ length rest → SomeDenotes m (take k rest) → ⊥) → Finds m rest place (refused 14 1 place)
