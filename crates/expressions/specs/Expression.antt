-- Regular expressions over codes, and the sets of texts that they denote. A text is a list of codes.
use Rattle.std.specs.Prelude.{◌≡◌, ℕ, ◌+◌, ◌≤◌, ◌⊎◌, List, [], ◌∷◌, ◌++◌}

-- An expression. Each symbol carries a label, and takes any one code from its low to its high one.
pub data Expr (L : Type 0) : Type 0 where
  empty : Expr L
  symbol : L → ℕ → ℕ → Expr L
  join : Expr L → Expr L → Expr L
  either : Expr L → Expr L → Expr L
  star : Expr L → Expr L
  plus : Expr L → Expr L
  optional : Expr L → Expr L

-- without labels
abbrev pub Plain : Type 0
Plain = Expr (Unit {0})

-- each symbol labelled with its position
abbrev pub Labelled : Type 0
Labelled = Expr ℕ

-- the expression without its labels
abbrev pub plain : {L : Type 0} → Expr L → Plain
plain empty = empty
plain (symbol l low high) = symbol tt low high
plain (join a b) = join (plain a) (plain b)
plain (either a b) = either (plain a) (plain b)
plain (star a) = star (plain a)
plain (plus a) = plus (plain a)
plain (optional a) = optional (plain a)

-- how many symbols it has
abbrev pub symbols : {L : Type 0} → Expr L → ℕ
symbols empty = 0
symbols (symbol l low high) = 1
symbols (join a b) = symbols a + symbols b
symbols (either a b) = symbols a + symbols b
symbols (star a) = symbols a
symbols (plus a) = symbols a
symbols (optional a) = symbols a

-- a set of texts
abbrev pub Language : Type 1
Language = List ℕ → Type 0

-- the empty text alone
abbrev pub Nothing : Language
Nothing w = w ≡ []

-- one text of each set, the second behind the first
abbrev pub Concatenation : Language → Language → Language
Concatenation R S w = (u : List ℕ) × (v : List ℕ) × (w ≡ u ++ v) × R u × S v

abbrev pub Union : Language → Language → Language
Union R S w = R w ⊎ S w

-- any number of texts of the set, one behind the other
pub data Repetition (R : Language) : List ℕ → Type 0 where
  none : {w : List ℕ} → w ≡ [] → Repetition R w
  again : {w : List ℕ} (u v : List ℕ) → w ≡ u ++ v → R u → Repetition R v → Repetition R w

-- the texts of one code, from low to high
abbrev pub OneOf : ℕ → ℕ → Language
OneOf low high w = (c : ℕ) × (low ≤ c) × (c ≤ high) × (w ≡ c ∷ [])

-- the set of texts that an expression denotes
abbrev pub Denotes : {L : Type 0} → Expr L → Language
Denotes empty = Nothing
Denotes (symbol l low high) = OneOf low high
Denotes (join a b) = Concatenation (Denotes a) (Denotes b)
Denotes (either a b) = Union (Denotes a) (Denotes b)
Denotes (star a) = Repetition (Denotes a)
Denotes (plus a) = Concatenation (Denotes a) (Repetition (Denotes a))
Denotes (optional a) = Union Nothing (Denotes a)
