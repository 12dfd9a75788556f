-- The texts that are numbers, and the number book as positions and states.
use Rattle.std.specs.Prelude.{◌≡◌, ℕ, ◌≤◌, Bool, false, cond, ◌&&◌, ◌||◌, ◌⊎◌, List, [], ◌∷◌, ◌++◌, Some, None, ◌==◌, ◌≢◌, nat_eq, nat_le, nat_lt, slice_index_or}
use Rattle.std.specs.List.{AllByRecursion}
use Rattle.states.specs.Sets.{State, has, set_of, rules_of}
use Rattle.states.specs.Words.{some}
use Rattle.books.specs.Meaning.{Meaning, Model, counting}
use Rattle.expressions.specs.Expression.{Plain}
use Rattle.expressions.specs.Expression.Expr.{symbol, join, plus, optional}

-- ---- the texts, as lists of codes

-- one or more digits, whose codes are 48 to 57
abbrev pub Digits : List ℕ → Type 0
Digits t = (t ≢ []) × AllByRecursion (λ c. (48 ≤ c) × (c ≤ 57)) t

-- nothing, or '.' and digits
abbrev pub Fraction : List ℕ → Type 0
Fraction t = (t ≡ []) ⊎ ((d : List ℕ) × (t ≡ 46 ∷ d) × Digits d)

-- nothing, or "mm"
abbrev pub UnitMm : List ℕ → Type 0
UnitMm t = (t ≡ []) ⊎ (t ≡ 109 ∷ 109 ∷ [])

-- digits, a fraction and a unit, one after the other
abbrev pub Number : List ℕ → Type 0
Number t = (a : List ℕ) × (b : List ℕ) × (u : List ℕ) × (t ≡ a ++ (b ++ u)) × Digits a × Fraction b × UnitMm u

-- the same as an expression: digits, perhaps '.' and digits, perhaps "mm"
abbrev pub digit_expression : Plain
digit_expression = symbol tt 48 57

abbrev pub fraction_expression : Plain
fraction_expression = optional (join (symbol tt 46 46) (plus digit_expression))

abbrev pub unit_expression : Plain
unit_expression = optional (join (symbol tt 109 109) (symbol tt 109 109))

abbrev pub number_expression : Plain
number_expression = join (plus digit_expression) (join fraction_expression unit_expression)

-- ---- the book. Its positions are, from 0 on: a digit before '.', '.', a digit after it, 'm', 'm', and the end.

-- c is the code of a digit
abbrev pub digit : ℕ → Bool
digit c = nat_le 48 c && nat_le c 57

-- position p takes the code c
abbrev pub takes : ℕ → ℕ → Bool
takes p c = slice_index_or (digit c ∷ (c == 46) ∷ digit c ∷ (c == 109) ∷ (c == 109) ∷ []) p false

-- q is one of the list
abbrev pub among : List ℕ → ℕ → Bool
among [] q = false
among (n ∷ ns) q = q == n || among ns q

-- the positions that may follow position p
abbrev pub followers : ℕ → List ℕ
followers p = slice_index_or ((0 ∷ 1 ∷ 3 ∷ 5 ∷ []) ∷ (2 ∷ []) ∷ (2 ∷ 3 ∷ 5 ∷ []) ∷ (4 ∷ []) ∷ (5 ∷ []) ∷ []) p []

-- position q may follow position p
abbrev pub follows : ℕ → ℕ → Bool
follows p q = among (followers p) q

-- by the code c, position p of s leads to position q
abbrev pub leads : State → ℕ → ℕ → ℕ → Bool
leads s c q p = has s p && (takes p c && follows p q)

-- the positions that the positions of s lead to
unfoldable pub number_next : State → ℕ → State
number_next s c = set_of (λ q. some (leads s c q) 6)

-- rule 0, of kind 1, owns the six positions, starts at the first and is ended by the last
abbrev pub number_meaning : Meaning
number_meaning = record {
  kind = λ r. cond (r == 0) (Some 1) None;
  owner = λ p. cond (nat_lt p 6) (Some 0) None;
  start = set_of (λ p. nat_eq p 0);
  next = number_next;
  ended = λ s. rules_of (λ r. (r == 0) && has s 5);
}

-- the book by its note, which counts the questions for a next state
abbrev pub number_model : ℕ → Model
number_model note = record { meaning = number_meaning; note = note; noted = counting }
