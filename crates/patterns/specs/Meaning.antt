-- What a pattern means: a set of texts, and an expression that denotes it. And what a pattern text means.
use Rattle.std.specs.Prelude.{◌≡◌, ℕ, ◌-◌, ◌<◌, ◌≤◌, ◌⊎◌, Bool, true, List, [], ◌∷◌, map, Some, None, Ok, Err, Result, ◌↔◌}
use Rattle.expressions.specs.Expression.{empty, symbol, join, either, star, plain, Language, Nothing, Concatenation, Union, Repetition, Denotes}
use Rattle.expressions.specs.Commands.{Byte, Accepted}
use Rattle.patterns.specs.declared.faults.PatternFault.{PatternFault}
use Rattle.patterns.specs.declared.faults.PatternFault.TheVariants.{TooLong, FallingRange, EmptyClass, NoAtom, Unbalanced}
use Rattle.patterns.specs.declared.marks.Repeat.{Repeat}
use Rattle.patterns.specs.declared.marks.Repeat.TheVariants.{Star, Plus, Optional}
use Rattle.patterns.specs.declared.runs.Run.{Run}
use Rattle.patterns.specs.Classes.{runs}
use Rattle.patterns.specs.Reading.{E, one, any, ranged, repeated, together, written}
use Rattle.patterns.specs.Grammar.{cut_up, Pattern, nothing, literal, dot, among, concat, alternate, repeat, class_has, choice, Parses, refusal}

-- the texts of one byte of a set
abbrev pub OneByte : (ℕ → Bool) → Language
OneByte f w = (c : ℕ) × (c < 256) × (f c ≡ true) × (w ≡ c ∷ [])

abbrev pub Repeated : Repeat → Language → Language
Repeated Star R = Repetition R
Repeated Plus R = Concatenation R (Repetition R)
Repeated Optional R = Union Nothing R

-- the set of texts that a pattern means
abbrev pub Means : Pattern → Language
Means nothing = Nothing
Means (literal b) = Byte b
Means dot = OneByte (λ c. true)
Means (among body) = OneByte (class_has body)
Means (concat p q) = Concatenation (Means p) (Means q)
Means (alternate p q) = Union (Means p) (Means q)
Means (repeat r p) = Repeated r (Means p)

-- a number of some run
abbrev pub InRuns : List Run → ℕ → Type 0
InRuns [] c = ⊥
InRuns (r ∷ rs) c = ((r.low ≤ c) × (c ≤ r.high)) ⊎ InRuns rs c

-- Runs below n, the last one first. At least one number lies between a run and the next.
abbrev pub Apart : ℕ → List Run → Type 0
Apart n [] = Unit {0}
Apart n (r ∷ rs) = (r.low ≤ r.high) × (r.high < n) × Apart (r.low - 1) rs

-- the longest runs of the bytes of a set, rising from the last one on
pub record Longest (f : ℕ → Bool) (rs : List Run) : Type 0 where
  pub inside : (c : ℕ) → InRuns rs c ↔ ((c < 256) × (f c ≡ true))
  pub apart : Apart 256 rs

-- the runs of every set of bytes are its longest ones
abbrev pub ClassRuns : Type 0
ClassRuns = (f : ℕ → Bool) → Longest f (runs f 256)

-- Its expression. A class is its longest runs of bytes, rising, either of them.
abbrev pub expression : Pattern → E
expression nothing = empty
expression (literal b) = symbol one b b
expression dot = any
expression (among body) = together either (map ranged (runs (class_has body) 256))
expression (concat p q) = join (expression p) (expression q)
expression (alternate p q) = either (expression p) (expression q)
expression (repeat r p) = repeated r (expression p)

-- The text says exactly one pattern; the expression is the pattern's and denotes what the pattern means; its commands spell it.
pub record Says (text : List ℕ) (e : E) (p : Pattern) : Type 0 where
  pub all_cut : (cut_up text).uncut ≡ None
  pub parses : Parses choice 0 (cut_up text).marks p
  pub only : (q : Pattern) → Parses choice 0 (cut_up text).marks q → q ≡ p
  pub expressed : e ≡ expression p
  pub denotes : (w : List ℕ) → Denotes e w ↔ Means p w
  pub spelled : Accepted 255 (plain e) (written e)

-- the text says no pattern
abbrev pub Silent : List ℕ → Type 0
Silent text = (cut_up text).uncut ≡ None → (p : Pattern) → Parses choice 0 (cut_up text).marks p → ⊥

-- What an outcome says of a pattern text: an expression is that of the one pattern which the text says, and a refusal is the first no;
-- so a text which is not too long says no pattern where it is refused.
abbrev pub Meant : List ℕ → Result E PatternFault → Type 0
Meant text (Ok e) = (refusal text ≡ None) × ((p : Pattern) × Says text e p)
Meant text (Err f) = (refusal text ≡ Some f) × ((f ≡ TooLong → ⊥) → Silent text)

-- a text has at most one outcome that says so
abbrev pub OneOutcome : List ℕ → Type 0
OneOutcome text = (r s : Result E PatternFault) → Meant text r → Meant text s → r ≡ s

-- worked examples
pub record Worked : Type 0 where
  -- `a|b*` is a choice of a byte and a repeated byte
  pub choice_read : Meant (97 ∷ 124 ∷ 98 ∷ 42 ∷ []) (Ok (either (symbol one 97 97) (star (symbol one 98 98))))
  pub choice_written : written (either (symbol one 97 97) (star (symbol one 98 98))) ≡ 67 ∷ 0 ∷ 97 ∷ 67 ∷ 0 ∷ 98 ∷ 83 ∷ 65 ∷ []
  -- `[]`
  pub empty_class : Meant (91 ∷ 93 ∷ []) (Err (EmptyClass 0))
  -- `[z-a]`
  pub falling_range : Meant (91 ∷ 122 ∷ 45 ∷ 97 ∷ 93 ∷ []) (Err (FallingRange 1))
  -- `a|*`
  pub sign_alone : Meant (97 ∷ 124 ∷ 42 ∷ []) (Err (NoAtom 2))
  -- `(a`
  pub bracket_alone : Meant (40 ∷ 97 ∷ []) (Err (Unbalanced 0))
