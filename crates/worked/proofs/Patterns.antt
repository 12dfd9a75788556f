-- The pattern texts of the worked lines: their commands, their expressions, and the refusals. Assumes nothing.
use Rattle.std.proofs.Common.{◌≡◌, ℕ, true, leb, List, ◌∷◌, ◌++◌, length, Ok, codes, refl}
use Rattle.expressions.specs.Expression.{symbol, join, either, plus, Plain}
use Rattle.expressions.specs.Commands.{read_all}
use Rattle.patterns.specs.declared.faults.PatternFault.TheVariants.{FallingRange, EmptyClass, NoAtom, Unbalanced}
use Rattle.patterns.specs.Reading.{read}
use Rattle.patterns.specs.Classes.{runs}
use Rattle.worked.specs.Lines.{commands}
use Rattle.worked.specs.Worked.{PatternRefused}

-- one code
abbrev one : ℕ → Plain
one c = symbol tt c c

-- `k[0-9]+`
abbrev pub number : Plain
number = join (one 107) (plus (symbol tt 48 57))

-- `k4`
abbrev pub four : Plain
four = join (one 107) (one 52)

-- `kerf|ke`
abbrev pub kerf : Plain
kerf = either (join (join (join (one 107) (one 101)) (one 114)) (one 102)) (join (one 107) (one 101))

-- `k4+`
abbrev pub fours : Plain
fours = join (one 107) (plus (one 52))

-- The text's commands spell the expression, and are not too many.
pub record Spelled (text : List ℕ) (e : Plain) : Type 0 where
  pub reads : read_all 255 (commands text) ≡ Ok e
  pub short : leb (length (commands text)) 1024 ≡ true

pub number_spelled : Spelled (codes "k[0-9]+") number
unfolding read runs
number_spelled = record { reads = refl; short = refl }

pub four_spelled : Spelled (codes "k4") four
unfolding read runs
four_spelled = record { reads = refl; short = refl }

pub kerf_spelled : Spelled (codes "kerf|ke") kerf
unfolding read runs
kerf_spelled = record { reads = refl; short = refl }

pub fours_spelled : Spelled (codes "k4+") fours
unfolding read runs
fours_spelled = record { reads = refl; short = refl }

-- ---- the texts that are only read as patterns

pub choice_commands : commands (codes "a|b*") ≡ codes "C" ++ 0 ∷ codes "a" ++ codes "C" ++ 0 ∷ codes "b" ++ codes "SA"
unfolding read runs
choice_commands = refl

pub empty_refused : PatternRefused (codes "[]") 21 0
unfolding read runs
empty_refused = (EmptyClass 0, refl, refl)

pub falling_refused : PatternRefused (codes "[z-a]") 20 1
unfolding read runs
falling_refused = (FallingRange 1, refl, refl)

pub sign_refused : PatternRefused (codes "a|*") 22 2
unfolding read runs
sign_refused = (NoAtom 2, refl, refl)

pub bracket_refused : PatternRefused (codes "(a") 23 0
unfolding read runs
bracket_refused = (Unbalanced 0, refl, refl)
