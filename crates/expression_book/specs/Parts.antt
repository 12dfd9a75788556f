-- What is kept of the expressions that wait.
use Rattle.std.specs.Prelude.{ℕ, List, Decides, reverse}
use Rattle.arrayvec.specs.ArrayVec.{ArrayVec}
use Rattle.states.specs.Sets.{has}
use Rattle.expressions.specs.Expression.{Labelled}
use Rattle.expressions.specs.Positions.{Nullable, First, Last}
use Rattle.expression_book.specs.declared.part.Part.{Part}

-- the part tells of the expression what is to be kept
pub record Shows (k : Part) (e : Labelled) : Type 0 where
  pub nullable : Decides k.nullable (Nullable e)
  pub first : (p : ℕ) → Decides (has k.first p) (First e p)
  pub last : (p : ℕ) → Decides (has k.last p) (Last e p)

-- the parts that wait, the last one first
abbrev pub stacked : ArrayVec Part → List Part
stacked waiting = reverse waiting.items
