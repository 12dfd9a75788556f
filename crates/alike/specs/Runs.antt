-- Histories of a reader over an expression book, whose codes are up to the last one.
use Rattle.std.specs.Prelude.{ℕ, List}
use Rattle.readings.specs.Views.{View}
use Rattle.readings.specs.Readings.{Told}
use Rattle.readings.specs.Calls.{Call}
use Rattle.readings.specs.Changing.{Acts, Chain}
use Rattle.readings.specs.Entries.{Entry}
use Rattle.expressions.specs.Rules.{refusal}
use Rattle.expression_book.specs.Promises.{ExpressionAdded, ExpressionDeleted}

-- what a call does, by what an expression book says of its changes
abbrev pub ExpressionActs : ℕ → Call → Told → ℕ → View → View → Type 0
ExpressionActs last call t n v w = Acts (refusal last) (λ r k bytes. ExpressionAdded last r bytes) ExpressionDeleted call t n v w

-- the entries are calls of the reader v, one after the other
abbrev pub Runs : ℕ → View → List Entry → Type 0
Runs last v es = Chain (ExpressionActs last) v es
