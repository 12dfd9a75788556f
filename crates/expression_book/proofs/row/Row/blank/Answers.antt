use Rattle.std.proofs.Common.{ap₂}
use Rattle.states.specs.Sets.{State}
use Rattle.states.proofs.Members.{no_members}
use Rattle.expressions.specs.declared.code_range.CodeRange.{CodeRange}
use Rattle.expression_book.specs.Rows.{blank}
use Rattle.expression_book.proofs.row.Row.blank.Goals as goal

pub returns : goal.returns
unfolding blank
returns c = ap₂ (λ (k : CodeRange) (s : State). record { rule = 0; codes = k; follow = s }) c.none.ensures (no_members c.empty.result c.empty.ensures)
