use Rattle.std.proofs.Common.{◌≡◌}
use Rattle.expression_book.specs.Rows.{blank}
use Rattle.expression_book.proofs.Edits.{Edited}
use Rattle.expression_book.proofs.table.removing.clear.Given as goal

abbrev pub invariant-loop-p : goal.invariant-loop-p
invariant-loop-p l = Edited (λ v w. w ≡ blank) l.initial.rows l.rows l.yielded
