use Rattle.expression_book.specs.Rows.{Gains}
use Rattle.expression_book.proofs.Edits.{Edited}
use Rattle.expression_book.proofs.table.linking.link.Given as goal

abbrev pub invariant-loop-p : goal.invariant-loop-p
invariant-loop-p l = Edited (Gains l.first) l.initial.rows l.rows l.yielded
