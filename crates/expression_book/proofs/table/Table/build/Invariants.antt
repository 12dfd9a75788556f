use Rattle.std.proofs.Common.{length}
use Rattle.expression_book.specs.Parts.{stacked}
use Rattle.expression_book.proofs.Underway.{Underway}
use Rattle.expression_book.proofs.table.Table.build.Given as goal

abbrev pub invariant-loop-rest : goal.invariant-loop-rest
invariant-loop-rest l = Underway l.last l.bytes l.rule l.initial.self l.rest (stacked l.waiting) l.self

abbrev pub decreases-loop-rest : goal.decreases-loop-rest
decreases-loop-rest l = length l.rest
