use Rattle.templates.specs.Tables.{Marked}
use Rattle.templates.proofs.table.mark.Given as goal

abbrev pub invariant-loop-entry : goal.invariant-loop-entry
invariant-loop-entry l = Marked l.initial.entry-items l.entry-items l.position 0 l.entry-index
