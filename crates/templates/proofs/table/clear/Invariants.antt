use Rattle.std.proofs.Common.{◌≡◌, length}
use Rattle.templates.specs.Tables.{Cleared}
use Rattle.templates.proofs.table.clear.Given as goal

abbrev pub invariant-loop-entry : goal.invariant-loop-entry
invariant-loop-entry l = (length l.takes ≡ 256) × Cleared l.initial.takes l.takes l.positions l.entry-index
