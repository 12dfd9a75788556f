use Rattle.std.proofs.Common.{◌≡◌, length}
use Rattle.templates.specs.Tables.{Placed}
use Rattle.templates.proofs.table.place.Given as goal

abbrev pub invariant-loop-i : goal.invariant-loop-i
invariant-loop-i l = (length l.takes ≡ 256) × Placed l.initial.takes l.takes l.first l.template l.i
