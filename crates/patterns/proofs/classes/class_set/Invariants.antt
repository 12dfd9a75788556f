use Rattle.std.proofs.Common.{◌++◌}
use Rattle.patterns.specs.Classes.{members_left, pending}
use Rattle.patterns.proofs.Spans.{Holding, Dashed}
use Rattle.patterns.proofs.classes.class_set.Given as goal

abbrev pub invariant-loop-member : goal.invariant-loop-member
invariant-loop-member l = Holding (members_left l.initial.member-iterator) l.set (pending l.held ++ members_left l.member-iterator) × Dashed l.held
