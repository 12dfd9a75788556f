use Rattle.std.proofs.Common.{◌+◌, length}
use Rattle.patterns.specs.Classes.{members_left}
use Rattle.patterns.proofs.Ends.{Searched}
use Rattle.patterns.proofs.marks.class_body.Given as goal

abbrev pub invariant-loop-member : goal.invariant-loop-member
invariant-loop-member l =
    Searched l.text.place (members_left l.initial.member-iterator) (members_left l.member-iterator) (l.text.place + 1 + length l.inside.bytes.now)
