use Rattle.std.proofs.Common.{string_bytes}
use Rattle.passes.specs.Places.{place_of}
use Rattle.passes.specs.Scripts.{Appends, left}
use Rattle.passes.proofs.Running.{Quiet}
use Rattle.passes.proofs.script.Script.run.Given as goal

abbrev pub invariant-loop-self : goal.invariant-loop-self
invariant-loop-self g l =
    let at = place_of g.S.LineRunner.seen in
    Appends (Quiet g.S.LineRunner.Runs g.S.LineRunner.Unfit (at l.initial.self) (at l.self)) (string_bytes l.initial.out) (string_bytes l.out) (string_bytes l.initial.errors) (string_bytes l.errors)

abbrev pub decreases-loop-self : goal.decreases-loop-self
decreases-loop-self g l = left (place_of g.S.LineRunner.seen l.self).rest
