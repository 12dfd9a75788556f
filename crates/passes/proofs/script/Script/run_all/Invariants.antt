use Rattle.std.proofs.Common.{◌≡◌, [], string_bytes}
use Rattle.passes.specs.Places.{place_of}
use Rattle.passes.specs.Scripts.{AppendsKnown, Goes, left}
use Rattle.passes.proofs.script.Script.run_all.Given as goal

abbrev pub invariant-loop-reports : goal.invariant-loop-reports
invariant-loop-reports g l =
    let at = place_of g.S.LineRunner.seen in
    AppendsKnown (Goes g.S.LineRunner.Runs g.S.LineRunner.Unfit (at l.fn.self) (at l.self)) (g.O.Write.contents l.fn.out) (g.O.Write.contents l.out)
    (g.E.Write.contents l.fn.errors) (g.E.Write.contents l.errors)
    × (string_bytes l.answers ≡ [])
    × (string_bytes l.reports ≡ [])

abbrev pub decreases-loop-reports : goal.decreases-loop-reports
decreases-loop-reports g l = left (place_of g.S.LineRunner.seen l.self).rest
