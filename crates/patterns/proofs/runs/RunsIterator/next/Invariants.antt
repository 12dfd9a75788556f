use Rattle.std.proofs.Common.{◌-◌, ◌≤◌}
use Rattle.states.specs.Sets.{has}
use Rattle.patterns.proofs.Running.{Reached}
use Rattle.patterns.proofs.runs.RunsIterator.next.Given as goal

abbrev pub invariant-loop-high : goal.invariant-loop-high
invariant-loop-high l = Reached (has l.fn.self.0) (has l.self.0) l.low l.high × (l.high ≤ 255)

abbrev pub decreases-loop-high : goal.decreases-loop-high
decreases-loop-high l = 255 - l.high
