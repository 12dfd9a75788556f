use Rattle.patterns.specs.Classes.{runs_left}
use Rattle.patterns.proofs.Written.{Putting}
use Rattle.patterns.proofs.runs.put_runs.Given as goal

abbrev pub invariant-loop-run : goal.invariant-loop-run
invariant-loop-run l = Putting l.fn.first (runs_left l.initial.run-iterator) (runs_left l.run-iterator) l.fn.sink l.sink
