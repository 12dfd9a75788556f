use Rattle.std.proofs.Common.{◌≡◌, ℕ, ◌<◌}
use Rattle.states.specs.Words.{some}
use Rattle.states.specs.Sets.{has}
use Rattle.numbers.specs.Number.{leads}
use Rattle.numbers.proofs.table.step.Given as goal

abbrev pub invariant-loop-p : goal.invariant-loop-p
invariant-loop-p l = (q : ℕ) → q < 256 → has l.out q ≡ some (leads l.state l.code q) l.p
