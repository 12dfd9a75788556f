use Rattle.std.proofs.Common.{◌≡◌, ◌*◌}
use Rattle.states.specs.Sets.{has}
use Rattle.states.specs.Words.{tally}
use Rattle.states.proofs.set.Set.count.Given as goal

abbrev pub invariant-loop-word : goal.invariant-loop-word
invariant-loop-word g l = l.count ≡ tally (has l.fn.self) (64 * l.word-index)
