use Rattle.std.proofs.Common.{length, ◌+◌, ◌*◌}
use Rattle.patterns.specs.Parsing.{ChoiceRead, PieceRead}
use Rattle.patterns.proofs.Parts.{Joining}
use Rattle.patterns.proofs.parsing.+parsing.Given as goal

abbrev pub decreases-atom : goal.decreases-atom
decreases-atom l = 4 * length l.text.bytes.now

abbrev pub decreases-choice : goal.decreases-choice
decreases-choice l = 4 * length l.text.bytes.now + 3

abbrev pub decreases-piece : goal.decreases-piece
decreases-piece l = 4 * length l.text.bytes.now + 1

abbrev pub decreases-sequence : goal.decreases-sequence
decreases-sequence l = 4 * length l.text.bytes.now + 2

abbrev pub invariant-choice-loop-behind : goal.invariant-choice-loop-behind
invariant-choice-loop-behind l = ChoiceRead l.fn.depth l.fn.text l.fn.sink l.sink l.rest

abbrev pub decreases-choice-loop-behind : goal.decreases-choice-loop-behind
decreases-choice-loop-behind l = length l.rest.bytes.now

abbrev pub invariant-piece-loop-repeat : goal.invariant-piece-loop-repeat
invariant-piece-loop-repeat l = PieceRead l.fn.depth l.fn.text l.fn.sink l.sink l.rest

abbrev pub decreases-piece-loop-repeat : goal.decreases-piece-loop-repeat
decreases-piece-loop-repeat l = length l.rest.bytes.now

abbrev pub invariant-sequence-loop-rest : goal.invariant-sequence-loop-rest
invariant-sequence-loop-rest l = Joining l.fn.depth l.fn.text l.fn.sink l.sink l.rest

abbrev pub decreases-sequence-loop-rest : goal.decreases-sequence-loop-rest
decreases-sequence-loop-rest l = length l.rest.bytes.now
