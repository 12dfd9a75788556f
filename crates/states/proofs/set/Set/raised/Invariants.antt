use Rattle.states.proofs.Members.{Moving}
use Rattle.states.proofs.set.Set.raised.Given as goal

abbrev pub invariant-loop-word : goal.invariant-loop-word
invariant-loop-word g l = Moving g.row.WORDS l.fn.self.words l.word-items l.word-index l.carry
