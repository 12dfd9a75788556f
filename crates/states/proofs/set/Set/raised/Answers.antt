use Rattle.std.proofs.Common.{arith}
use Rattle.states.proofs.Members.{moving_none, moving_more, raised_first, raised_next}
use Rattle.states.proofs.set.Set.raised.Goals as goal

pub loop-word-init : goal.loop-word-init
loop-word-init g c = moving_none c.args.self

pub loop-word-preserved : goal.loop-word-preserved
loop-word-preserved g c = moving_more c.args.self c.loop-word.word-items c.loop-word.word-index c.loop-word.carry c.loop-word.invariant (omega arith)

pub invariant_of-result : goal.invariant_of-result
invariant_of-result g c = record { long = c.loop-word.invariant.long; fits = c.loop-word.invariant.fits }

pub returns-clause-first : goal.returns-clause-first
returns-clause-first g c = raised_first c.args.self _ (λ k l. c.loop-word.invariant.made k (omega arith))

pub returns-clause-others : goal.returns-clause-others
returns-clause-others g c = raised_next c.args.self _ (λ k l. c.loop-word.invariant.made k (omega arith))
