use Rattle.std.proofs.Common.{arith}
use Rattle.states.proofs.Members.{lowest_word, has_none}
use Rattle.states.proofs.set.Set.lowest.Goals as goal

pub returns-then-word-ne0 : goal.returns-then-word-ne0
returns-then-word-ne0 g c = lowest_word c.args.self c.loop-k.k c.loop-k.invariant (omega arith)

pub returns : goal.returns
returns g c = has_none c.args.self (λ k l. c.loop-k.invariant k (omega arith))
