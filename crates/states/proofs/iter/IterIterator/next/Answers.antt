use Rattle.std.proofs.Common.{rules}
use Rattle.states.proofs.OneByOne.{popped_first}
use Rattle.states.proofs.iter.IterIterator.next.Goals as goal

pub returns-clause-steps : goal.returns-clause-steps
returns-clause-steps g c = popped_first c.args.self.now.rest c.pop_lowest.new.self c.pop_lowest.result c.pop_lowest.ensures

pub returns-clause-goes : goal.returns-clause-goes
returns-clause-goes g c = let h = returns-clause-steps g c in search rules
