use Rattle.std.proofs.Common.{rules}
use Rattle.states.specs.Sets.{same}
use Rattle.states.proofs.Members.{same_decides}
use Rattle.states.proofs.set.reading.SetPartialEq.eq.Goals as goal

pub returns-clause-value : goal.returns-clause-value
unfolding same
returns-clause-value g c = search rules

pub returns-clause-state : goal.returns-clause-state
returns-clause-state g c = (same_decides c.args.self.now c.args.other.now c.eq.result (returns-clause-value g c)).0

pub returns-clause-members : goal.returns-clause-members
returns-clause-members g c = (same_decides c.args.self.now c.args.other.now c.eq.result (returns-clause-value g c)).1
