use Rattle.states.proofs.Members.{shares_is}
use Rattle.states.proofs.set.Set.touches.Goals as goal

pub returns : goal.returns
returns g c = shares_is c.args.self c.args.other c.meet.result c.is_empty.result c.meet.ensures c.is_empty.ensures.members
