use Rattle.std.proofs.Common.{◌*◌}
use Rattle.states.specs.Sets.{has}
use Rattle.states.proofs.Digits.{popped}
use Rattle.states.proofs.Members.{member_below}
use Rattle.states.proofs.set.Set.pop_lowest.Goals as goal

pub returns : goal.returns
returns g c =
    let least = c.in_ok-at.ensures in
    let below = member_below c.args.self.now c.in_ok-at.at least.member in
    popped (has c.args.self.now) (has c.without.result) (has c.single.result) c.in_ok-at.at (64 * g.row.WORDS) below least (c.single.ensures.alone below) c.without.ensures
