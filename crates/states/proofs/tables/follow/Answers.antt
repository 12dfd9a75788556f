use Rattle.std.proofs.Common.{slice_index_or}
use Rattle.states.specs.Sets.{has, nothing}
use Rattle.states.proofs.OneByOne.{all_came, gathers_all}
use Rattle.states.proofs.tables.follow.Goals as goal

pub returns : goal.returns
returns c =
    gathers_all c.args.from (λ p. has (slice_index_or c.args.table.now p nothing)) (has c.loop-p.out) c.loop-p.yielded
    (all_came c.args.from c.into_iter-p-iterator.result (cc) c.loop-p.yielded _ c.loop-p.yielded_by _ _ c.in-None.is c.next.ensures.steps)
    c.loop-p.invariant
