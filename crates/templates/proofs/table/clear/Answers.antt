use Rattle.std.proofs.Common.{◌≡◌, subst, arith}
use Rattle.templates.specs.Tables.{Cleared, clear_all}
use Rattle.templates.proofs.table.clear.Goals as goal

pub returns-clause-members : goal.returns-clause-members
returns-clause-members c =
    let all : c.loop-entry.entry-index ≡ 256 = omega arith in
    clear_all c.args.takes.now c.loop-entry.takes c.args.positions c.told-takes
    (subst (Cleared c.args.takes.now c.loop-entry.takes c.args.positions) all c.loop-entry.invariant.1)
