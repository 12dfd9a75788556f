use Rattle.std.proofs.Common.{◌<◌, length, Ok, ◌∙◌, arith, rules}
use Rattle.std.proofs.lemmas.Grind.{common_steps}
use Rattle.expressions.specs.Commands.{applied}
use Rattle.expressions.proofs.Runs.{judged_by}
use Rattle.expressions.proofs.Turns.{Front, onward}
use Rattle.expressions.proofs.decoding.check.Goals as goal

pub loop-rest-preserved : goal.loop-rest-preserved
loop-rest-preserved c =
    let (few, fits, (W, e, k, same)) = c.loop-rest.invariant in
    let some : 0 < length c.loop-rest.rest.now = search rules in
    let is : Front c.args.last c.loop-rest.waiting c.loop-rest.rest.now (Ok (c.in_ok-command.command, c.in_ok-command.tail.now)) = search rules in
    let on = onward c.args.last (length c.args.bytes.now) c.loop-rest.waiting c.loop-rest.rest.now W c.in_ok-command.command c.in_ok-command.tail.now e some is in
    let takes = c.takes.ensures in
    let adds = c.symbols-symbols.ensures in (
      omega (arith, on.most_after, on.size_after),
      omega (arith, on.at_most_one, on.less),
      (applied c.in_ok-command.command W, omega (arith, on.size_after), omega (arith, on.symbols_after), same ∙ on.same),
    )

pub returns-in_err-command-clause-judged : goal.returns-in_err-command-clause-judged
returns-in_err-command-clause-judged c = judged_by _ _ _ (grind (arith, common_steps))

pub returns-then-waiting-eq1-clause-judged : goal.returns-then-waiting-eq1-clause-judged
returns-then-waiting-eq1-clause-judged c = judged_by _ _ _ (search rules)

pub returns-else-waiting-eq1-clause-judged : goal.returns-else-waiting-eq1-clause-judged
returns-else-waiting-eq1-clause-judged c = judged_by _ _ _ (search rules)
