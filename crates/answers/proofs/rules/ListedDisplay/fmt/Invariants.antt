use Rattle.std.proofs.Common.{◌++◌, codes}
use Rattle.std.specs.Fmt.{HasWritten, IsPlainFormatter}
use Rattle.answers.specs.Texts.{trailed}
use Rattle.answers.proofs.rules.ListedDisplay.fmt.Given as goal

abbrev pub invariant-loop-rule : goal.invariant-loop-rule
invariant-loop-rule g l =
    let text = g.I.Item.text l.self.item in
    IsPlainFormatter l.fn.f → HasWritten g.W.Write.write_str_gives l.fn.f (text l.lowest ++ trailed (codes ",") text l.yielded) l.f
