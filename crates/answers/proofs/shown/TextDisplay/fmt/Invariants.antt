use Rattle.std.proofs.Common.{drop, map}
use Rattle.std.specs.Fmt.{IsPlainFormatter}
use Rattle.answers.specs.Texts.{parted, trailed}
use Rattle.answers.proofs.Writing.{WritesPart}
use Rattle.answers.proofs.shown.TextDisplay.fmt.Given as goal

abbrev pub invariant-loop-symbol : goal.invariant-loop-symbol
invariant-loop-symbol g l =
    let between = g.S.Shown.between in
    let one = g.S.Shown.one in
    let code = g.S.Symbol.code in
    IsPlainFormatter l.fn.f → WritesPart g.W.Write.write_str_gives l.fn.f l.f (trailed between one (map code (drop l.symbol-index l.rest))) (parted between one (map code l.self.0.now))
