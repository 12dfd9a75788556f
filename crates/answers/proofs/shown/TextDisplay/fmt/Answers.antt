use Rattle.std.proofs.Common.{◌-◌, ◌++◌, length, drop, take, ◌∙◌, arith, rules}
use Rattle.std.proofs.Output.{has_written_append}
use Rattle.answers.proofs.Writing.{trailed_more}
use Rattle.answers.proofs.shown.TextDisplay.fmt.Goals as goal

pub loop-symbol-preserved : goal.loop-symbol-preserved
loop-symbol-preserved g c = λ p.
    let between = g.S.Shown.between in
    let one = g.S.Shown.one in
    let code = g.S.Symbol.code in
    let all = c.args.self.now.0.now in
    let rest = take (length all - 1) (drop 1 all) in
    let x = c.symbol-item.result in
    let i = c.loop-symbol.invariant p in
    record {
      done = i.done ++ (between ++ one (code x));
      wrote = has_written_append _ _ _ _ (between ++ one (code x)) _ i.wrote (search rules);
      is = trailed_more between one code i.done rest c.loop-symbol.symbol-index x (omega arith) c.symbol-item.is ∙ i.is;
    }
