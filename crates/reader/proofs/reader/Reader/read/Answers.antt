use Rattle.std.proofs.Common.{map, drop, sym, inr, arith}
use Rattle.readings.proofs.Bare.{reads_bare}
use Rattle.readings.proofs.Onward.{Over, onward_none, onward_whole}
use Rattle.readings.proofs.Slices.{onward_more, all_read}
use Rattle.reader.proofs.Seeks.{counted}
use Rattle.reader.proofs.reader.Reader.read.Goals as goal
use Rattle.reader.proofs.reader.Reader.read.Goals.{else-loop-symbol-test, then-loop-symbol-test+then-is_empty}

pub loop-symbol-init : goal.loop-symbol-init
loop-symbol-init g c = (onward_none _ _ _ c.args.self.now.fits, omega arith, rw c.start-state.ensures (g.met.B.Book.lawful _).starts)

pub loop-symbol-preserved : goal.loop-symbol-preserved
loop-symbol-preserved g c =
    let more = onward_more g.B.Symbol.Symbol.code c.args.text.now c.symbol-item.result c.loop-symbol-test.true c.symbol-item.is c.loop-symbol.invariant.0
    (sym c.if-is_empty.ensures.value) c.step-taken.ensures.works c.step-taken.ensures.state in
    let one = counted c.step-taken.result.worked _ c.from-count.ensures in
    (rw one.0 at more, omega (arith, one.1, c.loop-symbol.invariant.1), c.step-taken.ensures.live)

pub returns : goal.returns
returns g c =
    let code = g.B.Symbol.Symbol.code in
    let text = c.args.text.now in
    let law = g.met.B.Book.lawful c.args.self.now.book in
    let over : Over c.loop-symbol.state (map code (drop c.loop-symbol.symbol-index text)) = elim c.loop-symbol-test.branch [
      | else-loop-symbol-test w ↦ all_read code text c.loop-symbol.state w.loop-symbol-test.false
      | then-loop-symbol-test+then-is_empty w ↦ inr (sym w.if-is_empty.ensures.value)
    ] in
    let does = onward_whole (rw c.start-state.ensures at c.loop-symbol.invariant.0) over c.ended.ensures in
    record { does = does; meant = reads_bare law c.args.self.now.sound law.starts does }
