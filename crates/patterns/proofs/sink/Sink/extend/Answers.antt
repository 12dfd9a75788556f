use Rattle.patterns.proofs.Puts.{adds_more}
use Rattle.patterns.proofs.sink.Sink.extend.Goals as goal

pub loop-byte-preserved : goal.loop-byte-preserved
loop-byte-preserved c = adds_more c.args.bytes.now c.loop-byte.byte-index c.loop-byte-test.true c.loop-byte.invariant c.push.ensures
