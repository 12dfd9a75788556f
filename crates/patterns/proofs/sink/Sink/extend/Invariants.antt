use Rattle.std.proofs.Common.{take}
use Rattle.patterns.specs.Buffers.{Adds}
use Rattle.patterns.proofs.sink.Sink.extend.Given as goal

abbrev pub invariant-loop-byte : goal.invariant-loop-byte
invariant-loop-byte l = Adds l.initial.self (take l.byte-index l.bytes) l.self
