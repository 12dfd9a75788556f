use Rattle.std.proofs.Common.{◌≡◌, ◌++◌, vec_items}
use Rattle.std.specs.Vec.Iter.{into_iter_items}
use Rattle.readings.specs.Changing.{Acts}
use Rattle.reader.specs.View.{view}
use Rattle.replays.proofs.Underway.{Replaying}
use Rattle.replays.proofs.replaying.replay.Given as goal

-- the calls that were done and their log, and the calls that are left
abbrev pub invariant-loop-ask : goal.invariant-loop-ask
invariant-loop-ask g l =
    Replaying g.B.Symbol.Symbol.code (Acts g.B.ChangingBook.refusal g.B.ChangingBook.grows g.B.ChangingBook.shrinks) (view l.initial.reader) l.yielded (vec_items l.log) (view l.reader)
    × (into_iter_items l.initial.ask-iterator ≡ l.yielded ++ into_iter_items l.ask-iterator)
