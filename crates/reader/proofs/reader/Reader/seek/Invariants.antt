use Rattle.std.proofs.Common.{◌≤◌, map, drop}
use Rattle.std.specs.Option.{option_map}
use Rattle.books.specs.Meaning.{Within}
use Rattle.readings.proofs.Sought.{Sought}
use Rattle.reader.specs.View.{view}
use Rattle.reader.proofs.Seeks.{ended}
use Rattle.reader.proofs.reader.Reader.seek.Given as goal

-- the longest token so far, and the rest of the text, from live positions
abbrev pub invariant-loop-i : goal.invariant-loop-i
invariant-loop-i g l =
    let v = view in
    let code = g.B.Symbol.Symbol.code in
    Sought (v l.initial.self) (map code l.rest) (v l.self) l.state (map code (drop l.i l.rest)) l.count (option_map ended l.best)
    × (l.count ≤ l.i)
    × Within (v l.self).book.meaning l.state
