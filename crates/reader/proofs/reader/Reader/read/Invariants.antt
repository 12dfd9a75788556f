use Rattle.std.proofs.Common.{◌≤◌, map, drop}
use Rattle.books.specs.Meaning.{Within}
use Rattle.reader.specs.View.{view}
use Rattle.readings.proofs.Onward.{Onward}
use Rattle.reader.proofs.reader.Reader.read.Given as goal

-- what was met so far, and the rest of the text, from live positions
abbrev pub invariant-loop-symbol : goal.invariant-loop-symbol
invariant-loop-symbol g l =
    let v = view in
    let code = g.B.Symbol.Symbol.code in
    Onward (v l.initial.self) l.initial.state (map code l.text) (v l.self) l.state (map code (drop l.symbol-index l.text)) l.count
    × (l.count ≤ l.symbol-index)
    × Within (v l.self).book.meaning l.state
