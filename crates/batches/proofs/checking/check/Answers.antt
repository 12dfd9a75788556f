use Rattle.std.proofs.Common.{◌≡◌, [], ◌∷◌, ◌++◌, arith, rules}
use Rattle.batches.specs.Records.{ask_of, written}
use Rattle.batches.proofs.Batches.{onward, lines_more, fewer, at_most_one}
use Rattle.batches.proofs.checking.check.Goals as goal

pub loop-rest-preserved : goal.loop-rest-preserved
loop-rest-preserved c =
    let (asks, all, lines, fits) = c.loop-rest.invariant in
    let a = ask_of c.in_ok-record.record in
    let front : c.loop-rest.rest.now ≡ written a ++ c.in_ok-record.behind.now = search rules in
    let less = fewer c.loop-rest.rest.now c.in_ok-record.behind.now a front in
    (asks ++ a ∷ [], onward c.in_ok-record.behind.now asks a all front, omega (arith, lines_more asks a, c.lines-lines.ensures), omega (arith, at_most_one a, less, c.lines-lines.ensures))
