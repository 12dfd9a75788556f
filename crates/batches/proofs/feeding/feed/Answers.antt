use Rattle.std.proofs.Common.{◌≡◌, [], ◌∷◌, ◌++◌, length, sym, refl, ap, ◌∙◌, append-nil, arith, length-append}
use Rattle.reader.specs.View.{view}
use Rattle.batches.specs.Records.{ask_of, written, batch, lines_in}
use Rattle.batches.proofs.Batches.{onward, fewer, next_record, no_record}
use Rattle.batches.proofs.Running.{running_none}
use Rattle.batches.proofs.feeding.feed.Goals as goal

pub loop-record-init : goal.loop-record-init
loop-record-init c =
    let (asks, all, lines) = c.in_ok-lines.ensures in
    ([], asks, refl, all, omega (arith, lines), omega arith, running_none c.args.masks.now (view c.args.reader.now))

pub perform-requires-clause-room : goal.perform-requires-clause-room
perform-requires-clause-room c =
    let (asks, others, all, rest, room, few, runs) = c.loop-record.invariant in
    let next = next_record (ask_of c.in-Some.record) c.in-Some.behind.now others (sym c.in-Some.ensures ∙ rest) in
    omega (arith, room, ap lines_in next.front)

pub loop-record-preserved : goal.loop-record-preserved
loop-record-preserved c =
    let (asks, others, all, rest, room, few, runs) = c.loop-record.invariant in
    let a = ask_of c.in-Some.record in
    let behind = c.in-Some.behind.now in
    let front : c.loop-record.rest.now ≡ written a ++ behind = c.in-Some.ensures in
    let next = next_record a behind others (sym front ∙ rest) in
    let lines = c.perform.ensures.lines in
    let refused = c.perform.ensures.refused in
    let less = fewer c.loop-record.rest.now behind a front in (
      asks ++ a ∷ [],
      next.others,
      onward behind asks a all front,
      next.batched,
      omega (arith, room, ap lines_in next.front, lines),
      omega (arith, few, less, refused),
      c.perform.ensures.runs c.args.masks.now (view c.args.reader.now) asks (omega (arith, simp length-append at (ap length all))) runs,
    )

pub returns-clause-done : goal.returns-clause-done
returns-clause-done c =
    let (asks, others, all, rest, room, few, runs) = c.loop-record.invariant in
    let empty : c.loop-record.rest.now ≡ [] = rest ∙ ap batch (no_record others (λ a more e. c.in_default.ensures a more (rest ∙ e))) in
    (asks, all ∙ ap (λ w. batch asks ++ w) empty ∙ append-nil (batch asks), runs)
