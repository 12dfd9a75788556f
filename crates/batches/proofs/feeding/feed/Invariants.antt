use Rattle.std.proofs.Common.{◌≡◌, ◌+◌, ◌≤◌, List, ◌++◌, length}
use Rattle.reader.specs.View.{view}
use Rattle.batches.specs.Records.{Ask, batch, lines_in}
use Rattle.batches.specs.Runs.{Running}
use Rattle.batches.proofs.feeding.feed.Given as goal

-- the records that were run, and those of the rest
abbrev pub invariant-loop-record : goal.invariant-loop-record
invariant-loop-record l =
    (asks : List Ask) × (others : List Ask) × (l.batch ≡ batch asks ++ l.rest) × (l.rest ≡ batch others)
    × (l.done.lines + lines_in others ≤ length l.masks) × (l.done.refused + length l.rest ≤ length l.batch)
    × Running l.initial.masks (view l.initial.reader) asks (view l.reader) l.masks l.done

abbrev pub decreases-loop-record : goal.decreases-loop-record
decreases-loop-record l = length l.rest
