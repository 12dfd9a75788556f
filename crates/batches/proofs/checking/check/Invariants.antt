use Rattle.std.proofs.Common.{◌≡◌, ◌+◌, ◌≤◌, List, ◌++◌, length}
use Rattle.batches.specs.Records.{Ask, batch, lines_in}
use Rattle.batches.proofs.checking.check.Given as goal

-- the records before the rest
abbrev pub invariant-loop-rest : goal.invariant-loop-rest
invariant-loop-rest l =
    (asks : List Ask) × (l.batch ≡ batch asks ++ l.rest) × (l.lines ≡ lines_in asks) × (l.lines + length l.rest ≤ length l.batch)

abbrev pub decreases-loop-rest : goal.decreases-loop-rest
decreases-loop-rest l = length l.rest
