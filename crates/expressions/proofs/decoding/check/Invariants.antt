use Rattle.std.proofs.Common.{◌≡◌, ◌+◌, ◌≤◌, List, length}
use Rattle.expressions.specs.Expression.{Plain}
use Rattle.expressions.specs.Commands.{most, read, read_all}
use Rattle.expressions.proofs.Words.{total}
use Rattle.expressions.proofs.decoding.check.Given as goal

-- what waits, with its symbols, and that reading on from there is reading the whole
abbrev pub invariant-loop-rest : goal.invariant-loop-rest
invariant-loop-rest l =
    (l.waiting ≤ most) × (l.symbols + length l.rest ≤ length l.bytes) ×
    ((W : List Plain) × (length W ≡ l.waiting) × (total W ≡ l.symbols) ×
    (read_all l.last l.bytes ≡ read l.last (length l.bytes) (length l.rest) W l.rest))

abbrev pub decreases-loop-rest : goal.decreases-loop-rest
decreases-loop-rest l = length l.rest
