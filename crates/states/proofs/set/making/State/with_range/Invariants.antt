use Rattle.std.proofs.Common.{◌≡◌, ℕ, ◌&&◌, ◌||◌, ltb, leb}
use Rattle.states.specs.Sets.{has}
use Rattle.states.proofs.set.making.State.with_range.Given as goal

-- those of the range below `at` are in
abbrev pub invariant-loop-at : goal.invariant-loop-at
invariant-loop-at l = (p : ℕ) → has l.out p ≡ (has l.initial.out p || (leb l.low p && leb p l.high && ltb p l.at))
