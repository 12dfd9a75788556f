use Rattle.std.proofs.Common.{◌≡◌, ℕ, slice_index_or}
use Rattle.std.specs.List.{list_any}
use Rattle.states.specs.Sets.{has, nothing}
use Rattle.states.proofs.tables.follow.Given as goal

abbrev pub invariant-loop-p : goal.invariant-loop-p
invariant-loop-p l = (q : ℕ) → has l.out q ≡ list_any (λ p. has (slice_index_or l.table p nothing) q) l.yielded
