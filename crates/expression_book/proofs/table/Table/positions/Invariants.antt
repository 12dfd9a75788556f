use Rattle.std.proofs.Common.{◌≡◌, ℕ}
use Rattle.std.specs.List.{list_any}
use Rattle.states.specs.Sets.{has}
use Rattle.expression_book.proofs.Removed.{itself}
use Rattle.expression_book.proofs.table.Table.positions.Given as goal

abbrev pub invariant-loop-p : goal.invariant-loop-p
invariant-loop-p l = (q : ℕ) → has l.out q ≡ list_any (λ p. itself l.self l.rule p q) l.yielded
