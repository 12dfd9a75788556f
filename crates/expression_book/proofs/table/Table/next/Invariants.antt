use Rattle.std.proofs.Common.{◌≡◌, ℕ}
use Rattle.std.specs.List.{list_any}
use Rattle.states.specs.Sets.{has}
use Rattle.expression_book.specs.Rows.{leads}
use Rattle.expression_book.proofs.table.Table.next.Given as goal

abbrev pub invariant-loop-p : goal.invariant-loop-p
invariant-loop-p l = (q : ℕ) → has l.out q ≡ list_any (λ p. leads l.self.rows l.code p q) l.yielded
