use Rattle.std.proofs.Common.{◌≡◌, ℕ}
use Rattle.std.specs.List.{list_any}
use Rattle.states.specs.Sets.{has_rule}
use Rattle.expression_book.specs.Laws.{rule_of}
use Rattle.expression_book.proofs.table.Table.ended.Given as goal

abbrev pub invariant-loop-p : goal.invariant-loop-p
invariant-loop-p l = (q : ℕ) → has_rule l.out q ≡ list_any (λ p. rule_of l.self p q) l.yielded
