use Rattle.std.proofs.Common.{◌≡◌, ℕ}
use Rattle.std.specs.List.{list_any}
use Rattle.states.specs.Sets.{has_rule}
use Rattle.templates.proofs.Made.{rule_of}
use Rattle.templates.proofs.book.reading.TemplateBookBook.ended.Given as goal

abbrev pub invariant-loop-p : goal.invariant-loop-p
invariant-loop-p l = (q : ℕ) → has_rule l.out q ≡ list_any (λ p. rule_of p q) l.yielded
