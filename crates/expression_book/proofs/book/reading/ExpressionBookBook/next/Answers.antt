use Rattle.std.proofs.Common.{ℕ, ap, ◌∙◌}
use Rattle.expression_book.specs.Tables.{table_meaning}
use Rattle.expression_book.proofs.book.reading.ExpressionBookBook.next.Goals as goal

pub returns-clause-value : goal.returns-clause-value
returns-clause-value g c =
    c.next.ensures ∙ ap (λ (code : ℕ). (table_meaning c.args.self.now.table).next c.args.state code) c.code.ensures.value
