use Rattle.std.proofs.Common.{ap}
use Rattle.std.proofs.lemmas.Result.{MatchResult-weaker, IfOk-weaker}
use Rattle.expression_book.specs.declared.table.Table.{Table}
use Rattle.expression_book.proofs.Added.{table_additive}
use Rattle.expression_book.proofs.Both.{made_both}
use Rattle.expression_book.proofs.Expressed.{delete_expressed, denoting}
use Rattle.expression_book.proofs.book.changing.ExpressionBookChangingBook.delete.Goals as goal

pub returns : goal.returns
returns g c =
    let done = c.delete.ensures in
    record {
      answer = done.answer;
      change = MatchResult-weaker c.delete.result done.change (λ u x. x) (λ f e. ap (λ (t : Table). record { table = t; symbol = c.args.self.now.symbol }) e);
      shrunk = IfOk-weaker c.delete.result _ _ (λ u x. record { texts = x.0; others = x.1; additive = table_additive c.delete.new.self })
          (made_both c.delete.result _ _ done.texts done.others);
      denoting = λ h. denoting c.delete.new.self (delete_expressed c.args.self.now.table c.delete.new.self c.args.rule c.delete.result done.change done.others h.expressed);
    }
