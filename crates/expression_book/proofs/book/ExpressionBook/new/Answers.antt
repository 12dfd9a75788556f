use Rattle.std.proofs.Common.{is_some, ap}
use Rattle.std.proofs.lemmas.Bool.{both_ways}
use Rattle.expression_book.proofs.Added.{table_additive}
use Rattle.expression_book.proofs.Expressed.{denoting}
use Rattle.expression_book.proofs.book.ExpressionBook.new.Goals as goal

pub returns : goal.returns
returns g c =
    let made = c.new.ensures in
    record {
      rules = made.rules;
      texts = made.texts;
      note = made.note;
      additive = table_additive c.new.result;
      denoting = denoting c.new.result (λ q force. absurd (both_ways _ (ap is_some (made.rules q)) force));
    }
