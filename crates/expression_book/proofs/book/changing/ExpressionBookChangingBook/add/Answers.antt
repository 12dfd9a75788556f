use Rattle.std.proofs.Common.{ℕ, ap, ◌∙◌, subst}
use Rattle.std.proofs.lemmas.Result.{MatchResult-weaker, IfOk-weaker}
use Rattle.expressions.specs.Rules.{refusal}
use Rattle.expression_book.specs.declared.table.Table.{Table}
use Rattle.expression_book.specs.Tables.{table_meaning}
use Rattle.expression_book.specs.Promises.{Adopts}
use Rattle.expression_book.proofs.Added.{table_additive}
use Rattle.expression_book.proofs.Both.{made_both}
use Rattle.expression_book.proofs.Expressed.{add_expressed, denoting}
use Rattle.expression_book.proofs.book.changing.ExpressionBookChangingBook.add.Goals as goal

pub returns : goal.returns
returns g c =
    let done = c.add.ensures in
    let a = c.args.self.now.table in
    let b = c.add.new.self in
    let last = c.LAST.ensures in
    record {
      answer = done.answer ∙ ap (λ (l : ℕ). refusal l (table_meaning a) c.args.rule c.args.kind c.args.bytes.now) last;
      change = MatchResult-weaker c.add.result done.change (λ u x. x) (λ f e. ap (λ (t : Table). record { table = t; symbol = c.args.self.now.symbol }) e);
      grown = IfOk-weaker c.add.result _ _ (λ u x. record {
        adopts = subst (λ (l : ℕ). Adopts l c.args.rule c.args.bytes.now (table_meaning a) (table_meaning b)) last x.0;
        others = x.1;
        additive = table_additive b;
      }) (made_both c.add.result _ _ done.adopts done.others);
      denoting = λ h. denoting b (add_expressed a b c.args.rule c.LAST.result c.args.kind c.args.bytes.now c.add.result done.change done.adopts done.others h.expressed);
    }
