use Rattle.std.proofs.Common.{◌≡◌, ℕ, true, is_some, refl, ap, subst}
use Rattle.expressions.proofs.Others.{deleted_stays}
use Rattle.expression_book.specs.Tables.{table_meaning, Removes}
use Rattle.expression_book.specs.Laws.{in_force, table_lawful}
use Rattle.expression_book.proofs.Alike.{texts_same}
use Rattle.expression_book.proofs.Deleted.{delete_alike, deleted, delete_texts}
use Rattle.expression_book.proofs.Added.{table_additive}
use Rattle.expression_book.proofs.table.Table.delete.Goals as goal

pub returns : goal.returns
returns c =
    let a = c.args.self.now in
    let b = c.remove.new.self in
    let r = c.args.rule in
    let there : in_force a r ≡ true = ap is_some c.in_ok-rule.ensures.rule.1 in
    let gone = subst (λ (x : ℕ). Removes x a b) c.in_ok-rule.ensures.rule.0 c.remove.ensures in
    let change = deleted r a b there gone in
    record {
      answer = c.in_ok-rule.ensures.answer;
      change = record { meaning = change; note = gone.note; noted = refl };
      texts = delete_texts r a b there gone;
      others = record {
        expressions = λ q e d. deleted_stays r q (table_meaning a) (table_meaning b) e change d (table_lawful b) (table_additive b);
        texts = texts_same r a b (delete_alike r a b there gone);
      };
    }
