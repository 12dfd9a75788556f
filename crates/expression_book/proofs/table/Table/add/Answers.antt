use Rattle.std.proofs.Common.{◌≡◌, ℕ, None, sym, refl, subst, arith}
use Rattle.expressions.specs.Rules.{refusal}
use Rattle.expressions.proofs.Texts.{meets_denoted}
use Rattle.expressions.proofs.Others.{added_stays}
use Rattle.expression_book.specs.Tables.{table_meaning}
use Rattle.expression_book.specs.Building.{Puts}
use Rattle.expression_book.specs.Laws.{table_lawful}
use Rattle.expression_book.proofs.Alike.{texts_same}
use Rattle.expression_book.proofs.Added.{table_additive, live_size, add_alike, added, means}
use Rattle.expression_book.proofs.Asked.{asked, only_spelled}
use Rattle.expression_book.proofs.table.Table.add.Goals as goal

pub returns : goal.returns
returns c =
    let a = c.args.self.now in
    let b = c.put.new.self in
    let r = c.args.rule in
    let k = c.args.kind in
    let bytes = c.args.bytes.now in
    let answer : None ≡ refusal c.args.last (table_meaning a) r k bytes = c.in_ok-rule.ensures.answer in
    let q = asked c.args.last (table_meaning a) r k bytes (sym answer) in
    let e = q.expression in
    let it = c.in_ok-rule.rule in
    let same = c.in_ok-rule.ensures.rule in
    let puts = subst (λ (x : ℕ). Puts r x e a b) same.1 (subst (λ (x : ℕ). Puts x it.kind e a b) same.0 (c.put.ensures e q.spelled)) in
    let free = q.free in
    let is = means r k e a b q.number free puts in
    let change = added r k e a b q.number free puts in
    record {
      answer = answer;
      change = record { meaning = change; note = puts.note; noted = refl };
      adopts = record {
        expression = e;
        spelled = only_spelled c.args.last bytes e q.spelled;
        means = is;
        texts = meets_denoted (table_meaning b) r e (table_lawful b) (table_additive b) is;
        positions = omega (arith, live_size a, live_size b, puts.count);
      };
      others = record {
        expressions = λ q d n. added_stays r k q (table_meaning a) (table_meaning b) d change n (table_lawful b) (table_additive b);
        texts = texts_same r a b (add_alike r k e a b q.number free puts);
      };
    }
