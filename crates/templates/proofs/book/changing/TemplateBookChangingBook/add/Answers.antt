use Rattle.std.proofs.Common.{◌≡◌, ◌<◌, length, get_or, None, refl, rules}
use Rattle.templates.specs.Laws.{meaning}
use Rattle.templates.proofs.Texts.{template_texts}
use Rattle.templates.proofs.Alike.{others}
use Rattle.templates.proofs.Changes.{added, add_template, add_alike}
use Rattle.templates.proofs.book.changing.TemplateBookChangingBook.add.Goals as goal

pub returns : goal.returns
returns c =
    let a = c.args.self.now in
    let b = c.put.new.self in
    let r = c.args.rule in
    let k = c.args.kind in
    let t = c.args.bytes.now in
    let low : r < 8 = search rules in
    let free : get_or a.kinds.by_rule r None ≡ None = search rules in
    let short : length t < 32 = search rules in
    let asked = c.in_ok-new.ensures.rule in
    let kinds = rw (asked.0, asked.1) at c.put.ensures.kinds in
    let takes = simp asked.0 at c.put.ensures.takes in
    let ends = simp asked.0 at c.put.ensures.ends in
    let is = add_template a b r k t low free short kinds takes ends in
    let met = template_texts r t (meaning b) is short in
    let stay = others r a b (add_alike a b r k t low free short kinds takes ends) in
    record {
      answer = c.in_ok-new.ensures.answer;
      change = record { meaning = added a b r k t low free short kinds takes ends; note = c.put.ensures.note; noted = refl };
      template = is;
      texts = met;
      others = stay;
      grown = record { template = is; texts = met; others = stay };
    }
