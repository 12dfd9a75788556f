use Rattle.std.proofs.Common.{◌≡◌, true, is_some, refl, ap, rules}
use Rattle.templates.specs.Laws.{in_force}
use Rattle.templates.proofs.Alike.{others}
use Rattle.templates.proofs.Changes.{deleted, delete_texts, delete_alike}
use Rattle.templates.proofs.book.changing.TemplateBookChangingBook.delete.Goals as goal

pub returns : goal.returns
returns c =
    let a = c.args.self.now in
    let b = c.remove.new.self in
    let r = c.args.rule in
    let asked = c.in_ok-old.ensures.rule in
    let there : in_force a r ≡ true = ap is_some asked.1 in
    let kinds = rw asked.0 at c.remove.ensures.kinds in
    let takes = simp asked.0 at c.remove.ensures.takes in
    let ends = simp asked.0 at c.remove.ensures.ends in
    let met = delete_texts a b r there kinds takes ends in
    let stay = others r a b (delete_alike a b r there kinds takes ends) in
    record {
      answer = search rules;
      change = record { meaning = deleted a b r there kinds takes ends; note = c.remove.ensures.note; noted = refl };
      texts = met;
      others = stay;
      shrunk = record { texts = met; others = stay };
    }
