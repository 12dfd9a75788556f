use Rattle.std.proofs.Common.{◌/◌, is_some, sym, refl, ap, ◌∙◌}
use Rattle.std.proofs.lemmas.Bool.{both_ways, and_left}
use Rattle.templates.proofs.Invariants.{takes_none, ends_none}
use Rattle.templates.proofs.book.TemplateBook.new.Goals as goal

pub invariant_of-result : goal.invariant_of-result
invariant_of-result c =
    let none = c.empty-none.ensures in
    record {
      size = refl;
      lives = λ p. none p ∙ sym (ap is_some (c.new.ensures (p / 32)));
      starts = λ p. none p ∙ sym (and_left _ _ (ap is_some (c.new.ensures (p / 32))));
      ending = λ p h. absurd (both_ways _ (none p) h);
      taking = λ q p h. absurd (both_ways _ (takes_none _ none 256 q p) h);
    }

pub returns-clause-texts : goal.returns-clause-texts
returns-clause-texts c text q = ends_none c.empty-none.result c.empty-none.ensures _ q
