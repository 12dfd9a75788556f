use Rattle.std.proofs.Common.{replicate, refl}
use Rattle.std.proofs.lemmas.Bool.{both_ways}
use Rattle.expression_book.proofs.Made.{blanks, ends_none}
use Rattle.expression_book.proofs.table.Table.new.Goals as goal

pub invariant_of-result : goal.invariant_of-result
invariant_of-result c =
    let none = c.empty-none.ensures in
    record {
      long = refl;
      owned = λ p h. absurd (both_ways _ (none p) h);
      starting = λ p h. h;
      ending = λ p h. h;
      followed = λ p q h. absurd (both_ways _ (blanks _ c.blank.ensures 256 p q) h);
      follows = λ p q h. absurd (both_ways _ (blanks _ c.blank.ensures 256 p q) h);
      together = λ p q h. absurd (both_ways _ (blanks _ c.blank.ensures 256 p q) h);
    }

pub returns-clause-texts : goal.returns-clause-texts
returns-clause-texts c text q = ends_none (replicate 256 c.blank.result) c.empty-none.result c.empty-none.ensures _ q
