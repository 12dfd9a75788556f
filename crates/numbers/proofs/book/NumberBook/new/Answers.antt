use Rattle.std.proofs.Common.{codes, refl}
use Rattle.states.specs.Words.{some}
use Rattle.numbers.proofs.Ways.{meets_reads}
use Rattle.numbers.proofs.Expressed.{meets_expression}
use Rattle.numbers.proofs.Texts.{reads_numbers}
use Rattle.numbers.proofs.book.NumberBook.new.Goals as goal

pub returns : goal.returns
unfolding some
returns c = record {
  model = refl;
  texts = reads_numbers;
  expression = meets_expression;
  examples = (meets_reads (codes "12.5mm"), meets_reads (codes "12."));
}
