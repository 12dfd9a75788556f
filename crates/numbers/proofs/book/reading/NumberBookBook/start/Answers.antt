use Rattle.std.proofs.Common.{arith}
use Rattle.states.proofs.Members.{is_set_of}
use Rattle.numbers.proofs.book.reading.NumberBookBook.start.Goals as goal

pub returns : goal.returns
returns c = is_set_of c.single.result _ (λ p l. c.single.ensures.alone (omega arith) p)
