use Rattle.std.proofs.Common.{arith}
use Rattle.templates.proofs.Made.{next_made}
use Rattle.templates.proofs.book.reading.TemplateBookBook.next.Goals as goal

pub returns-clause-value : goal.returns-clause-value
returns-clause-value c = next_made c.args.self.now c.args.state c.meet.result c.raised.result c.args.symbol _ (omega arith)
    c.meet.ensures c.raised.ensures.first c.raised.ensures.others
