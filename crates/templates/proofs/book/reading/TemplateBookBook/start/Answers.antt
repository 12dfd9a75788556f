use Rattle.states.proofs.Members.{is_set_of}
use Rattle.templates.proofs.book.reading.TemplateBookBook.start.Goals as goal

pub returns : goal.returns
returns c = is_set_of c.args.self.now.start _ (λ p l. c.args.self.now.starts p)
