use Rattle.std.proofs.Common.{refl, ap}
use Rattle.reader.specs.View.{view}
use Rattle.answers.specs.Texts.{read_line}
use Rattle.passes.proofs.Steps.{on_ok_map}
use Rattle.contexts.proofs.context.Context.read.Goals as goal

pub returns : goal.returns
returns g c =
    let model = g.B.Book.model in
    let rules = c.read-answer.result.rules in
    let count = c.read-answer.result.count in
    on_ok_map c.read.result
    (λ e. (_, e, record { rules = rules; count = count; reader = view c.read-answer.new.self; does = c.read-answer.ensures.does; after = refl; tells = ap (λ b. read_line (model b).meaning.kind rules count) c.book.ensures }))
    c.read.ensures
