use Rattle.std.proofs.Common.{refl}
use Rattle.passes.proofs.Steps.{on_ok_map}
use Rattle.reader.specs.View.{view}
use Rattle.contexts.proofs.context.Context.delete.Goals as goal

pub returns : goal.returns
returns g c =
    let h = c.delete-changed.ensures in
    on_ok_map c.tell_change.result
    (λ e. (_, e, record { result = c.delete-changed.result; reader = view c.delete-changed.new.self; refuses = h.answer; does = h.does; acts = h.acts; after = refl; tells = refl }))
    c.tell_change.ensures
