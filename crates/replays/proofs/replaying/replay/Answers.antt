use Rattle.std.proofs.Common.{◌≡◌, [], ◌∷◌, ◌++◌, sym, ap, ◌∙◌, append_assoc, append-nil}
use Rattle.std.specs.Vec.Iter.{into_iter_items}
use Rattle.std.proofs.lemmas.List.{nil_from_length}
use Rattle.readings.proofs.Acting.{acts_history}
use Rattle.replays.proofs.Underway.{replaying_more, replaying_done_by, replayed_by}
use Rattle.replays.proofs.replaying.replay.Goals as goal

pub loop-ask-preserved : goal.loop-ask-preserved
loop-ask-preserved g c = (
  replaying_more _ _ _ c.in-Some.ask c.perform.result c.loop-ask.invariant.0 c.perform.ensures.acts c.in_ok-push.ensures.items,
  c.loop-ask.invariant.1 ∙ ap (λ xs. c.loop-ask.yielded ++ xs) c.in-Some.ensures.steps.0 ∙ sym (append_assoc c.loop-ask.yielded (c.in-Some.ask ∷ []) _),
)

pub returns-clause-acts : goal.returns-clause-acts
returns-clause-acts g c =
    let book = g.B.ChangingBook in
    let left : into_iter_items c.loop-ask.ask-iterator ≡ [] = nil_from_length _ (sym c.loop-ask.ask-iterator.rest.ok.0 ∙ c.in-None.ensures.steps.0) in
    replaying_done_by _ _ _ (g.B.Book.model c.args.book) c.args.edition c.in_ok-reader.ensures.made (g.met.B.Book.lawful _)
    (acts_history book.refusal book.grows book.shrinks _)
    (sym c.into_iter-ask-iterator.ensures.into_iter_gives.0 ∙ c.loop-ask.invariant.1 ∙ ap (λ xs. c.loop-ask.yielded ++ xs) left ∙ append-nil _) c.loop-ask.invariant.0

pub returns-clause-history : goal.returns-clause-history
returns-clause-history g c =
    let book = g.B.ChangingBook in
    replayed_by _ _ _ (acts_history book.refusal book.grows book.shrinks _) (returns-clause-acts g c)
