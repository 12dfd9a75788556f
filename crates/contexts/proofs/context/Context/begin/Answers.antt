use Rattle.std.proofs.Common.{◌≡◌, ℕ, codes, sym, refl, ap, ◌∙◌}
use Rattle.states.specs.Sets.{State}
use Rattle.readings.specs.Readings.Told.{walking}
use Rattle.answers.specs.Texts.{numbered}
use Rattle.passes.proofs.Steps.{on_ok_map}
use Rattle.contexts.proofs.context.Context.begin.Goals as goal

same_edition : (d e : ℕ) (s t : State) → walking d s ≡ walking e t → d ≡ e
same_edition d e s t h = cc

pub returns : goal.returns
returns g c =
    let h = c.begin-walk.ensures in
    let e = same_edition _ _ _ _ h.tells in
    on_ok_map c.walk.result
    (λ k. (_, k, record { walk = c.begin-walk.result; does = h; after = refl; tells = ap (numbered (codes "walk edition=")) (c.edition-edition.ensures ∙ sym e) })) c.walk.ensures
