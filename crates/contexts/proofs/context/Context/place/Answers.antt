use Rattle.std.proofs.Common.{◌≡◌, ℕ, min, List, map, length, Some, vec_items, sym, ap, ◌∙◌}
use lib.ListN.{length-map}
use Rattle.answers.specs.Texts.{cursor_line}
use Rattle.passes.proofs.Steps.{on_ok_map}
use Rattle.contexts.specs.Uses.{Places, Use}
use Rattle.contexts.specs.Contexts.{use_of}
use Rattle.contexts.proofs.context.Context.place.Goals as goal

-- the cursor that was made, where n is the text's length and p its place
made_at : (u : Use) (text : List ℕ) (place n p : ℕ) → length text ≡ n → p ≡ min place n →
    Places place text u (record { reader = u.reader; cursor = Some (record { text = text; place = p; from = p; to = p }); walk = u.walk }) (cursor_line p n)
made_at u text place n p e f =
    let same : p ≡ min place (length text) = f ∙ ap (min place) (sym e) in
    (ap (λ q. record { reader = u.reader; cursor = Some (record { text = text; place = q; from = q; to = q }); walk = u.walk }) same, ap (λ q. cursor_line q n) same ∙ ap (cursor_line (min place (length text))) (sym e))

pub returns : goal.returns
returns g c =
    let code = g.B.Symbol.Symbol.code in
    let u = use_of c.args.self.now in
    let items = vec_items c.args.text in
    on_ok_map c.cursor.result
    (λ e. (_, e, made_at u (map code items) c.args.place c.len-length.result c.min-place.result (length-map items code ∙ sym c.args.text.ok.0 ∙ sym c.len-length.ensures) c.min-place.ensures))
    c.cursor.ensures
