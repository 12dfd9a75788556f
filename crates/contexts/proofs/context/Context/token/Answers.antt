use Rattle.std.proofs.Common.{Some, codes, sym, ap, ◌∙◌}
use Rattle.std.specs.Option.{option_map}
use Rattle.reader.specs.View.{view}
use Rattle.contexts.specs.Contexts.{marker_of, use_of}
use Rattle.contexts.specs.Uses.{token_text}
use Rattle.contexts.proofs.context.Context.token.Goals as goal

pub returns : goal.returns
returns g c =
    let model = g.B.Book.model in
    let code = g.B.Symbol.Symbol.code in
    let u = use_of c.args.self.now in
    let v = view c.read_token-token.new.reader in
    let t = c.read_token-token.result in
    let h = c.read_token-token.ensures in (
      token_text (codes "token") (model c.book.result.now).meaning.kind t,
      c.in_ok-tell_token.ensures,
      record {
        cursor = marker_of code c.in_ok-track.track.now;
        here = ap (option_map (marker_of code)) (sym c.as_mut.ensures.value ∙ ap (option_map (λ m. m.now)) c.in_ok-track.ensures.ok_part);
        result = t;
        reader = v;
        does = h.does;
        after = ap (λ m. record { reader = v; cursor = Some m; walk = u.walk }) h.moves;
        tells = ap (λ b. token_text (codes "token") (model b).meaning.kind t) c.book.ensures;
      },
    )
