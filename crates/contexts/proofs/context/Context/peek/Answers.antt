use Rattle.std.proofs.Common.{rules, codes, sym, refl, ap, ◌∙◌}
use Rattle.std.specs.Option.{option_map, option_copied}
use Rattle.reader.specs.View.{view}
use Rattle.contexts.specs.Contexts.{marker_of}
use Rattle.contexts.specs.Uses.{token_text}
use Rattle.contexts.proofs.context.Context.peek.Goals as goal

pub returns : goal.returns
returns g c =
    let model = g.B.Book.model in
    let code = g.B.Symbol.Symbol.code in (
      token_text (codes "peek") (model c.book.result.now).meaning.kind c.peek-token.result,
      c.in_ok-tell_token.ensures,
      record {
        cursor = marker_of code c.in_ok-track.track.now;
        here = ap (option_map (marker_of code)) (sym c.as_ref.ensures.value ∙ ap option_copied c.in_ok-track.ensures.ok_part);
        result = c.peek-token.result;
        reader = view c.peek-token.new.self;
        does = search rules;
        after = refl;
        tells = ap (λ b. token_text (codes "peek") (model b).meaning.kind c.peek-token.result) c.book.ensures;
      },
    )
