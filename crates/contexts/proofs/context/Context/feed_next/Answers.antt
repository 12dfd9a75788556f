use Rattle.std.proofs.Common.{Some, Err, sym, refl, ap, ◌∙◌, subst}
use Rattle.readings.specs.Calls.{Does}
use Rattle.readings.specs.Calls.Call.{read}
use Rattle.readings.specs.Readings.Reading.{feed}
use Rattle.reader.specs.Answers.{fed_told, fed_count}
use Rattle.reader.specs.View.{view}
use Rattle.answers.specs.Texts.{feed_line, refused_line}
use Rattle.contexts.specs.Contexts.{use_of}
use Rattle.contexts.proofs.context.Context.feed_next.Goals as goal

pub returns-in_ok-fed-in-Ok : goal.returns-in_ok-fed-in-Ok
returns-in_ok-fed-in-Ok g c = (
  feed_line c.in-Ok.fed.worked,
  c.in_ok-fed-in-Ok.ensures,
  (
    c.in-Ok.fed,
    record {
      walk = c.in_ok-walk.walk;
      here = sym c.take.ensures.value ∙ c.in_ok-walk.ensures.ok_part;
      reader = view c.feed.new.self;
      does = c.in-Ok.ensures.does;
      after = refl;
      tells = refl;
    },
  ),
)

pub returns-in_ok-refused-in-Err : goal.returns-in_ok-refused-in-Err
returns-in_ok-refused-in-Err g c =
    let model = g.B.Book.model in
    let u = use_of c.args.self.now in
    let walk = c.in_ok-walk.walk in
    let back = c.in-Err.back in
    let h = c.in-Err.ensures in
    let here = sym c.take.ensures.value ∙ c.in_ok-walk.ensures.ok_part in (
      refused_line c.tell.result,
      c.in_ok-refused-in-Err.ensures,
      (
        ap (λ x. record { reader = view x; cursor = u.cursor; walk = Some back.walk }) h.back.1
            ∙ ap (λ k. record { reader = u.reader; cursor = u.cursor; walk = k }) (ap Some h.back.0 ∙ sym here),
        record {
          walk = walk;
          here = here;
          back = back;
          does =
              subst
              (λ x. Does (read (feed walk.edition walk.state (g.B.Symbol.Symbol.code c.args.symbol))) (fed_told (Err back)) (fed_count (Err back)) u.reader (view x))
              h.back.1 h.does;
          tells = ap refused_line c.tell.ensures;
        },
      ),
    )
