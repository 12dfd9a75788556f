use Rattle.std.proofs.Common.{Some, Ok, Err, sym, ap, ◌∙◌}
use Rattle.answers.specs.Texts.{finish_line, refused_line}
use Rattle.contexts.specs.Contexts.{use_of}
use Rattle.contexts.proofs.context.Context.finish.Goals as goal

pub returns-in_ok-finished-in-Ok : goal.returns-in_ok-finished-in-Ok
returns-in_ok-finished-in-Ok g c =
    let model = g.B.Book.model in
    let u = use_of c.args.self.now in (
      finish_line (model c.book.result.now).meaning.kind c.in-Ok.rules,
      c.in_ok-finished-in-Ok.ensures,
      record {
        walk = c.in_ok-walk.walk;
        here = sym c.take.ensures.value ∙ c.in_ok-walk.ensures.ok_part;
        result = Ok c.in-Ok.rules;
        does = c.in-Ok.ensures.does;
        after = ap (λ k. record { reader = u.reader; cursor = u.cursor; walk = k }) c.take.ensures.after;
        tells = ap (λ b. finish_line (model b).meaning.kind c.in-Ok.rules) c.book.ensures;
      },
    )

pub returns-in_ok-refused-in-Err : goal.returns-in_ok-refused-in-Err
returns-in_ok-refused-in-Err g c =
    let u = use_of c.args.self.now in (
      refused_line c.tell.result,
      c.in_ok-refused-in-Err.ensures,
      record {
        walk = c.in_ok-walk.walk;
        here = sym c.take.ensures.value ∙ c.in_ok-walk.ensures.ok_part;
        result = Err c.in-Err.back;
        does = c.in-Err.ensures.does;
        after = ap (λ k. record { reader = u.reader; cursor = u.cursor; walk = Some k }) c.in-Err.ensures.back;
        tells = ap refused_line c.tell.ensures;
      },
    )
