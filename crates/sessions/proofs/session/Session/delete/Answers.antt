use Rattle.std.proofs.Common.{string_bytes, sym, refl, subst}
use Rattle.passes.specs.Runs.{Answers}
use Rattle.sessions.specs.Sessions.{Deletes, Within}
use Rattle.sessions.specs.Views.{here_in}
use Rattle.sessions.specs.declared.session.AnyContext.{AnyContext}
use Rattle.sessions.specs.declared.session.AnyContext.TheVariants.{Templates, Expressions, Events}
use Rattle.sessions.proofs.session.Session.delete.Goals as goal

pub returns-in_ok-delete-in-Templates : goal.returns-in_ok-delete-in-Templates
returns-in_ok-delete-in-Templates c =
    let h = c.in_ok-delete-in-Templates.ensures in
    subst (λ (s : AnyContext). Answers (Within (λ book. Deletes book c.args.rule) (here_in s) (here_in (Templates c.delete.new.self))) (string_bytes c.args.out.now) (string_bytes c.delete.new.out))
    (sym c.in-Templates.is) (h.0, h.1, (refl, h.2))

pub returns-in_ok-delete-in-Expressions : goal.returns-in_ok-delete-in-Expressions
returns-in_ok-delete-in-Expressions c =
    let h = c.in_ok-delete-in-Expressions.ensures in
    subst (λ (s : AnyContext). Answers (Within (λ book. Deletes book c.args.rule) (here_in s) (here_in (Expressions c.delete-in-Expressions.new.self))) (string_bytes c.args.out.now) (string_bytes c.delete-in-Expressions.new.out))
    (sym c.in-Expressions.is) (h.0, h.1, (refl, h.2))

pub returns-in_ok-delete-in-Events : goal.returns-in_ok-delete-in-Events
returns-in_ok-delete-in-Events c =
    let h = c.in_ok-delete-in-Events.ensures in
    subst (λ (s : AnyContext). Answers (Within (λ book. Deletes book c.args.rule) (here_in s) (here_in (Events c.delete-in-Events.new.self))) (string_bytes c.args.out.now) (string_bytes c.delete-in-Events.new.out))
    (sym c.in-Events.is) (h.0, h.1, (refl, h.2))
