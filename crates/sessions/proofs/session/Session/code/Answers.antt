use Rattle.std.proofs.Common.{string_bytes, sym, refl, subst}
use Rattle.passes.specs.Runs.{Answers}
use Rattle.sessions.specs.Sessions.{Codes, Within}
use Rattle.sessions.specs.Views.{here_in}
use Rattle.sessions.specs.declared.session.AnyContext.{AnyContext}
use Rattle.sessions.specs.declared.session.AnyContext.TheVariants.{Templates, Expressions, Events}
use Rattle.sessions.proofs.session.Session.code.Goals as goal

pub returns-in_ok-add-in-Templates : goal.returns-in_ok-add-in-Templates
returns-in_ok-add-in-Templates c =
    let h = c.in_ok-add-in-Templates.ensures in
    subst (λ (s : AnyContext). Answers (Within (λ book. Codes book c.args.rule c.args.kind c.args.bytes.now) (here_in s) (here_in (Templates c.add.new.self))) (string_bytes c.args.out.now) (string_bytes c.add.new.out))
    (sym c.in-Templates.is) (h.0, h.1, (refl, h.2))

pub returns-in_ok-add-in-Expressions : goal.returns-in_ok-add-in-Expressions
returns-in_ok-add-in-Expressions c =
    let h = c.in_ok-add-in-Expressions.ensures in
    subst (λ (s : AnyContext). Answers (Within (λ book. Codes book c.args.rule c.args.kind c.args.bytes.now) (here_in s) (here_in (Expressions c.add-in-Expressions.new.self))) (string_bytes c.args.out.now) (string_bytes c.add-in-Expressions.new.out))
    (sym c.in-Expressions.is) (h.0, h.1, (refl, h.2))

pub returns-in_ok-add-in-Events : goal.returns-in_ok-add-in-Events
returns-in_ok-add-in-Events c =
    let h = c.in_ok-add-in-Events.ensures in
    subst (λ (s : AnyContext). Answers (Within (λ book. Codes book c.args.rule c.args.kind c.args.bytes.now) (here_in s) (here_in (Events c.add-in-Events.new.self))) (string_bytes c.args.out.now) (string_bytes c.add-in-Events.new.out))
    (sym c.in-Events.is) (h.0, h.1, (refl, h.2))
