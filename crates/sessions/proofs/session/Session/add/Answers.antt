use Rattle.std.proofs.Common.{string_bytes, sym, refl, subst}
use Rattle.passes.specs.Runs.{Answers}
use Rattle.sessions.specs.Sessions.{Adds, Within}
use Rattle.sessions.specs.Views.{here_in}
use Rattle.sessions.specs.declared.session.AnyContext.{AnyContext}
use Rattle.sessions.specs.declared.session.AnyContext.TheVariants.{Templates}
use Rattle.sessions.proofs.session.Session.add.Goals as goal

pub returns-in_ok-add-in-Templates : goal.returns-in_ok-add-in-Templates
returns-in_ok-add-in-Templates c =
    let h = c.in_ok-add-in-Templates.ensures in
    subst (λ (s : AnyContext). Answers (Within (λ book. Adds book c.args.rule c.args.kind c.args.text.now) (here_in s) (here_in (Templates c.add.new.self))) (string_bytes c.args.out.now) (string_bytes c.add.new.out))
    (sym c.in-Templates.is) (h.0, h.1, (refl, h.2))
