use Rattle.std.proofs.Common.{codes, sym, ◌∙◌, subst}
use Rattle.contexts.specs.Contexts.{use_of}
use Rattle.sessions.specs.Sessions.{AddsExpression, AddsPattern}
use Rattle.sessions.proofs.session.add_pattern.Goals as goal

pub returns-in_ok-add-in-Ok : goal.returns-in_ok-add-in-Ok
returns-in_ok-add-in-Ok c =
    let h = c.in_ok-add-in-Ok.ensures in
    let e = c.in-Ok.ensures in (
      h.0,
      h.1,
      subst (λ o. AddsPattern c.args.rule c.args.kind o (use_of c.args.context.now) (use_of c.add.new.self) h.0) (sym e.1)
          (subst (λ bytes. AddsExpression 255 (codes "add") c.args.rule c.args.kind bytes (use_of c.args.context.now) (use_of c.add.new.self) h.0) (c.deref.ensures.value ∙ e.2) h.2),
    )
