use Rattle.std.proofs.Common.{◌≡◌, Some, subst, rules}
use Rattle.lines.specs.Lines.{Leads, behind}
use Rattle.lines.proofs.Leading.{leads_parted}
use Rattle.lines.proofs.Refusing.{err_by}
use Rattle.lines.proofs.arguments.Behind.leading.Goals as goal

pub returns-in_err-number : goal.returns-in_err-number
returns-in_err-number c =
    let whole : behind c.args.self ≡ Some c.in_ok-text.text.now = search rules in
    err_by _ _ c.in_err-number.field-0.0 c.from_residual-in_err-number.result c.from_residual-in_err-number.ensures.1
    (c.in_err-number.ensures.0, λ n more h. c.in_err-number.ensures.1 n (leads_parted _ _ _ more n c.part.ensures (subst (λ r. Leads r n more) whole h)))
