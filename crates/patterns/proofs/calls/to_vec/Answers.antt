use Rattle.std.proofs.Common.{Err, ap, ◌∙◌}
use Rattle.std.proofs.lemmas.Result.{err_from_is_err_and}
use Rattle.patterns.proofs.Unroomed.{never_no_room}
use Rattle.patterns.proofs.calls.to_vec.Goals as goal

pub returns-in_err-length : goal.returns-in_err-length
returns-in_err-length c =
    let p = err_from_is_err_and c.from_residual.result c.from_residual.ensures.1 in
    rw (p.1, p.2) (c.in_err-length.ensures, λ e. never_no_room c.args.text.now (c.in_err-length.ensures ∙ ap Err e))
