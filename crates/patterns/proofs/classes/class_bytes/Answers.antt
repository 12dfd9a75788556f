use Rattle.std.proofs.Common.{not, ◌&&◌, ap, ◌∙◌, rules}
use Rattle.std.proofs.lemmas.Result.{err_from_is_err_and}
use Rattle.states.specs.Sets.{has}
use Rattle.patterns.proofs.Spans.{others_read, others_refused}
use Rattle.patterns.proofs.classes.class_bytes.Goals as goal

pub returns-in_err-others-in-94 : goal.returns-in_err-others-in-94
returns-in_err-others-in-94 c =
    let p = err_from_is_err_and c.from_residual.result c.from_residual.ensures.1 in
    rw (p.1, p.2) (others_refused c.args.body c.skip.result c.in-94.len_at_least (search rules) c.skip.ensures.bytes c.skip.ensures.place _ c.in_err-others-in-94.ensures)

pub returns-in_ok-others-in-94 : goal.returns-in_ok-others-in-94
returns-in_ok-others-in-94 c =
    others_read c.args.body c.skip.result c.in-94.len_at_least (search rules) c.skip.ensures.bytes c.skip.ensures.place _ _ c.in_ok-others-in-94.ensures
    (λ p. c.without.ensures p ∙ ap (λ t. t && not (has c.in_ok-others-in-94.others p)) (c.full.ensures p))
