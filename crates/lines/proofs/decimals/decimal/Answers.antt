use Rattle.std.proofs.Common.{◌≡◌, ◌<◌, None, Some, Err, length, rules, tests, arith, sym, subst, ap, ◌∙◌}
use Rattle.std.proofs.lemmas.Iterator.{YieldsList-from_slice}
use Rattle.std.proofs.lemmas.Result.{err_from_is_err_and}
use Rattle.lines.specs.Numerals.{Reads}
use Rattle.lines.specs.declared.decimals.NoDecimal.TheVariants.{NoDigits}
use Rattle.lines.proofs.Numerals.{TakesDigits, takes_digits}
use Rattle.lines.proofs.decimals.decimal.Goals as goal

pub returns-in_err-value : goal.returns-in_err-value
returns-in_err-value c =
    let digits = c.args.digits.now in
    let taken : TakesDigits digits c.try_fold.result = takes_digits _ _ (λ f n x r h k. search (rules, tests)) (YieldsList-from_slice digits cc) _ _ _ c.try_fold.ensures.ran in
    let none : c.try_fold.result ≡ None = search rules in
    let bad : c.in_err-value.field-0.0 ≡ NoDigits = search rules in
    let p = err_from_is_err_and c.from_residual.result c.from_residual.ensures.1 in
    subst (Reads digits) (sym (p.1 ∙ ap Err (p.2 ∙ bad))) (λ h. subst (TakesDigits digits) none taken h.1)

pub returns : goal.returns
returns c =
    let digits = c.args.digits.now in
    let taken : TakesDigits digits c.try_fold.result = takes_digits _ _ (λ f n x r h k. search (rules, tests)) (YieldsList-from_slice digits cc) _ _ _ c.try_fold.ensures.ran in
    let some : c.try_fold.result ≡ Some c.in_ok-value.value = search rules in
    let there : 0 < length digits = search rules in
    let value = subst (TakesDigits digits) some taken in
    search (rules, arith)
