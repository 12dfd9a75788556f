use Rattle.std.proofs.Common.{subst}
use Rattle.std.specs.Iterator.{YieldsFirst}
use Rattle.std.proofs.lemmas.Result.{err_from_is_err_and}
use Rattle.patterns.specs.Classes.{runs_left}
use Rattle.patterns.proofs.Written.{first_none, first_some, class_refused, class_empty, class_put}
use Rattle.patterns.proofs.runs.put_class.Goals as goal

pub returns-in_err-class_bytes : goal.returns-in_err-class_bytes
returns-in_err-class_bytes c =
    let p = err_from_is_err_and c.from_residual.result c.from_residual.ensures.1 in
    rw (p.1, p.2) (class_refused c.args.body.place c.args.body.bytes.now c.requires _ c.in_err-class_bytes.ensures)

pub returns-in_err-first : goal.returns-in_err-first
returns-in_err-first c =
    let p = err_from_is_err_and c.from_residual-in_err-first.result c.from_residual-in_err-first.ensures.1 in
    let e = first_none c.next.result _ _ c.in_err-first.ensures.value in
    let s = subst (λ r. YieldsFirst runs_left (record { 0 = c.in_ok-class_bytes.field-0 }) r c.next.new.self) e.0 c.next.ensures.steps in
    rw (p.1, p.2, e.1) (class_empty c.args.body.place c.args.body.bytes.now c.requires c.in_ok-class_bytes.field-0 c.in_ok-class_bytes.ensures s.0)

pub returns : goal.returns
returns c =
    let e = first_some c.next.result _ _ c.in_ok-first.ensures.value in
    let s = subst (λ r. YieldsFirst runs_left (record { 0 = c.in_ok-class_bytes.field-0 }) r c.next.new.self) e c.next.ensures.steps in
    class_put c.args.body.place c.args.body.bytes.now c.requires c.in_ok-class_bytes.field-0 c.in_ok-first.first _ c.args.sink.now c.put_runs.new.sink c.in_ok-class_bytes.ensures s c.put_runs.ensures
