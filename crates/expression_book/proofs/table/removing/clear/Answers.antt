use Rattle.std.proofs.Common.{◌≡◌, ℕ, ◌<◌, List, length, ap, ◌∙◌, arith}
use Rattle.states.specs.Sets.{has}
use Rattle.states.proofs.OneByOne.{all_came, listed_is}
use Rattle.expression_book.specs.Rows.{blank}
use Rattle.expression_book.proofs.Edits.{came, edit_none, edit_more}
use Rattle.expression_book.proofs.table.removing.clear.Goals as goal

pub loop-p-init : goal.loop-p-init
loop-p-init c = edit_none (λ v w. w ≡ blank) (λ u v w d e. e) c.args.rows.now

pub loop-p-preserved : goal.loop-p-preserved
loop-p-preserved c =
    let inv = c.loop-p.invariant in
    let p = c.in-Some.p in
    let within : p < length c.loop-p.rows = let long = c.told-rows in omega (arith, inv.size) in
    edit_more (λ v w. w ≡ blank) (λ u v w d e. e) c.args.rows.now c.loop-p.rows c.loop-p.yielded p c.blank.result inv within c.blank.ensures

pub returns : goal.returns
returns c =
    let inv = c.loop-p.invariant in
    let came : (p : ℕ) → came c.loop-p.yielded p ≡ has c.args.gone p = λ p.
    ap (λ (xs : List ℕ). came xs p)
    (all_came c.args.gone c.into_iter-p-iterator.result (cc) c.loop-p.yielded _ c.loop-p.yielded_by _ _ c.in-None.is c.next.ensures.steps)
    ∙ listed_is c.args.gone p in
    record {
      size = inv.size ∙ c.told-rows;
      cleared = λ p h. inv.done p (came p ∙ h);
      kept = λ p h. inv.kept p (came p ∙ h);
    }
