use Rattle.std.proofs.Common.{◌≡◌, ℕ, ◌<◌, ◌||◌, List, length, get_or, ap, ◌∙◌, arith}
use Rattle.std.proofs.lemmas.List.{get_or_default}
use Rattle.states.specs.Sets.{has}
use Rattle.states.proofs.OneByOne.{all_came, listed_is}
use Rattle.expression_book.specs.declared.row.Row.{Row}
use Rattle.expression_book.specs.Rows.{blank, row, Gains}
use Rattle.expression_book.proofs.Edits.{came, edit_none, edit_more}
use Rattle.expression_book.proofs.Grown.{gains_both}
use Rattle.expression_book.proofs.table.linking.link.Goals as goal

pub loop-p-init : goal.loop-p-init
loop-p-init c = edit_none (Gains c.args.first) (gains_both c.args.first) c.args.rows.now

pub loop-p-preserved : goal.loop-p-preserved
loop-p-preserved c =
    let inv = c.loop-p.invariant in
    let p = c.in-Some.p in
    let within : p < length c.loop-p.rows = let long = c.told-rows in omega (arith, inv.size) in
    let read : (x : Row) → get_or c.loop-p.rows p x ≡ row c.loop-p.rows p = λ x. get_or_default c.loop-p.rows p x blank within in
    edit_more (Gains c.args.first) (gains_both c.args.first) c.args.rows.now c.loop-p.rows c.loop-p.yielded p _ inv within
    (record {
      rule = ap (λ (v : Row). v.rule) (read c.index-rows-p.result);
      codes = ap (λ (v : Row). v.codes) (read c.index-rows-p.result);
      follow = λ q. c.union-row.ensures q ∙ ap (λ (v : Row). has v.follow q || has c.args.first q) (read c.index-rows-p.result);
    })

pub returns : goal.returns
returns c =
    let inv = c.loop-p.invariant in
    let came : (p : ℕ) → came c.loop-p.yielded p ≡ has c.args.last p = λ p.
    ap (λ (xs : List ℕ). came xs p)
    (all_came c.args.last c.into_iter-p-iterator.result (cc) c.loop-p.yielded _ c.loop-p.yielded_by _ _ c.in-None.is c.next.ensures.steps)
    ∙ listed_is c.args.last p in
    record {
      size = inv.size ∙ c.told-rows;
      linked = λ p h. inv.done p (came p ∙ h);
      kept = λ p h. inv.kept p (came p ∙ h);
    }
