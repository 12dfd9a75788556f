use Rattle.std.proofs.Common.{◌<◌, ◌&&◌, length, ap, ◌∙◌, arith}
use Rattle.std.proofs.lemmas.List.{get_or_default}
use Rattle.states.specs.Sets.{has}
use Rattle.states.proofs.OneByOne.{all_came, gathers_all}
use Rattle.expression_book.specs.declared.row.Row.{Row}
use Rattle.expression_book.specs.Rows.{blank, takes, leads}
use Rattle.expression_book.specs.Laws.{next_made}
use Rattle.expression_book.proofs.Edits.{one_more}
use Rattle.expression_book.proofs.table.Table.next.Goals as goal

pub loop-p-preserved : goal.loop-p-preserved
loop-p-preserved c q =
    let rows = c.args.self.now.rows in
    let p = c.in-Some.p in
    let within : p < length rows = let long = c.args.self.now.long in omega arith in
    c.union-out.ensures q
    ∙ one_more (λ x. leads rows c.args.code x q) c.loop-p.yielded p _ _ (c.loop-p.invariant q)
    (c.after.ensures q ∙ ap (λ (w : Row). takes w c.args.code && has w.follow q) (get_or_default rows p _ blank within))

pub returns : goal.returns
returns c =
    let t = c.args.self.now in
    next_made t c.args.state c.loop-p.out c.args.code
    (gathers_all c.args.state (leads t.rows c.args.code) (has c.loop-p.out) c.loop-p.yielded
    (all_came c.args.state c.into_iter-p-iterator.result (cc) c.loop-p.yielded _ c.loop-p.yielded_by _ _ c.in-None.is c.next.ensures.steps)
    c.loop-p.invariant)
