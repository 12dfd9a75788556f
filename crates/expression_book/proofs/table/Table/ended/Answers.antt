use Rattle.std.proofs.Common.{◌<◌, ◌&&◌, eqb, ltb, length, ap, ◌∙◌, arith}
use Rattle.std.proofs.lemmas.List.{get_or_default}
use Rattle.states.specs.Sets.{has_rule}
use Rattle.states.proofs.OneByOne.{all_came, gathers_all}
use Rattle.expression_book.specs.declared.row.Row.{Row}
use Rattle.expression_book.specs.Rows.{blank}
use Rattle.expression_book.specs.Laws.{rule_of, ended_made}
use Rattle.expression_book.proofs.Edits.{one_more}
use Rattle.expression_book.proofs.table.Table.ended.Goals as goal

pub loop-p-preserved : goal.loop-p-preserved
loop-p-preserved c q =
    let t = c.args.self.now in
    let p = c.in-Some.p in
    let within : p < length t.rows = let long = t.long in omega arith in
    c.union-out.ensures q
    ∙ one_more (λ x. rule_of t x q) c.loop-p.yielded p _ _ (c.loop-p.invariant q)
    (c.single.ensures.within q ∙ ap (λ (w : Row). eqb q w.rule && ltb q 64) (get_or_default t.rows p _ blank within))

pub returns : goal.returns
returns c =
    let t = c.args.self.now in
    let met = c.meet-met.result in
    ended_made t c.args.state met c.loop-p.out c.meet-met.ensures
    (gathers_all met (rule_of t) (has_rule c.loop-p.out) c.loop-p.yielded
    (all_came met c.into_iter-p-iterator.result (cc) c.loop-p.yielded _ c.loop-p.yielded_by _ _ c.in-None.is c.next.ensures.steps)
    c.loop-p.invariant)
