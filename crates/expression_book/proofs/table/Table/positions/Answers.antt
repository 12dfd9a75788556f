use Rattle.std.proofs.Common.{◌≡◌, ◌<◌, Bool, true, false, ◌&&◌, eqb, length, sym, ap, ◌∙◌, arith}
use Rattle.std.proofs.lemmas.List.{get_or_default}
use Rattle.std.proofs.lemmas.Bool.{eq-eqb, ne_eqb}
use Rattle.std.proofs.Math.Bool.{or-false}
use Rattle.states.specs.Sets.{has}
use Rattle.states.proofs.OneByOne.{all_came, gathers_all}
use Rattle.expression_book.specs.declared.row.Row.{Row}
use Rattle.expression_book.specs.Rows.{blank}
use Rattle.expression_book.specs.Laws.{rule_at}
use Rattle.expression_book.proofs.Edits.{one_more}
use Rattle.expression_book.proofs.Removed.{itself, positions_made}
use Rattle.expression_book.proofs.table.Table.positions.Goals as goal

pub loop-p-preserved : goal.loop-p-preserved
loop-p-preserved c q =
    let t = c.args.self.now in
    let r = c.args.rule in
    let p = c.in-Some.p in
    let within : p < length t.rows = let long = t.long in omega arith in
    let other : eqb (rule_at t p) r ≡ false = ne_eqb _ r (λ e. c.if-self-p.false (ap (λ (w : Row). w.rule) (get_or_default t.rows p _ blank within) ∙ e)) in
    sym (or-false (has c.loop-p.out q))
    ∙ one_more (λ x. itself t r x q) c.loop-p.yielded p _ false (c.loop-p.invariant q) (sym (ap (λ (b : Bool). b && eqb q p) other))

pub loop-p-preserved-then-self-p : goal.loop-p-preserved-then-self-p
loop-p-preserved-then-self-p c q =
    let t = c.args.self.now in
    let r = c.args.rule in
    let p = c.in-Some.p in
    let within : p < length t.rows = let long = t.long in omega arith in
    let own : eqb (rule_at t p) r ≡ true = eq-eqb _ r (sym (ap (λ (w : Row). w.rule) (get_or_default t.rows p _ blank within)) ∙ c.if-self-p.true) in
    c.with-out.ensures.alone (omega arith) q
    ∙ one_more (λ x. itself t r x q) c.loop-p.yielded p _ (eqb q p) (c.loop-p.invariant q) (sym (ap (λ (b : Bool). b && eqb q p) own))

pub returns : goal.returns
returns c =
    let t = c.args.self.now in
    positions_made t c.args.rule c.loop-p.out
    (gathers_all t.live (itself t c.args.rule) (has c.loop-p.out) c.loop-p.yielded
    (all_came t.live c.into_iter-p-iterator.result (cc) c.loop-p.yielded _ c.loop-p.yielded_by _ _ c.in-None.is c.next.ensures.steps)
    c.loop-p.invariant)
