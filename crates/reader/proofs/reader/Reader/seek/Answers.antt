use Rattle.std.proofs.Common.{◌≡◌, ◌+◌, cond, Some, sym, ap, ◌∙◌, inr, arith}
use Rattle.std.specs.Option.{option_map}
use Rattle.std.proofs.lemmas.Bool.{cond-true, cond-false}
use Rattle.states.specs.Sets.{no_rule}
use Rattle.readings.proofs.Sought.{sought_none}
use Rattle.readings.proofs.Slices.{sought_more, all_read}
use Rattle.reader.proofs.Seeks.{ended, counted, seeks_over}
use Rattle.reader.proofs.reader.Reader.seek.Goals as goal
use Rattle.reader.proofs.reader.Reader.seek.Goals.{then-not-is_empty, else-not-is_empty}

pub loop-i-init : goal.loop-i-init
loop-i-init g c = rw c.start-state.ensures (sought_none _ _ c.args.self.now.fits, omega arith, (g.met.B.Book.lawful _).starts)

pub loop-i-preserved : goal.loop-i-preserved
loop-i-preserved g c =
    let more = sought_more g.B.Symbol.Symbol.code c.args.rest.now c.index-rest-i.result c.loop-i-test.true c.index-rest-i.is c.loop-i.invariant.0
    (sym c.if-is_empty.ensures.value) c.step-taken.ensures.works c.step-taken.ensures.state c.ended-rules.ensures in
    let one = counted c.step-taken.result.worked _ c.from-count.ensures in
    let none = c.is_empty-in-loop-i.ensures.value in
    let best : option_map ended c.if-not-is_empty.best ≡ cond (no_rule c.ended-rules.result) (option_map ended c.loop-i.best) (Some (c.loop-i.i + 1, c.ended-rules.result)) =
    elim c.if-not-is_empty.branch [
      | then-not-is_empty w ↦ ap (option_map ended) w.best-is ∙ sym (cond-false _ _ _ (sym none ∙ w.if-not-is_empty.true))
      | else-not-is_empty w ↦ ap (option_map ended) w.best-is ∙ sym (cond-true _ _ _ (sym none ∙ w.if-not-is_empty.false))
    ] in
    (rw (one.0, ← best) at more, omega (arith, one.1, c.loop-i.invariant.1), c.step-taken.ensures.live)

pub returns-after-loop-i-clause-seeks : goal.returns-after-loop-i-clause-seeks
returns-after-loop-i-clause-seeks g c =
    seeks_over _ c.loop-i.invariant.0 (g.met.B.Book.lawful _) (all_read g.B.Symbol.Symbol.code c.args.rest.now c.loop-i.state c.loop-i-test.false)

pub returns-then-is_empty-clause-seeks : goal.returns-then-is_empty-clause-seeks
returns-then-is_empty-clause-seeks g c = seeks_over _ c.loop-i.invariant.0 (g.met.B.Book.lawful _) (inr (sym c.if-is_empty.ensures.value))
