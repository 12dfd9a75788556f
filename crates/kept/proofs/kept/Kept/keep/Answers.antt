use Rattle.std.proofs.Common.{is_some, length, sym, ap, ◌∙◌, arith}
use Rattle.std.proofs.lemmas.Bool.{or_from, cond-false, lt-leb}
use Rattle.kept.specs.Steps.{distinct, most, keep}
use Rattle.kept.specs.Tables.{steps}
use Rattle.kept.proofs.Found.{none_from_is_some, distinct_push}
use Rattle.kept.proofs.Tables.{count_is, steps_distinct, pushed}
use Rattle.kept.proofs.kept.Kept.keep.Goals as goal

pub invariant_of-self-clause-apart : goal.invariant_of-self-clause-apart
invariant_of-self-clause-apart c =
    let t = c.args.self.now in
    let none = sym c.find.ensures ∙ none_from_is_some _ (sym c.if-is_some.ensures) in
    ap distinct (pushed t _ _ _ _ c.push_reserved.ensures.items c.push_reserved-2.ensures.items) ∙ distinct_push (steps t) _ (steps_distinct t) none

pub returns : goal.returns
unfolding steps keep
returns c =
    let t = c.args.self.now in
    let none = sym (ap is_some c.find.ensures) ∙ sym c.if-is_some.ensures in
    let few = lt-leb most (length (steps t)) (omega (arith, count_is t)) in
    pushed t _ _ _ _ c.push_reserved.ensures.items c.push_reserved-2.ensures.items ∙ sym (cond-false _ _ _ (or_from _ _ none few))
