use Rattle.std.proofs.Common.{◌≡◌, ℕ, false, [], None, refl, subst, rules}
use Rattle.states.specs.Sets.{has}
use Rattle.patterns.specs.declared.classes.Held.TheVariants as held
use Rattle.patterns.specs.Classes.{members_left, spans, falling, covers, dash}
use Rattle.patterns.proofs.Spans.{Dashed, told, apart, ranged, all_read}
use Rattle.patterns.proofs.classes.class_set.Goals as goal

pub loop-member-preserved-in-Member-default : goal.loop-member-preserved-in-Member-default
loop-member-preserved-in-Member-default c =
    let e : dash c.in-Some.member ≡ false = search rules in
    (apart _ _ _ _ _ _ (told _ (held.Member c.in-Member-default.left) _ _ c.in-Member-default.is-0 c.in-Some.ensures.steps c.loop-member.invariant.0) e (λ p. search (rules, c.with_range-set.ensures p)), tt)

pub loop-member-preserved : goal.loop-member-preserved
loop-member-preserved c =
    (ranged _ _ _ _ _ _ _ (told _ _ _ _ c.in-Dash-default.is-0 c.in-Some.ensures.steps c.loop-member.invariant.0) (subst Dashed c.in-Dash-default.is-0 c.loop-member.invariant.1) c.if-right-left.false c.with_range-set-in-Dash-default.ensures, tt)

pub returns : goal.returns
returns c =
    subst (λ m. (falling (spans (members_left m)) ≡ None) × ((x : ℕ) → has c.with_held.result x ≡ covers (spans (members_left m)) x)) c.into_iter-member-iterator.ensures.into_iter_gives
    (all_read _ _ _ c.loop-member.held (told _ c.loop-member.held _ [] refl c.in-None.ensures.steps.0 c.loop-member.invariant.0) c.with_held.ensures)
