-- The equality of sights decides whether they are the same. Assumes nothing.
use Rattle.std.proofs.Common.{◌≡◌, true, false, nat_eq, refl, ap, subst}
use Rattle.std.specs.Cmp.Lexicographic.{pointwise}
use Rattle.std.proofs.lemmas.Bool.{both_ways, and_parts, and_from, eqb-true, eq-eqb}
use Rattle.states.specs.Sets.{Rules, same as same_set}
use Rattle.states.proofs.Members.{same_true, same_self}
use Rattle.alike.specs.declared.sight.Sight.{Sight}
use Rattle.alike.specs.declared.sight.Sight.TheVariants.{Changed, Ended, Matched, Walking, Refused}
use Rattle.alike.specs.contracts.sight.SightPartialEq.TheImpl.{ghosts as sight_eq}
use Rattle.alike.specs.Sights.{EqualityDecides}

same_rules : (r q : Rules) → pointwise nat_eq r.words q.words ≡ true → r ≡ q
unfolding same_set
same_rules r q h = same_true r q h

rules_equal_themselves : (r : Rules) → pointwise nat_eq r.words r.words ≡ true
unfolding same_set
rules_equal_themselves r = same_self r

equal_are_same : (a b : Sight) → sight_eq.eq a b ≡ true → a ≡ b
equal_are_same (Changed e) (Changed e') h = ap (λ x. Changed x) (eqb-true e e' h)
equal_are_same (Ended r) (Ended r') h = ap (λ x. Ended x) (same_rules r r' h)
equal_are_same (Matched p n r) (Matched p' n' r') h =
    let here = and_parts _ _ h in
    let later = and_parts _ _ here.1 in
    λ i. Matched (eqb-true p p' here.0 i) (eqb-true n n' later.0 i) (same_rules r r' later.1 i)
equal_are_same (Walking e) (Walking e') h = ap (λ x. Walking x) (eqb-true e e' h)
equal_are_same (Refused n l p) (Refused n' l' p') h =
    let here = and_parts _ _ h in
    let later = and_parts _ _ here.1 in
    λ i. Refused (eqb-true n n' here.0 i) (eqb-true l l' later.0 i) (eqb-true p p' later.1 i)
equal_are_same a b h = absurd (both_ways false refl h)

equal_to_itself : (a : Sight) → sight_eq.eq a a ≡ true
equal_to_itself (Changed e) = eq-eqb e e refl
equal_to_itself (Ended r) = rules_equal_themselves r
equal_to_itself (Matched p n r) = and_from _ _ (eq-eqb p p refl) (and_from _ _ (eq-eqb n n refl) (rules_equal_themselves r))
equal_to_itself (Walking e) = eq-eqb e e refl
equal_to_itself (Refused n l p) = and_from _ _ (eq-eqb n n refl) (and_from _ _ (eq-eqb l l refl) (eq-eqb p p refl))

pub equality_decides : EqualityDecides
equality_decides a b = (equal_are_same a b, λ e. subst (λ (x : Sight). sight_eq.eq a x ≡ true) e (equal_to_itself a))
