-- There is at most one proof that steps are the book's, so that a type's invariant can say it.
use Rattle.std.proofs.Common.{◌≡◌, true, List, is_some, sym, ap, ◌∙◌}
use Rattle.std.specs.List.{AllByRecursion-prop}
use Rattle.std.proofs.Math.Bool.{Bool-set}
use mathlib.Core.HLevel.{collapsible→set}
use Rattle.states.specs.Sets.{State, same}
use Rattle.states.proofs.Members.{same_true, same_self}
use Rattle.books.specs.Meaning.{Meaning}
use Rattle.kept.specs.Steps.{Step}
use Rattle.readings.specs.Views.{Right, AllRight}

-- two states are equal in one way at most, since a test says whether they are
State-set : (s t : State) → IsProp (s ≡ t)
State-set s t =
    collapsible→set (λ a b p. same_true a b (ap (same a) (sym p) ∙ same_self a)) (λ a b p q. ap (same_true a b) (Bool-set (same a b) true _ _)) s t

Right-prop : (m : Meaning) (x : Step) → IsProp (Right m x)
Right-prop m x = λ a b. λ i. record {
  live = λ p h. Bool-set (is_some (m.owner p)) true (a.live p h) (b.live p h) i;
  next = State-set x.next (m.next x.state x.code) a.next b.next i;
}

pub AllRight-prop : (m : Meaning) (ks : List Step) → IsProp (AllRight m ks)
AllRight-prop m ks = AllByRecursion-prop (Right m) (Right-prop m) ks
