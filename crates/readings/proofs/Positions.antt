-- Which rules the positions of a state are of. Assumes nothing.
use Rattle.std.proofs.Common.{◌≡◌, ℕ, true, false, is_some, Some, None, Decides, Option, refl, ap, ◌∙◌, inl, inr}
use Rattle.std.proofs.lemmas.Bool.{eqb-true, eq-eqb, cases_Bool, both_ways}
use Rattle.states.specs.Sets.{State}
use Rattle.states.specs.Sets.{has, is_empty, nothing, no_rule}
use Rattle.states.proofs.Members.{empty_is, no_members, has_nothing, some_member, is_empty_decides}
use Rattle.books.specs.Meaning.{Meaning, Lawful, Within, is, touches}

pub some_of : {A : Type 0} (o : Option A) → is_some o ≡ true → (x : A) × (o ≡ Some x)
some_of None e = absurd (both_ways false refl e)
some_of (Some x) e = (x, refl)

pub is_true : (o : Option ℕ) (r : ℕ) → is o r ≡ true → o ≡ Some r
is_true None r e = absurd (both_ways false refl e)
is_true (Some q) r e = ap Some (eqb-true q r e)

touches_decides : (m : Meaning) (r : ℕ) (s : State) → Decides (touches m r s) ((p : ℕ) × (has s p ≡ true) × (m.owner p ≡ Some r))
unfolding touches
touches_decides m r s =
    let d = some_member s (λ p. is (m.owner p) r) in (
      λ e. let w = d.0 e in (w.0, w.1, is_true (m.owner w.0) r w.2),
      λ w. d.1 (w.0, w.1, ap (λ (o : Option ℕ). is o r) w.2 ∙ eq-eqb r r refl),
    )

pub touches_none : (m : Meaning) (r : ℕ) (s : State) → ((p : ℕ) → has s p ≡ true → m.owner p ≡ Some r → ⊥) → touches m r s ≡ false
touches_none m r s h = elim (cases_Bool (touches m r s)) [
  | inl e ↦ (let w = (touches_decides m r s).0 e in absurd (h w.0 w.1 w.2))
  | inr e ↦ e
]

pub none_touched : (m : Meaning) (r : ℕ) (s : State) → touches m r s ≡ false → (p : ℕ) → has s p ≡ true → m.owner p ≡ Some r → ⊥
none_touched m r s e p h o = both_ways (touches m r s) e ((touches_decides m r s).1 (p, h, o))

-- ---- the empty state

touches_nothing : (m : Meaning) (r : ℕ) → touches m r nothing ≡ false
touches_nothing m r = touches_none m r nothing (λ p h o. both_ways (has nothing p) (has_nothing p) h)

-- a state with live positions only that touches no rule is empty
untouched : (m : Meaning) (s : State) → Within m s → ((r : ℕ) → touches m r s ≡ false) → s ≡ nothing
untouched m s live none = no_members s (λ p. elim (cases_Bool (has s p)) [
  | inl h ↦ (let o = some_of (m.owner p) (live p h) in absurd (none_touched m o.0 s (none o.0) p h o.1))
  | inr h ↦ h
])

-- from the empty state a book leads nowhere
pub next_nothing : (m : Meaning) → Lawful m → (c : ℕ) → m.next nothing c ≡ nothing
next_nothing m l c = untouched m (m.next nothing c) (l.steps nothing c) (λ r. l.apart r nothing c (touches_nothing m r))

-- the empty state ends no rule
pub ended_empty : (m : Meaning) → Lawful m → (s : State) → is_empty s ≡ true → no_rule (m.ended s) ≡ true
ended_empty m l s e = (is_empty_decides (m.ended s) _ refl).1 (λ r. l.ends r s (ap (touches m r) (empty_is s e) ∙ touches_nothing m r))
