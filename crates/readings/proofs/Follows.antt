-- A meaning that comes from another by changes of other rules.
use Rattle.std.proofs.Common.{◌≡◌, ℕ, Bool, true, false, cond, ◌↔◌, List, [], ◌∷◌, is_some, Some, None, Option, sym, refl, ap, ◌∙◌, subst}
use Rattle.std.proofs.lemmas.Bool.{both_ways, ne_eqb}
use Rattle.std.proofs.lemmas.Bool.Decides.{same_from_decides}
use Rattle.states.specs.Sets.{State}
use Rattle.states.specs.Sets.{has, is_empty}
use Rattle.states.proofs.Members.{same_members}
use Rattle.books.specs.Meaning.{Meaning, InForce, Live, Lawful, Within, is, touches}
use Rattle.books.specs.Changes.{Elsewhere, Added, Deleted}
use Rattle.readings.specs.Runs.{Pair, met}
use Rattle.readings.specs.Readings.{Reading, from, codes}
use Rattle.readings.specs.Readings.Reading.{whole, token, peek, feed}
use Rattle.readings.specs.Entries.{any_edition}
use Rattle.readings.proofs.Positions.{some_of, touches_none}
use Rattle.readings.proofs.Changed.{Clear, clear_added, clear_deleted}

-- How a call moves the meaning, with the rule of the deletion that it accepted.
pub data Turn (m n : Meaning) (d : Option ℕ) : Type 0 where
  still : n ≡ m → d ≡ None → Turn m n d
  grown : (r k : ℕ) → Added r k m n → d ≡ None → Turn m n d
  shrunk : (r : ℕ) → Deleted r m n → d ≡ Some r → Turn m n d

-- the rules of m are in n as they were
pub record Follows (m n : Meaning) : Type 0 where
  pub kinds : (q : ℕ) → InForce m q → InForce n q
  pub places : (q p : ℕ) → InForce m q → n.owner p ≡ Some q ↔ m.owner p ≡ Some q
  pub nexts : (s : State) (c : ℕ) → Within m s → n.next s c ≡ m.next s c
  pub starts : (p : ℕ) → Live m p → has n.start p ≡ has m.start p

pub follows_self : (m : Meaning) → Follows m m
follows_self m = record { kinds = λ q h. h; places = λ q p h. (λ e. e, λ e. e); nexts = λ s c w. refl; starts = λ p h. refl }

one_owner : (o : Option ℕ) (q r : ℕ) → o ≡ Some q → o ≡ Some r → q ≡ r
one_owner o q r e f = cc

is_other : (o : Option ℕ) (q r : ℕ) → o ≡ Some q → (q ≡ r → ⊥) → is o r ≡ false
is_other o q r e n = ap (λ (p : Option ℕ). is p r) e ∙ ne_eqb q r n

same_tests : {a b : Bool} → (a ≡ true → b ≡ true) → (b ≡ true → a ≡ true) → a ≡ b
same_tests {a} {b} f g = same_from_decides {P = b ≡ true} a b (f, g) (λ e. e, λ e. e)

module _ {m n : Meaning} (law : Lawful m) (f : Follows m n) where
  -- who owns a position of m in both
  owner_in : (p : ℕ) → Live m p → (q : ℕ) × InForce m q × (n.owner p ≡ Some q)
  owner_in p h =
      let o = some_of (m.owner p) h in
      let k = (law.owners p o.0 o.1).1 in
      (o.0, k, (f.places o.0 p k).1 o.1)

  pub within_follows : (s : State) → Within m s → Within n s
  within_follows s w p h = ap is_some (owner_in p (w p h)).2

  -- a rule of n that is none of m has no position among those of m
  pub free_of : (r : ℕ) (s : State) → (InForce m r → ⊥) → Within m s → touches n r s ≡ false
  free_of r s no-r w = touches_none n r s (λ p h e.
      let o = owner_in p (w p h) in
      no-r (subst (InForce m) (one_owner (n.owner p) o.0 r o.2 e) o.1))

  -- a change of a rule r that is none of m leaves the rules of m
  follows_change : {r : ℕ} {n' : Meaning} → Elsewhere r n n' → (InForce m r → ⊥) → ((s : State) → Within m s → Clear r n n' s)
      → ((p : ℕ) → is (n.owner p) r ≡ false → is (n'.owner p) r ≡ false → has n'.start p ≡ has n.start p) → Follows m n'
  follows_change {r} {n'} els no-r clear starts = record {
    kinds = λ q h. ap is_some (els.kinds q (other q h)) ∙ f.kinds q h;
    places = λ q p h. (
      λ e. (f.places q p h).0 ((els.places q p (other q h)).0 e),
      λ e. (els.places q p (other q h)).1 ((f.places q p h).1 e),
    );
    nexts = λ s c w. let b = clear s w in els.nexts s c b.before b.after ∙ f.nexts s c w;
    starts = λ p h.
        let o = owner_in p h in
        let no = other o.0 o.1 in
        starts p (is_other (n.owner p) o.0 r o.2 no) (is_other (n'.owner p) o.0 r ((els.places o.0 p no).1 o.2) no) ∙ f.starts p h;
  }
    where
      other : (q : ℕ) → InForce m q → q ≡ r → ⊥
      other q h e = no-r (subst (InForce m) e h)

  follows_added : {r k : ℕ} {n' : Meaning} → Lawful n → Added r k n n' → Follows m n'
  follows_added {r} {k} {n'} ln a =
      follows_change a.elsewhere (λ h. both_ways (is_some (n.kind r)) (ap is_some a.before) (f.kinds r h))
      (λ s w. clear_added s ln a (within_follows s w)) (λ p b c. same_tests (a.gains p c) (a.keeps p))

  follows_deleted : {r : ℕ} {n' : Meaning} → Lawful n' → Deleted r n n' → (InForce m r → ⊥) → Follows m n'
  follows_deleted {r} {n'} ln d no-r =
      follows_change d.elsewhere no-r (λ s w. clear_deleted s ln d (within_follows s w) (free_of r s no-r w)) (λ p b c. d.stays p b)

  -- a call that deletes no rule of m leaves them all
  pub follows_turn : {n' : Meaning} {d : Option ℕ} → Lawful n → Lawful n' → Turn n n' d → ((r : ℕ) → InForce m r → d ≡ Some r → ⊥) → Follows m n'
  follows_turn ln ln' (still e o) stay = subst (Follows m) (sym e) f
  follows_turn ln ln' (grown r k a o) stay = follows_added ln a
  follows_turn ln ln' (shrunk r d o) stay = follows_deleted ln' d (λ h. stay r h o)

  -- with no other rule in force, the start is the same
  pub same_start : Lawful n → ((r : ℕ) → InForce n r → InForce m r) → n.start ≡ m.start
  same_start ln others = same_members n.start m.start (λ p b.
      same_tests
      (λ h.
      let o = some_of (n.owner p) (ln.starts p h) in
      let k = others o.0 (ln.owners p o.0 o.1).1 in
      sym (f.starts p (ap is_some ((f.places o.0 p k).0 o.1))) ∙ h)
      (λ h. f.starts p (law.starts p h) ∙ h))

  -- a text leads through the same pairs
  pub same_met : (s : State) (cs : List ℕ) → Within m s → met n.next s cs ≡ met m.next s cs
  same_met s [] w = refl
  same_met s (c ∷ cs) w =
      ap (λ (ps : List Pair). cond (is_empty s) [] ((s, c) ∷ ps))
      (ap (λ (t : State). met n.next t cs) (f.nexts s c w) ∙ same_met (m.next s c) cs (law.steps s c))

-- ---- the same reading, whatever edition its walk carries

codes_any : (x : Reading) → codes (any_edition x) ≡ codes x
codes_any (whole text) = refl
codes_any (token text place) = refl
codes_any (peek text place) = refl
codes_any (feed e s c) = refl

from_any : (m : Meaning) (x : Reading) → from m (any_edition x) ≡ from m x
from_any m (whole text) = refl
from_any m (token text place) = refl
from_any m (peek text place) = refl
from_any m (feed e s c) = refl

from_start : (m n : Meaning) (x : Reading) → n.start ≡ m.start → from n x ≡ from m x
from_start m n (whole text) e = e
from_start m n (token text place) e = e
from_start m n (peek text place) e = e
from_start m n (feed edition s c) e = refl

pub same_codes : (x x' : Reading) → any_edition x ≡ any_edition x' → codes x' ≡ codes x
same_codes x x' e = sym (codes_any x') ∙ ap codes (sym e) ∙ codes_any x

pub same_from : (m n : Meaning) (x x' : Reading) → any_edition x ≡ any_edition x' → n.start ≡ m.start → from n x' ≡ from m x
same_from m n x x' e s = sym (from_any n x') ∙ ap (from n) (sym e) ∙ from_any n x ∙ from_start m n x s
