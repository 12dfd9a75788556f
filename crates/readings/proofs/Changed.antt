-- What an accepted change leaves of states with live positions only, and of the steps from them.
use Rattle.std.proofs.Common.{◌≡◌, ℕ, false, not, List, [], ◌∷◌, is_some, Some, None, sym, ap, ◌∙◌}
use Rattle.std.specs.List.{AllByRecursion}
use Rattle.std.proofs.ByRecursion.{All-weaker}
use Rattle.std.proofs.lemmas.Bool.{both_ways, not-true, cond_both}
use Rattle.states.specs.Sets.{State}
use Rattle.books.specs.Meaning.{Meaning, Lawful, Within, touches}
use Rattle.books.specs.Changes.{Elsewhere, Added, Deleted}
use Rattle.kept.specs.Steps.{Step}
use Rattle.readings.specs.Views.{Right}
use Rattle.readings.specs.Calls.{without}
use Rattle.readings.proofs.Positions.{some_of, touches_none, none_touched}

-- a rule that is not in force owns nothing
owns_none : (m : Meaning) → Lawful m → (r : ℕ) → m.kind r ≡ None → (p : ℕ) → m.owner p ≡ Some r → ⊥
owns_none m l r k p o = both_ways (is_some (m.kind r)) (ap is_some k) (l.owners p r o).1

-- From m to n rule r is changed, and s, of live positions only, holds none of it before or after.
pub record Clear (r : ℕ) (m n : Meaning) (s : State) : Type 0 where
  pub before : touches m r s ≡ false
  pub after : touches n r s ≡ false
  pub within : Within n s

clear : {r : ℕ} {m n : Meaning} {s : State} → Elsewhere r m n → Within m s → touches m r s ≡ false → touches n r s ≡ false → Clear r m n s
clear {r} {m} {n} {s} els w b a = record {
  before = b;
  after = a;
  within = λ p h. let o = some_of (m.owner p) (w p h) in
      ap is_some ((els.places o.0 p (λ e. none_touched m r s b p h (o.1 ∙ ap Some e))).1 o.1);
}

pub clear_added : {r k : ℕ} {m n : Meaning} (s : State) → Lawful m → Added r k m n → Within m s → Clear r m n s
clear_added {r} {k} {m} {n} s l a w =
    clear a.elsewhere w (touches_none m r s (λ p h. owns_none m l r a.before p))
    (touches_none n r s (λ p h o. both_ways (is_some (m.owner p)) (ap is_some (a.fresh p o)) (w p h)))

pub clear_deleted : {r : ℕ} {m n : Meaning} (s : State) → Lawful n → Deleted r m n → Within m s → touches m r s ≡ false → Clear r m n s
clear_deleted {r} {m} {n} s l d w b = clear d.elsewhere w b (touches_none n r s (λ p h. owns_none n l r d.after p))

right_clear : {r : ℕ} {m n : Meaning} (x : Step) → Elsewhere r m n → Clear r m n x.state → Right m x → Right n x
right_clear x els c g = record { live = c.within; next = g.next ∙ sym (els.nexts x.state x.code c.before c.after) }

-- the kept steps stay the book's when a rule is added
pub right_added : {r k : ℕ} {m n : Meaning} (ks : List Step) → Lawful m → Added r k m n → AllByRecursion (Right m) ks → AllByRecursion (Right n) ks
right_added {r} {k} {m} {n} ks l a = All-weaker (Right m) (Right n) (λ x g. right_clear x a.elsewhere (clear_added x.state l a g.live) g) ks

-- and those that are left when a rule is deleted
pub right_deleted : {r : ℕ} {m n : Meaning} (ks : List Step) → Lawful n → Deleted r m n → AllByRecursion (Right m) ks → AllByRecursion (Right n) (without m r ks)
right_deleted [] l d a = tt
right_deleted {r} {m} {n} (x ∷ ks) l d a =
    let more = right_deleted ks l d a.1 in
    cond_both (not (touches m r x.state)) _ _ (AllByRecursion (Right n))
    (λ e. (right_clear x d.elsewhere (clear_deleted x.state l d a.0.live (not-true _ e)) a.0, more)) (λ e. more)
