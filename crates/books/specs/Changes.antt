-- What adding and deleting a rule do to a book's meaning.
use Rattle.std.specs.Prelude.{◌≡◌, ℕ, Bool, true, false, cond, not, ◌↔◌, List, [], ◌∷◌, is_some, Some, None, Option, Result, MatchResult, ◌≢◌, nat_lt}
use Rattle.states.specs.Sets.{State, has}
use Rattle.books.specs.Meaning.{Meaning, Model, InForce, is, touches}
use Rattle.books.specs.declared.faults.BookFault.{BookFault}
use Rattle.books.specs.declared.faults.BookFault.TheVariants.{Number, Kind, Taken, Absent}

-- What a change of rule r leaves: the other rules' kinds and positions, and where states without a position of r lead
-- and what they end.
pub record Elsewhere (r : ℕ) (m n : Meaning) : Type 0 where
  pub kinds : (q : ℕ) → (q ≢ r) → n.kind q ≡ m.kind q
  pub places : (q p : ℕ) → (q ≢ r) → n.owner p ≡ Some q ↔ m.owner p ≡ Some q
  pub nexts : (s : State) (c : ℕ) → touches m r s ≡ false → touches n r s ≡ false → n.next s c ≡ m.next s c
  pub endings : (s : State) → touches m r s ≡ false → touches n r s ≡ false → n.ended s ≡ m.ended s

-- From m to n rule r, which was not in force, is added with kind k: its positions were not live, and the start loses
-- nothing and gains only positions of it.
pub record Added (r k : ℕ) (m n : Meaning) : Type 0 where
  pub elsewhere : Elsewhere r m n
  pub before : m.kind r ≡ None
  pub after : n.kind r ≡ Some k
  pub fresh : (p : ℕ) → n.owner p ≡ Some r → m.owner p ≡ None
  pub keeps : (p : ℕ) → has m.start p ≡ true → has n.start p ≡ true
  pub gains : (p : ℕ) → is (n.owner p) r ≡ false → has n.start p ≡ true → has m.start p ≡ true

-- From m to n rule r, which was in force, is deleted: its positions stop being live, and the start loses those alone.
pub record Deleted (r : ℕ) (m n : Meaning) : Type 0 where
  pub elsewhere : Elsewhere r m n
  pub before : InForce m r
  pub after : n.kind r ≡ None
  pub freed : (p : ℕ) → m.owner p ≡ Some r → n.owner p ≡ None
  pub loses : (p : ℕ) → is (m.owner p) r ≡ true → has n.start p ≡ false
  pub stays : (p : ℕ) → is (m.owner p) r ≡ false → has n.start p ≡ has m.start p

-- A change of what a book means leaves the note and the rule for a new one.
pub record Changed (R : Meaning → Meaning → Type 0) (a b : Model) : Type 0 where
  pub meaning : R a.meaning b.meaning
  pub note : b.note ≡ a.note
  pub noted : b.noted ≡ a.noted

-- The change R of a book's meaning, as `model` tells it, is accepted, or it is refused and a stays as it is.
abbrev pub ChangesUnless : {B E T : Type 0} → Result T E → (Meaning → Meaning → Type 0) → (B → Model) → B → B → Type 0
ChangesUnless refused R model a b = MatchResult refused (λ _. Changed R (model a) (model b)) (λ _. b ≡ a)

-- ---- why a change is refused

-- questions with the fault that a no gives: the fault of the first that is answered no
abbrev pub first_no : List (Bool × BookFault) → Option BookFault
first_no [] = None
first_no (q ∷ qs) = cond q.0 (first_no qs) (Some q.1)

-- What every book asks first about a new rule r of kind k, where `now` is the kind that rule r has: is the number below `rules`, is
-- the kind at most 4,095, is no rule of this number in force?
abbrev pub new_rule : ℕ → Option ℕ → ℕ → ℕ → List (Bool × BookFault)
new_rule rules now r k = (nat_lt r rules, Number) ∷ (nat_lt k 4096, Kind) ∷ (not (is_some now), Taken) ∷ []

-- the fault where a rule is not in force, from its kind
abbrev pub absence : Option ℕ → Option BookFault
absence now = cond (is_some now) None (Some Absent)

-- a deletion is refused exactly where the rule is not in force
abbrev pub delete_refusal : Meaning → ℕ → Option BookFault
delete_refusal m r = absence (m.kind r)
