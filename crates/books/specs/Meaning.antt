-- What a rule book means: rules in force, the positions that each owns, and the states that symbols lead through.
use Rattle.std.specs.Prelude.{◌≡◌, ℕ, ◌+◌, ◌<◌, min, Bool, true, false, ◌&&◌, is_some, Some, None, Option, ◌==◌}
use Rattle.states.specs.Sets.{State, Rules, has, has_rule}
use Rattle.states.specs.Words.{some}

pub record Meaning : Type 0 where
  -- a rule's kind; none where the rule is not in force
  pub kind : ℕ → Option ℕ
  -- the rule that owns a position; none where the position is not live
  pub owner : ℕ → Option ℕ
  pub start : State
  -- the next state, from a state and a code
  pub next : State → ℕ → State
  -- the rules that a state ends
  pub ended : State → Rules

abbrev pub InForce : Meaning → ℕ → Type 0
InForce m r = is_some (m.kind r) ≡ true

abbrev pub Live : Meaning → ℕ → Type 0
Live m p = is_some (m.owner p) ≡ true

-- s holds live positions only
abbrev pub Within : Meaning → State → Type 0
Within m s = (p : ℕ) → has s p ≡ true → Live m p

-- the owner is rule r
abbrev pub is : Option ℕ → ℕ → Bool
is None r = false
is (Some q) r = q == r

-- s holds a position of rule r
unfoldable pub touches : Meaning → ℕ → State → Bool
touches m r s = some (λ p. has s p && is (m.owner p) r) 256

-- The laws of every book.
pub record Lawful (m : Meaning) : Type 0 where
  pub rules : (r k : ℕ) → m.kind r ≡ Some k → (r < 64) × (k < 4096)
  pub owners : (p r : ℕ) → m.owner p ≡ Some r → (p < 256) × InForce m r
  -- the start and every next state hold live positions only
  pub starts : Within m m.start
  pub steps : (s : State) (c : ℕ) → Within m (m.next s c)
  -- from a state without a position of a rule comes none with one
  pub apart : (r : ℕ) (s : State) (c : ℕ) → touches m r s ≡ false → touches m r (m.next s c) ≡ false
  -- a state ends a rule only if it holds a position of that rule
  pub ends : (r : ℕ) (s : State) → touches m r s ≡ false → has_rule (m.ended s) r ≡ false

-- A book as a reader sees it: what it means, its note, and its own rule for a new note.
pub record Model : Type 0 where
  pub meaning : Meaning
  pub note : ℕ
  -- the note after being asked for a next state, from the note before, the state and the code
  pub noted : ℕ → State → ℕ → ℕ

-- the book after it was asked for the next state from s by c
abbrev pub asked : State → ℕ → Model → Model
asked s c b = record { meaning = b.meaning; note = b.noted b.note s c; noted = b.noted }

-- The rule for a new note of a book that counts how often it was asked, up to the last number of 32 bits.
abbrev pub counting : ℕ → State → ℕ → ℕ
counting n s c = min (n + 1) 4294967295
