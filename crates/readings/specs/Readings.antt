-- Readings: what they tell, and what they leave. A text is a list of codes.
use Rattle.std.specs.Prelude.{◌≡◌, ℕ, ◌<◌, ◌≤◌, true, false, List, [], ◌∷◌, length, take, drop}
use Rattle.states.specs.Sets.{State}
use Rattle.states.specs.Sets.{Rules}
use Rattle.states.specs.Sets.{no_rule}
use Rattle.books.specs.Meaning.{Meaning}
use Rattle.books.specs.Texts.{after}
use Rattle.books.specs.Refusals.{told}
use Rattle.books.specs.declared.refusal.Refusal.{Refusal}
use Rattle.readings.specs.Views.{View, Sound}
use Rattle.readings.specs.Runs.{goes, met, Works}

pub data Reading : Type 0 where
  -- of a whole text
  whole : List ℕ → Reading
  -- at a cursor: its text and place
  token peek : List ℕ → ℕ → Reading
  -- of one code by a walk, which has an edition and a state
  feed : ℕ → State → ℕ → Reading

-- What a call tells, but for its count.
pub data Told : Type 0 where
  -- the new edition, after an accepted change
  changed : ℕ → Told
  -- the rules ended
  ended : Rules → Told
  -- a token's place, length and rules
  matched : ℕ → ℕ → Rules → Told
  -- a walk's edition and state
  walking : ℕ → State → Told
  -- a refusal's number, layer and place
  refused : ℕ → ℕ → ℕ → Told

-- a refusal as it is told
abbrev pub refusing : Refusal → Told
refusing e = refused (told e).number (told e).layer (told e).place

-- the state that a reading starts from, and the codes before it
abbrev pub from : Meaning → Reading → State
from m (whole text) = m.start
from m (token text place) = m.start
from m (peek text place) = m.start
from m (feed edition s c) = s

abbrev pub codes : Reading → List ℕ
codes (whole text) = text
codes (token text place) = drop place text
codes (peek text place) = drop place text
codes (feed edition s c) = c ∷ []

module _ (m : Meaning) (next : State → ℕ → State) where
  -- the rules that the first n codes of a text end
  abbrev pub ended_by : List ℕ → ℕ → Rules
  ended_by text n = m.ended (after next m.start (take n text))

  -- n is the length of the longest beginning, not empty, that ends a rule
  pub record Longest (text : List ℕ) (n : ℕ) : Type 0 where
    pub some : 1 ≤ n
    pub within : n ≤ length text
    pub ends : no_rule (ended_by text n) ≡ false
    pub longer : (k : ℕ) → n < k → k ≤ length text → no_rule (ended_by text k) ≡ true

  -- no beginning but the empty one ends a rule
  abbrev pub NoneEnds : List ℕ → Type 0
  NoneEnds text = (k : ℕ) → 1 ≤ k → k ≤ length text → no_rule (ended_by text k) ≡ true

  -- what a search for a token in the rest of a text, from a place on, tells
  pub data Searches (rest : List ℕ) (place : ℕ) : Told → Type 0 where
    finds : (n : ℕ) → Longest rest n → Searches rest place (matched place n (ended_by rest n))
    fails : NoneEnds rest → Searches rest place (refused 14 1 place)

  -- What a reading tells that goes from state to state by `next`.
  abbrev pub Tells : Reading → Told → Type 0
  Tells (whole text) t = t ≡ ended (m.ended (after next m.start text))
  Tells (token text place) t = Searches (drop place text) place t
  Tells (peek text place) t = Searches (drop place text) place t
  Tells (feed edition s c) t = t ≡ walking edition (after next s (c ∷ []))

-- The reading x, which goes from state to state by `next`, tells t, works out n steps, and turns the reader v into w.
pub record ReadsBy (next : State → ℕ → State) (x : Reading) (t : Told) (n : ℕ) (v w : View) : Type 0 where
  pub tells : Tells v.book.meaning next x t
  pub works : Works (met next (from v.book.meaning x) (codes x)) n v w

-- as a reader goes, with the steps that it keeps
abbrev pub Reads : Reading → Told → ℕ → View → View → Type 0
Reads x t n v w = ReadsBy (goes v) x t n v w

-- as the book means, and every kept step is the book's after it
abbrev pub ReadsAsMeant : Reading → Told → ℕ → View → View → Type 0
ReadsAsMeant x t n v w = ReadsBy v.book.meaning.next x t n v w × Sound w

-- what the bare reading tells, which takes every step from the book's meaning
abbrev pub Bare : Meaning → Reading → Told → Type 0
Bare m x t = Tells m m.next x t
