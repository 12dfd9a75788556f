-- What the functions that read a choice, a sequence, a piece and an atom promise each other: how far they read, what they
-- put into the buffer, and that the reading of the text goes on from there. Only the contracts of these functions cite it; what a
-- text means stands in Reading.
use Rattle.std.specs.Prelude.{◌≡◌, ℕ, ◌+◌, ◌<◌, ◌≤◌, Bool, true, false, ◌||◌, List, [], ◌∷◌, length, Some, None, Ok, Err, Option, Result, ◌==◌}
use Rattle.expressions.specs.Expression.{join}
use Rattle.patterns.specs.declared.faults.PatternFault.{PatternFault}
use Rattle.patterns.specs.declared.marks.Repeat.{Repeat}
use Rattle.patterns.specs.declared.sink.Sink.{Sink}
use Rattle.patterns.specs.declared.text.Text.{Text}
use Rattle.patterns.specs.Marks.{repeat_of}
use Rattle.patterns.specs.Buffers.{Adds}
use Rattle.patterns.specs.Reading.{E, Level, Open, fresh, closed, together, put, written, read}

-- the end of a sequence: the text's end, '|' or ')'
abbrev pub stops : List ℕ → Bool
stops [] = true
stops (b ∷ t) = b == 124 || b == 41

-- whether a byte is at the front of a text
abbrev pub begins : List ℕ → ℕ → Bool
begins [] b = false
begins (x ∷ t) b = x == b

-- u is what is behind the byte b at the front of t
pub record Behind (t : Text) (b : ℕ) (u : Text) : Type 0 where
  pub bytes : t.bytes.now ≡ b ∷ u.bytes.now
  pub place : u.place ≡ t.place + 1

-- how the sign at the front of a text repeats, if it does
abbrev pub sign_at : List ℕ → Option Repeat
sign_at [] = None
sign_at (b ∷ t) = repeat_of b

-- the reading of what is left of a text, from a level and the brackets open on
abbrev pub reads : Text → Level → List Open → Result E PatternFault
reads t l os = read (t.place + length t.bytes.now) l os 0 t.bytes.now

-- From a level on, with so many brackets open, the reading of t goes on with the other level and u.
abbrev pub Leads : ℕ → Text → Level → Level → Text → Type 0
Leads depth t l l' u = (os : List Open) → length os ≡ depth → reads t l os ≡ reads u l' os

abbrev pub Fails : ℕ → Text → Level → PatternFault → Type 0
Fails depth t l f = (os : List Open) → length os ≡ depth → reads t l os ≡ Err f

-- a sign at the front of t has no piece to repeat at this level
abbrev pub Ready : List ℕ → Level → Type 0
Ready t l = (r : Repeat) → sign_at t ≡ Some r → l.pieces ≡ []

-- An atom or a piece, from t as far as u, is put behind the pieces of any level.
pub record PieceRead (depth : ℕ) (t : Text) (s s' : Sink) (u : Text) : Type 0 where
  pub piece : E
  pub shorter : length u.bytes.now < length t.bytes.now
  pub puts : Adds s (written piece) s'
  pub leads : (l : Level) → Ready t.bytes.now l → Leads depth t l (put piece l) u

abbrev pub Pieced : ℕ → Text → Sink → Sink → Result Text PatternFault → Type 0
Pieced depth t s s' (Ok u) = PieceRead depth t s s' u
Pieced depth t s s' (Err f) = (l : Level) → Ready t.bytes.now l → Fails depth t l f

-- The pieces of a sequence, from t as far as u, the last one first. It begins behind any others.
pub record SequenceRead (depth : ℕ) (t : Text) (s s' : Sink) (u : Text) : Type 0 where
  pub pieces : List E
  pub within : length u.bytes.now ≤ length t.bytes.now
  pub puts : Adds s (written (together join pieces)) s'
  pub leads : (ss : List E) → Leads depth t (record { sequences = ss; pieces = [] }) (record { sequences = ss; pieces = pieces }) u

abbrev pub Sequenced : ℕ → Text → Sink → Sink → Result Text PatternFault → Type 0
Sequenced depth t s s' (Ok u) = SequenceRead depth t s s' u × (stops u.bytes.now ≡ true)
Sequenced depth t s s' (Err f) = (ss : List E) → Fails depth t (record { sequences = ss; pieces = [] }) f

-- Sequences, from t as far as u, at a level of their own.
pub record ChoiceRead (depth : ℕ) (t : Text) (s s' : Sink) (u : Text) : Type 0 where
  pub level : Level
  pub within : length u.bytes.now ≤ length t.bytes.now
  pub ends : stops u.bytes.now ≡ true
  pub puts : Adds s (written (closed level)) s'
  pub leads : Leads depth t fresh level u

-- A choice ends at the text's end or at ')'.
abbrev pub Chosen : ℕ → Text → Sink → Sink → Result Text PatternFault → Type 0
Chosen depth t s s' (Ok u) = ChoiceRead depth t s s' u × (begins u.bytes.now 124 ≡ false)
Chosen depth t s s' (Err f) = Fails depth t fresh f
