-- When two readers over expression books answer alike.
use Rattle.std.specs.Prelude.{◌≡◌, ℕ, Bool, true, ◌⊎◌, List, [], ◌∷◌}
use Rattle.states.specs.Sets.{State}
use Rattle.books.specs.Meaning.{Lawful}
use Rattle.readings.specs.Views.{View}
use Rattle.readings.specs.Readings.{Told}
use Rattle.readings.specs.Readings.Reading.{whole, token, peek, feed}
use Rattle.readings.specs.Readings.Told.{changed, ended, matched, walking, refused}
use Rattle.readings.specs.Calls.{Call}
use Rattle.readings.specs.Calls.Call.{read, add, delete, begin, finish}
use Rattle.readings.specs.Entries.{Entry}
use Rattle.expressions.specs.Rules.{Additive, SameRules}
use Rattle.alike.specs.declared.sight.Sight.{Sight}
use Rattle.alike.specs.declared.sight.Sight.TheVariants.{Changed, Ended, Matched, Walking, Refused}
use Rattle.alike.specs.Runs.{Runs}

-- ---- the same calls

-- what the calls so far told, in both histories, the last ones first
abbrev pub Past : Type 0
Past = List (Told × Told)

-- one of the calls so far told these
abbrev pub Has : Past → Told × Told → Type 0
Has [] t = ⊥
Has (u ∷ us) t = (u ≡ t) ⊎ Has us t

-- The same call in both histories: of the same text, place, rule, kind, bytes and code. Each history feeds and finishes its own
-- walks: where one has the walk that an earlier call told it, the other has the walk that the same call told it.
pub data SameCall (past : Past) : Call → Call → Type 0 where
  wholes : (text : List ℕ) → SameCall past (read (whole text)) (read (whole text))
  tokens : (text : List ℕ) (place : ℕ) → SameCall past (read (token text place)) (read (token text place))
  peeks : (text : List ℕ) (place : ℕ) → SameCall past (read (peek text place)) (read (peek text place))
  begins : SameCall past begin begin
  feeds : (e e' : ℕ) (s s' : State) (c : ℕ) → Has past (walking e s, walking e' s') → SameCall past (read (feed e s c)) (read (feed e' s' c))
  finishes : (e e' : ℕ) (s s' : State) → Has past (walking e s, walking e' s') → SameCall past (finish e s) (finish e' s')
  adds : (r k : ℕ) (bytes : List ℕ) → SameCall past (add r k bytes) (add r k bytes)
  deletes : (r : ℕ) → SameCall past (delete r) (delete r)

-- the same calls, one after the other
abbrev pub SameCalls : Past → List Entry → List Entry → Type 0
SameCalls past [] [] = Unit {0}
SameCalls past [] (f ∷ fs) = ⊥
SameCalls past (e ∷ es) [] = ⊥
SameCalls past (e ∷ es) (f ∷ fs) = SameCall past e.call f.call × SameCalls ((e.told, f.told) ∷ past) es fs

-- ---- the same answers

-- what a caller sees of what a call tells: all but the positions of a walk
abbrev pub sight : Told → Sight
sight (changed e) = Changed e
sight (ended rules) = Ended rules
sight (matched place n rules) = Matched place n rules
sight (walking e s) = Walking e
sight (refused number layer place) = Refused number layer place

-- what callers see, call by call
abbrev pub sights : List Entry → List Sight
sights [] = []
sights (e ∷ es) = sight e.told ∷ sights es

-- call by call, rules have the same kinds, and callers see the same: rules, places, lengths, editions and refusals
abbrev pub Agree : List Entry → List Entry → Type 0
Agree [] [] = Unit {0}
Agree [] (f ∷ fs) = ⊥
Agree (e ∷ es) [] = ⊥
Agree (e ∷ es) (f ∷ fs) = (sight e.told ≡ sight f.told) × ((r : ℕ) → e.book.kind r ≡ f.book.kind r) × Agree es fs

-- ---- the promise

-- Two new readers of the same first edition, over expression books with the same rules, whatever their positions.
pub record MadeAlike (v w : View) : Type 0 where
  pub editions : w.edition ≡ v.edition
  pub new : (v.kept ≡ []) × (w.kept ≡ [])
  pub lawful : Lawful v.book.meaning × Lawful w.book.meaning
  pub additive : Additive v.book.meaning × Additive w.book.meaning
  pub same : SameRules v.book.meaning w.book.meaning

-- Readers made alike and given the same calls answer alike: where callers see these, they agree, and r is true.
abbrev pub Alike : List Sight → List Sight → Bool → Type 0
Alike first second r =
    (last : ℕ) (v w : View) (es fs : List Entry) → MadeAlike v w → Runs last v es → Runs last w fs → SameCalls [] es fs →
    Agree es fs × (sights es ≡ first → sights fs ≡ second → r ≡ true)
