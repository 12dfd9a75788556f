-- Texts of events: words of a machine, a point and a kind, with a space between them.
use Rattle.std.specs.Prelude.{◌≡◌, ℕ, ◌+◌, ◌*◌, ◌≤◌, List, [], ◌∷◌, ◌++◌, map, Ok, Err, vec_items, Result, Vec, ◌==◌}
use Rattle.std.specs.List.{AllByRecursion, slice_split}
use Rattle.std.specs.declared.alloc.Global.{Global}
use Rattle.symbols.specs.declared.event.Event.{Event}
use Rattle.lines.specs.Numerals.{Number}
use Rattle.event_words.specs.declared.words.Name.{Name}
use Rattle.event_words.specs.declared.words.NoEvents.{NoEvents}
use Rattle.event_words.specs.declared.words.NoEvents.TheVariants.{Malformed, OutOfRange, NoMemory}

-- a machine and a kind as they stand in a word
pub record Named : Type 0 where
  pub machine : ℕ
  pub kind : ℕ

-- the word names them: decimal numbers with a point between
abbrev pub Names : List ℕ → Named → Type 0
Names word n = (d : List ℕ) × (e : List ℕ) × (word ≡ d ++ (46 ∷ e)) × Number d n.machine × Number e n.kind

-- each word names one
abbrev pub NamesEach : List (List ℕ) → List Named → Type 0
NamesEach [] [] = Unit {0}
NamesEach [] (n ∷ ns) = ⊥
NamesEach (w ∷ ws) [] = ⊥
NamesEach (w ∷ ws) (n ∷ ns) = Names w n × NamesEach ws ns

-- the words of a text, with a space between them; the empty text has none
abbrev pub words : List ℕ → List (List ℕ)
words [] = []
words (b ∷ bs) = slice_split (λ c. c == 32) (b ∷ bs)

-- there is such an event
abbrev pub InRange : Named → Type 0
InRange n = (n.machine ≤ 15) × (n.kind ≤ 4095)

abbrev pub named_code : Named → ℕ
named_code n = 4096 * n.machine + n.kind

abbrev pub event_code : Event → ℕ
event_code e = 4096 * e.machine + e.kind

-- what reading the words of a text answers: the events that they name, if each is there
abbrev pub Spells : List ℕ → Result (Vec Event Global) NoEvents → Type 0
Spells text (Ok v) = (ns : List Named) × NamesEach (words text) ns × AllByRecursion InRange ns × (map event_code (vec_items v) ≡ map named_code ns)
Spells text (Err Malformed) = (ns : List Named) → NamesEach (words text) ns → ⊥
Spells text (Err OutOfRange) = (ns : List Named) × NamesEach (words text) ns × (AllByRecursion InRange ns → ⊥)
Spells text (Err NoMemory) = Unit {0}

-- what a name that was read says
abbrev pub named : Name → Named
named n = record { machine = n.machine; kind = n.kind }
