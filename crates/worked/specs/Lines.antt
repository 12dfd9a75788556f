-- Calls on a new reader over an expression book over bytes, with what each is to answer.
use Rattle.std.specs.Prelude.{◌≡◌, ℕ, ◌+◌, ◌≤◌, List, [], map, None, Ok, Err, Result, ◌==◌}
use Rattle.std.specs.List.{list_any}
use Rattle.states.specs.Sets.{Rules, rules_of}
use Rattle.books.specs.Meaning.{Meaning, Model, Lawful}
use Rattle.readings.specs.Views.{fresh}
use Rattle.readings.specs.Readings.{Told}
use Rattle.readings.specs.Readings.Reading.{whole, token}
use Rattle.readings.specs.Readings.Told.{changed, ended, matched, refused}
use Rattle.readings.specs.Calls.{Call, final}
use Rattle.readings.specs.Calls.Call.{read, add, delete}
use Rattle.readings.specs.Entries.{Entry}
use Rattle.alike.specs.Runs.{Runs}
use Rattle.patterns.specs.declared.faults.PatternFault.{PatternFault}
use Rattle.patterns.specs.Reading.{E, written}
use Rattle.patterns.specs.Outcome.{outcome}

-- A call, what it tells, and how many steps it works out.
pub record Line : Type 0 where
  pub call : Call
  pub told : Told
  pub count : ℕ

-- these rules
abbrev pub these : List ℕ → Rules
these rs = rules_of (λ r. list_any (λ q. q == r) rs)

-- the commands of a pattern text; a refused one has none
abbrev pub commands_of : Result E PatternFault → List ℕ
commands_of (Ok e) = written e
commands_of (Err f) = []

abbrev pub commands : List ℕ → List ℕ
commands text = commands_of (outcome text)

-- Rule r of kind k is added by its pattern text, and the edition is e then.
abbrev pub adds : ℕ → ℕ → List ℕ → ℕ → Line
adds r k text e = record { call = add r k (commands text); told = changed e; count = 0 }

-- Rule r is deleted, and the edition is e then.
abbrev pub deletes : ℕ → ℕ → Line
deletes r e = record { call = delete r; told = changed e; count = 0 }

-- The whole text meets these rules.
abbrev pub reads : List ℕ → List ℕ → ℕ → Line
reads text rs n = record { call = read (whole text); told = ended (these rs); count = n }

-- The token at this place of the text has this length and meets these rules.
abbrev pub finds : List ℕ → ℕ → ℕ → List ℕ → ℕ → Line
finds text place length rs n = record { call = read (token text place); told = matched place length (these rs); count = n }

-- No token is at this place of the text.
abbrev pub finds_none : List ℕ → ℕ → ℕ → Line
finds_none text place n = record { call = read (token text place); told = refused 14 1 place; count = n }

-- ---- what is answered

-- A book in which no rule is in force, as a new one is.
pub record NoRules (m : Meaning) : Type 0 where
  pub lawful : Lawful m
  pub none : (r : ℕ) → m.kind r ≡ None

-- an entry without what the book meant at the call
abbrev pub line_of : Entry → Line
line_of e = record { call = e.call; told = e.told; count = e.count }

-- Whatever new reader over an expression book over bytes without rules makes these calls, one after the other, its answers and counts
-- are those of the lines. They are told from the reader's first edition, which leaves room for the changes.
abbrev pub Answers : (ℕ → List Line) → Type 0
Answers lines =
    (b : Model) (edition : ℕ) (es : List Entry) → NoRules b.meaning → edition + 5 ≤ final → Runs 255 (fresh b edition) es
    → map (λ (e : Entry). e.call) es ≡ map (λ (l : Line). l.call) (lines edition) → map line_of es ≡ lines edition
