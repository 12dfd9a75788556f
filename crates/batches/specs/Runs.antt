-- What running a batch does to a reader over an expression book, and what it answers.
use Rattle.std.specs.Prelude.{◌≡◌, ℕ, ◌<◌, List, [], ◌∷◌, ◌++◌, length, drop, None, Ok, Err, Result, slice_get}
use Rattle.states.specs.Sets.{Rules, has_rule}
use Rattle.states.specs.Words.{digits_of}
use Rattle.books.specs.declared.refusal.Refusal.{Refusal}
use Rattle.books.specs.Meaning.{Model}
use Rattle.readings.specs.Views.{View, fresh}
use Rattle.readings.specs.Readings.{ReadsAsMeant}
use Rattle.readings.specs.Readings.Reading.{whole}
use Rattle.readings.specs.Readings.Told.{ended}
use Rattle.readings.specs.Calls.Call.{read, add as adding, delete as deleting}
use Rattle.reader.specs.Answers.{change_told}
use Rattle.expressions.specs.Tokens.{DenotedBy}
use Rattle.expression_book.specs.Promises.{Denoting}
use Rattle.alike.specs.Runs.{ExpressionActs}
use Rattle.batches.specs.Records.{Ask, IsBatch, MalformedAt, batch, lines_in}
use Rattle.batches.specs.Records.Ask.{add, delete, line}
use Rattle.batches.specs.declared.done.Done.{Done}
use Rattle.batches.specs.declared.done.Refused.{Refused}
use Rattle.batches.specs.declared.done.BatchFault.{BatchFault}
use Rattle.batches.specs.declared.done.BatchFault.TheVariants.{Malformed, NoRoom}
use Rattle.batches.specs.declared.done.RunFault.{RunFault}
use Rattle.batches.specs.declared.done.RunFault.TheVariants.{Batch, NoMemory}

-- the mask of these rules: bit r is set where rule r is one of them
abbrev pub mask : Rules → ℕ
mask rules = digits_of (has_rule rules) 64

-- the refusal of a change whose record is at this place, if it was refused
abbrev pub refusals : ℕ → Result ℕ Refusal → List Refused
refusals place (Ok edition) = []
refusals place (Err e) = record { place = place; refusal = e } ∷ []

-- These records, run in turn on the reader v, leave the reader w, and give the masks of the lines and the refused changes. A line is
-- read as the book means then, and if every rule of v is an expression, it meets exactly the rules whose expressions denote it; a change
-- does what an expression book says of it.
pub data Ran (v : View) : List Ask → View → List ℕ → List Refused → Type 0 where
  begins : Ran v [] v [] []
  reads : {asks : List Ask} {w u : View} {ms : List ℕ} {fs : List Refused} (text : List ℕ) (rules : Rules) (n : ℕ) → Ran v asks w ms fs
      → ExpressionActs 255 (read (whole text)) (ended rules) n w u → ReadsAsMeant (whole text) (ended rules) n w u
      → (Denoting v.book.meaning → DenotedBy w.book.meaning text rules)
      → Ran v (asks ++ line text ∷ []) u (ms ++ mask rules ∷ []) fs
  adds : {asks : List Ask} {w u : View} {ms : List ℕ} {fs : List Refused} (rule kind : ℕ) (commands : List ℕ) (answer : Result ℕ Refusal)
      → Ran v asks w ms fs → ExpressionActs 255 (adding rule kind commands) (change_told answer) 0 w u
      → Ran v (asks ++ add rule kind commands ∷ []) u ms (fs ++ refusals (length (batch asks)) answer)
  deletes : {asks : List Ask} {w u : View} {ms : List ℕ} {fs : List Refused} (rule : ℕ) (answer : Result ℕ Refusal)
      → Ran v asks w ms fs → ExpressionActs 255 (deleting rule) (change_told answer) 0 w u
      → Ran v (asks ++ delete rule ∷ []) u ms (fs ++ refusals (length (batch asks)) answer)

-- The records were run, with the masks at the front of what was `buffer`. If every rule of v is an expression, so is every rule of w.
pub record Running (buffer : List ℕ) (v : View) (asks : List Ask) (w : View) (masks : List ℕ) (done : Done) : Type 0 where
  pub given : List ℕ
  pub refused : List Refused
  pub ran : Ran v asks w given refused
  pub denoting : Denoting v.book.meaning → Denoting w.book.meaning
  pub laid : masks ≡ given ++ drop (length given) buffer
  pub lines : done.lines ≡ length given
  pub count : done.refused ≡ length refused
  pub first : done.first ≡ slice_get refused 0

-- The bytes are a batch, and it was run.
abbrev pub RunsBatch : List ℕ → List ℕ → View → View → List ℕ → Done → Type 0
RunsBatch bytes buffer v w masks done = (asks : List Ask) × IsBatch asks bytes × Running buffer v asks w masks done

-- why the bytes were not run, where so many masks have room
abbrev pub NotRun : List ℕ → ℕ → BatchFault → Type 0
NotRun bytes room (Malformed m) = MalformedAt m.place bytes
NotRun bytes room (NoRoom lines) = (asks : List Ask) × IsBatch asks bytes × (lines ≡ lines_in asks) × (room < lines)

-- The bytes are a batch, and it was run on a new reader over a book with no rule, which is left to nobody.
pub record RunsNew (bytes buffer masks : List ℕ) (done : Done) : Type 0 where
  pub book : Model
  pub empty : (rule : ℕ) → book.meaning.kind rule ≡ None
  pub denoting : Denoting book.meaning
  pub left : View
  pub runs : RunsBatch bytes buffer (fresh book 0) left masks done

-- why they were not run on a new reader; for want of memory any bytes may not be run
abbrev pub NotRunNew : List ℕ → ℕ → RunFault → Type 0
NotRunNew bytes room (Batch f) = NotRun bytes room f
NotRunNew bytes room NoMemory = Unit {0}

-- What running the bytes on a new reader answers, and what the masks are then.
abbrev pub Runs : List ℕ → List ℕ → List ℕ → Result Done RunFault → Type 0
Runs bytes buffer masks (Ok done) = RunsNew bytes buffer masks done
Runs bytes buffer masks (Err f) = NotRunNew bytes (length buffer) f × (masks ≡ buffer)
