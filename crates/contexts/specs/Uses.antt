-- What commands do to the reader in use, and the text of their answers.
use Rattle.std.specs.Prelude.{◌≡◌, ℕ, ◌+◌, ◌-◌, min, Bool, true, false, cond, List, [], ◌∷◌, ◌++◌, length, take, drop, is_some, Some, None, Ok, Err, codes, Option, Result}
use Rattle.std.specs.Result.{result_err}
use Rattle.states.specs.Sets.{Rules}
use Rattle.books.specs.Meaning.{Model}
use Rattle.books.specs.Refusals.{told}
use Rattle.books.specs.declared.refusal.Refusal.{Refusal}
use Rattle.readings.specs.Views.{View, fresh}
use Rattle.readings.specs.Readings.{Told}
use Rattle.readings.specs.Readings.Reading.{whole, token, peek, feed}
use Rattle.readings.specs.Readings.Told.{ended}
use Rattle.readings.specs.Calls.{Call, Does}
use Rattle.readings.specs.Calls.Call.{read, begin, finish}
use Rattle.reader.specs.Answers.{token_told, token_count, walk_told, fed_told, fed_count, finish_told, change_told}
use Rattle.reader.specs.declared.answer.Token.{Token}
use Rattle.reader.specs.declared.walk.Walk.{Walk}
use Rattle.reader.specs.declared.walk.Fed.{Fed}
use Rattle.reader.specs.declared.walk.HandedBack.{HandedBack}
use Rattle.answers.specs.Texts.{numbered, change_line, kind_line, read_line, cursor_line, token_line, feed_line, finish_line, refused_line}
use Rattle.lines.specs.declared.command.Expected.{Expected}
use Rattle.lines.specs.declared.command.Expected.TheVariants as expected
use Rattle.lines.specs.declared.command.Order.{Order}
use Rattle.lines.specs.declared.command.Order.TheVariants as order
use Rattle.lines.specs.declared.command.Task.{Task}
use Rattle.lines.specs.declared.command.Task.TheVariants as task

-- The cursor in use: a text, a place in it, and where its last token begins and ends.
pub record Marker : Type 0 where
  pub text : List ℕ
  pub place : ℕ
  pub from : ℕ
  pub to : ℕ

-- The reader in use, with the cursor and the walk that commands work on, if there are any.
pub record Use : Type 0 where
  pub reader : View
  pub cursor : Option Marker
  pub walk : Option Walk

-- a new reader, with no cursor and no walk
abbrev pub new_use : Model → ℕ → Use
new_use model edition = record { reader = fresh model edition; cursor = None; walk = None }

-- only the reader changes
abbrev pub with_reader : Use → View → Use
with_reader u v = record { reader = v; cursor = u.cursor; walk = u.walk }

-- ── Texts ──

-- a whole text is read
pub record Reads (text : List ℕ) (u w : Use) (answer : List ℕ) : Type 0 where
  pub rules : Rules
  pub count : ℕ
  pub reader : View
  pub does : Does (read (whole text)) (ended rules) count u.reader reader
  pub after : w ≡ with_reader u reader
  pub tells : answer ≡ read_line reader.book.meaning.kind rules count

-- a cursor is put at a place of a text; one beyond its length becomes the length
abbrev pub placed : ℕ → List ℕ → Marker
placed place text = record { text = text; place = min place (length text); from = min place (length text); to = min place (length text) }

abbrev pub Places : ℕ → List ℕ → Use → Use → List ℕ → Type 0
Places place text u w answer =
    (w ≡ record { reader = u.reader; cursor = Some (placed place text); walk = u.walk }) × (answer ≡ cursor_line (placed place text).place (length text))

-- ── Tokens ──

-- the last token is shown: the part of the cursor's text from where it begins to where it ends
abbrev pub part_of : Marker → List ℕ
part_of m = take (m.to - m.from) (drop m.from m.text)

-- `shown` is the text of a place, a length and the part
pub record Shows (shown : ℕ → ℕ → List ℕ → List ℕ) (u w : Use) (answer : List ℕ) : Type 0 where
  pub cursor : Marker
  pub here : u.cursor ≡ Some cursor
  pub after : w ≡ u
  pub tells : answer ≡ shown cursor.from (length (part_of cursor)) (part_of cursor)

abbrev pub token_text : List ℕ → (ℕ → Option ℕ) → Result Token Refusal → List ℕ
token_text word kind (Ok t) = token_line word kind t.place t.length t.rules t.count
token_text word kind (Err e) = refused_line (told e)

-- the cursor stands behind the token, which is its last; a refusal leaves it
abbrev pub moved : Marker → Result Token Refusal → Marker
moved m (Ok t) = record { text = m.text; place = m.place + t.length; from = m.place; to = m.place + t.length }
moved m (Err e) = m

-- the next token is read
pub record ReadsToken (u w : Use) (answer : List ℕ) : Type 0 where
  pub cursor : Marker
  pub here : u.cursor ≡ Some cursor
  pub result : Result Token Refusal
  pub reader : View
  pub does : Does (read (token cursor.text cursor.place)) (token_told result) (token_count result) u.reader reader
  pub after : w ≡ record { reader = reader; cursor = Some (moved cursor result); walk = u.walk }
  pub tells : answer ≡ token_text (codes "token") reader.book.meaning.kind result

-- the next token is peeked
pub record PeeksToken (u w : Use) (answer : List ℕ) : Type 0 where
  pub cursor : Marker
  pub here : u.cursor ≡ Some cursor
  pub result : Result Token Refusal
  pub reader : View
  pub does : Does (read (peek cursor.text cursor.place)) (token_told result) (token_count result) u.reader reader
  pub after : w ≡ with_reader u reader
  pub tells : answer ≡ token_text (codes "peek") reader.book.meaning.kind result

-- ── Walks ──

-- a walk is begun
pub record Begins (u w : Use) (answer : List ℕ) : Type 0 where
  pub walk : Walk
  pub does : Does begin (walk_told walk) 0 u.reader u.reader
  pub after : w ≡ record { reader = u.reader; cursor = u.cursor; walk = Some walk }
  pub tells : answer ≡ numbered (codes "walk edition=") walk.edition

-- the walk goes on by one symbol
pub record FeedsOne (c : ℕ) (fed : Fed) (u w : Use) (answer : List ℕ) : Type 0 where
  pub walk : Walk
  pub here : u.walk ≡ Some walk
  pub reader : View
  pub does : Does (read (feed walk.edition walk.state c)) (walk_told fed.walk) (fed_count (Ok fed)) u.reader reader
  pub after : w ≡ record { reader = reader; cursor = u.cursor; walk = Some fed.walk }
  pub tells : answer ≡ feed_line fed.worked

-- the walk is refused, and nothing changes
pub record RefusesOne (c : ℕ) (u : Use) (answer : List ℕ) : Type 0 where
  pub walk : Walk
  pub here : u.walk ≡ Some walk
  pub back : HandedBack
  pub does : Does (read (feed walk.edition walk.state c)) (fed_told (Err back)) (fed_count (Err back)) u.reader u.reader
  pub tells : answer ≡ refused_line (told back.refusal)

-- one symbol is fed, and the walk goes on or not
abbrev pub FeedsNext : ℕ → Bool → Use → Use → List ℕ → Type 0
FeedsNext c true u w answer = (fed : Fed) × FeedsOne c fed u w answer
FeedsNext c false u w answer = (w ≡ u) × RefusesOne c u answer

-- the walk goes on by symbols in turn
pub data FeedsEach (u : Use) : List ℕ → Use → List ℕ → Type 0 where
  none : FeedsEach u [] u []
  more : {cs : List ℕ} {m w : Use} {before answer : List ℕ} (c : ℕ) (fed : Fed) →
      FeedsEach u cs m before → FeedsOne c fed m w answer → FeedsEach u (cs ++ (c ∷ [])) w (before ++ answer)

-- the walk is fed with a text, until its end or the first refusal
pub data FeedsUntil (text : List ℕ) (u w : Use) : List ℕ → Type 0 where
  all : {answer : List ℕ} → FeedsEach u text w answer → FeedsUntil text u w answer
  until : {before answer : List ℕ} (cs rest : List ℕ) (c : ℕ) → text ≡ cs ++ (c ∷ rest) →
      FeedsEach u cs w before → RefusesOne c w answer → FeedsUntil text u w (before ++ answer)

abbrev pub Feeds : List ℕ → Use → Use → List ℕ → Type 0
Feeds text u w answer = (is_some u.walk ≡ true) × FeedsUntil text u w answer

abbrev pub finish_text : (ℕ → Option ℕ) → Result Rules HandedBack → List ℕ
finish_text kind (Ok rules) = finish_line kind rules
finish_text kind (Err back) = refused_line (told back.refusal)

-- a finished walk is gone; one that is refused is handed back
abbrev pub left_walk : Walk → Result Rules HandedBack → Option Walk
left_walk walk (Ok rules) = None
left_walk walk (Err back) = Some walk

-- the walk is finished
pub record Finishes (u w : Use) (answer : List ℕ) : Type 0 where
  pub walk : Walk
  pub here : u.walk ≡ Some walk
  pub result : Result Rules HandedBack
  pub does : Does (finish walk.edition walk.state) (finish_told result) 0 u.reader u.reader
  pub after : w ≡ record { reader = u.reader; cursor = u.cursor; walk = left_walk walk result }
  pub tells : answer ≡ finish_text u.reader.book.meaning.kind result

-- ── Changes ──

abbrev pub change_text : List ℕ → ℕ → Result ℕ Refusal → List ℕ
change_text word rule (Ok edition) = change_line word rule edition
change_text word rule (Err e) = refused_line (told e)

-- a rule is added or deleted by a call, which is refused as `refusal` says, if it is, and does what `action` says of the book in use
pub record Changes (word : List ℕ) (rule : ℕ) (action : Call → Told → ℕ → View → View → Type 0) (call : Call) (refusal : Option Refusal) (u w : Use) (answer : List ℕ) : Type 0 where
  pub result : Result ℕ Refusal
  pub reader : View
  pub refuses : result_err result ≡ refusal
  pub does : Does call (change_told result) 0 u.reader reader
  pub acts : action call (change_told result) 0 u.reader reader
  pub after : w ≡ with_reader u reader
  pub tells : answer ≡ change_text word rule result

-- ── Orders ──

-- a question leaves everything as it was
abbrev pub Tells : List ℕ → Use → Use → List ℕ → Type 0
Tells text u w answer = (w ≡ u) × (answer ≡ text)

abbrev pub Obeys : Order → Use → Use → List ℕ → Type 0
Obeys order.Token u w answer = ReadsToken u w answer
Obeys order.Peek u w answer = PeeksToken u w answer
Obeys order.Walk u w answer = Begins u w answer
Obeys order.Finish u w answer = Finishes u w answer
Obeys (order.Kind rule) u w answer = Tells (kind_line rule (u.reader.book.meaning.kind rule)) u w answer
Obeys order.Tally u w answer = Tells (numbered (codes "tally=") u.reader.tally) u w answer
Obeys order.Edition u w answer = Tells (numbered (codes "edition=") u.reader.edition) u w answer
Obeys order.Note u w answer = Tells (numbered (codes "note=") u.reader.book.note) u w answer

-- x is wanted and not there
abbrev pub Wants : (Use → Option Expected) → Use → Expected → Type 0
Wants wanted u x = wanted u ≡ Some x

-- what an order wants that is not there, if anything: a cursor, or a walk
abbrev pub wanting_cursor : Use → Option Expected
wanting_cursor u = cond (is_some u.cursor) None (Some expected.Cursor)

abbrev pub wanting_walk : Use → Option Expected
wanting_walk u = cond (is_some u.walk) None (Some expected.Walk)

abbrev pub wanting : Order → Use → Option Expected
wanting order.Token u = wanting_cursor u
wanting order.Peek u = wanting_cursor u
wanting order.Walk u = None
wanting order.Finish u = wanting_walk u
wanting (order.Kind rule) u = None
wanting order.Tally u = None
wanting order.Edition u = None
wanting order.Note u = None

-- ── Tasks ──

abbrev pub Takes : Task → List ℕ → Use → Use → List ℕ → Type 0
Takes task.Read text u w answer = Reads text u w answer
Takes (task.Cursor place) text u w answer = Places place text u w answer
Takes task.Feed text u w answer = Feeds text u w answer

-- what a task wants that is not there, if anything
abbrev pub wanting_for : Task → Use → Option Expected
wanting_for task.Read u = None
wanting_for (task.Cursor place) u = None
wanting_for task.Feed u = wanting_walk u
