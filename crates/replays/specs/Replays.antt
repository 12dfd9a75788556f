-- A list of calls run on a new reader, and its log.
use Rattle.std.specs.Prelude.{◌≡◌, ℕ, min, List, map, length, vec_items}
use Rattle.readings.specs.Views.{View}
use Rattle.readings.specs.Readings.{Told}
use Rattle.readings.specs.Readings.Reading.{whole, token, peek, feed}
use Rattle.readings.specs.Readings.Told.{ended}
use Rattle.readings.specs.Calls.{Call}
use Rattle.readings.specs.Calls.Call.{read, add, delete, begin, finish}
use Rattle.readings.specs.Entries.{Entry}
use Rattle.readings.specs.Changing.{Chain}
use Rattle.readings.specs.Histories.{History, Stands}
use Rattle.reader.specs.Answers.{token_told, token_count, walk_told, fed_told, fed_count, finish_told, change_told}
use Rattle.replays.specs.declared.log.Ask.{Ask}
use Rattle.replays.specs.declared.log.Ask.TheVariants as ask
use Rattle.replays.specs.declared.log.Reply.{Reply}
use Rattle.replays.specs.declared.log.Reply.TheVariants as reply

-- the call that is asked for; a place beyond a text is its length
abbrev pub call_of : {S : Type 0} → (S → ℕ) → Ask S → Call
call_of code (ask.Read text) = read (whole (map code (vec_items text)))
call_of code (ask.Token text place) = read (token (map code (vec_items text)) (min place (length (vec_items text))))
call_of code (ask.Peek text place) = read (peek (map code (vec_items text)) (min place (length (vec_items text))))
call_of code ask.Begin = begin
call_of code (ask.Feed walk x) = read (feed walk.edition walk.state (code x))
call_of code (ask.Finish walk) = finish walk.edition walk.state
call_of code (ask.Add rule kind bytes) = add rule kind (vec_items bytes)
call_of code (ask.Delete rule) = delete rule

-- what a reply tells, and the steps that it says were worked out: none where it has no count
abbrev pub told_of : Reply → Told
told_of (reply.Read a) = ended a.rules
told_of (reply.Token r) = token_told r
told_of (reply.Begun w) = walk_told w
told_of (reply.Fed r) = fed_told r
told_of (reply.Finished r) = finish_told r
told_of (reply.Changed r) = change_told r

abbrev pub count_of : Reply → ℕ
count_of (reply.Read a) = a.count
count_of (reply.Token r) = token_count r
count_of (reply.Begun w) = 0
count_of (reply.Fed r) = fed_count r
count_of (reply.Finished r) = 0
count_of (reply.Changed r) = 0

-- The log is a history of the reader v, of exactly these calls, and its readings stand.
pub record Replayed {S : Type 0} (code : S → ℕ) (v : View) (asks : List (Ask S)) (log : List Reply) : Type 0 where
  pub entries : List Entry
  pub calls : map (λ (e : Entry). e.call) entries ≡ map (call_of code) asks
  pub tells : map (λ (e : Entry). e.told) entries ≡ map told_of log
  pub counts : map (λ (e : Entry). e.count) entries ≡ map count_of log
  pub history : History v entries
  pub stands : Stands entries

-- The log is a chain of exactly these calls of the reader v, each of which does what `does` says, and its readings stand.
pub record ReplayedBy {S : Type 0} (code : S → ℕ) (does : Call → Told → ℕ → View → View → Type 0) (v : View) (asks : List (Ask S)) (log : List Reply) : Type 0 where
  pub entries : List Entry
  pub calls : map (λ (e : Entry). e.call) entries ≡ map (call_of code) asks
  pub tells : map (λ (e : Entry). e.told) entries ≡ map told_of log
  pub counts : map (λ (e : Entry). e.count) entries ≡ map count_of log
  pub chain : Chain does v entries
  pub stands : Stands entries
