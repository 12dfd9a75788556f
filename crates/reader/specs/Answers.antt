-- What the answers of a reader's calls tell, and how many steps they say were worked out.
use Rattle.std.specs.Prelude.{ℕ, cond, Some, Ok, Err, Option, Result, ◌==◌}
use Rattle.std.specs.Option.{option_map}
use Rattle.states.specs.Sets.{Rules}
use Rattle.books.specs.Refusals.{told}
use Rattle.books.specs.declared.faults.BookFault.{BookFault}
use Rattle.books.specs.declared.refusal.Refusal.{Refusal}
use Rattle.books.specs.declared.refusal.Refusal.TheVariants.{LastEdition, Book}
use Rattle.readings.specs.Readings.{Told, refusing}
use Rattle.readings.specs.Readings.Told.{changed, ended, matched, walking}
use Rattle.readings.specs.Calls.{final}
use Rattle.reader.specs.declared.answer.Token.{Token}
use Rattle.reader.specs.declared.walk.Walk.{Walk}
use Rattle.reader.specs.declared.walk.Fed.{Fed}
use Rattle.reader.specs.declared.walk.HandedBack.{HandedBack}

abbrev pub token_told : Result Token Refusal → Told
token_told (Ok t) = matched t.place t.length t.rules
token_told (Err e) = refusing e

abbrev pub token_count : Result Token Refusal → ℕ
token_count (Ok t) = t.count
token_count (Err e) = (told e).count

abbrev pub walk_told : Walk → Told
walk_told w = walking w.edition w.state

abbrev pub fed_told : Result Fed HandedBack → Told
fed_told (Ok f) = walk_told f.walk
fed_told (Err h) = refusing h.refusal

abbrev pub fed_count : Result Fed HandedBack → ℕ
fed_count (Ok f) = cond f.worked 1 0
fed_count (Err h) = (told h.refusal).count

abbrev pub finish_told : Result Rules HandedBack → Told
finish_told (Ok rules) = ended rules
finish_told (Err h) = refusing h.refusal

-- a change answers the new edition
abbrev pub change_told : Result ℕ Refusal → Told
change_told (Ok e) = changed e
change_told (Err e) = refusing e

-- a change is refused at the last edition, else as its book refuses it
abbrev pub change_refusal : ℕ → Option BookFault → Option Refusal
change_refusal edition fault = cond (edition == final) (Some LastEdition) (option_map Book fault)
