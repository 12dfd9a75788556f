-- What each refusal tells: its number, its layer (1 reader, 2 book, 3 command), the place and the count of steps worked out.
use Rattle.std.specs.Prelude.{ℕ, List, ◌++◌, codes, decimal}
use Rattle.books.specs.declared.faults.Cause.{Cause}
use Rattle.books.specs.declared.faults.Cause.TheVariants.{Letter, Operands, Codes, TooFew, TooMany, NotOne}
use Rattle.books.specs.declared.faults.BookFault.{BookFault}
use Rattle.books.specs.declared.faults.BookFault.TheVariants.{Number, Kind, Taken, Length, Command, Full, Absent}
use Rattle.books.specs.declared.refusal.Refusal.{Refusal}
use Rattle.books.specs.declared.refusal.Refusal.TheVariants.{LastEdition, Book, NoToken, StaleWalk, NoSuchEvent}
use Rattle.books.specs.declared.refusal.Told.{Told}

abbrev pub cause_number : Cause → ℕ
cause_number Letter = 6
cause_number Operands = 7
cause_number Codes = 8
cause_number TooFew = 9
cause_number TooMany = 10
cause_number NotOne = 11

-- a refusal at a place, with no count
abbrev pub at : ℕ → ℕ → ℕ → Told
at number layer place = record { number = number; layer = layer; place = place; count = 0 }

-- a refusal with no place and no count
abbrev pub plain : ℕ → ℕ → Told
plain number layer = at number layer 0

abbrev pub book_told : BookFault → Told
book_told Number = plain 2 2
book_told Kind = plain 3 2
book_told Taken = plain 4 2
book_told Length = plain 5 2
book_told (Command f) = at (cause_number f.cause) 3 f.place
book_told Full = plain 12 2
book_told Absent = plain 13 2

abbrev pub told : Refusal → Told
told LastEdition = plain 1 1
told (Book f) = book_told f
told (NoToken place count) = record { number = 14; layer = 1; place = place; count = count }
told StaleWalk = plain 15 1
told NoSuchEvent = plain 16 1

-- a refusal as text, without its line's first word
abbrev pub told_text : Told → List ℕ
told_text t = codes "number=" ++ (decimal t.number ++ (codes " layer=" ++ (decimal t.layer ++ (codes " place=" ++ (decimal t.place ++ (codes " count=" ++ decimal t.count))))))
