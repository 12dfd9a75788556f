-- What each refusal of a pattern text tells: its number, layer 4 and the place.
use Rattle.books.specs.declared.refusal.Told.{Told}
use Rattle.books.specs.Refusals.{at}
use Rattle.patterns.specs.declared.faults.PatternFault.{PatternFault}
use Rattle.patterns.specs.declared.faults.PatternFault.TheVariants.{TooLong, LoneEscape, OpenClass, FallingRange, EmptyClass, NoAtom, Unbalanced, TooDeep, Reserved, NoRoom}

abbrev pub told : PatternFault → Told
told TooLong = at 17 4 0
told (LoneEscape p) = at 18 4 p
told (OpenClass p) = at 19 4 p
told (FallingRange p) = at 20 4 p
told (EmptyClass p) = at 21 4 p
told (NoAtom p) = at 22 4 p
told (Unbalanced p) = at 23 4 p
told (TooDeep p) = at 24 4 p
told (Reserved p) = at 25 4 p
told NoRoom = at 26 4 0
