-- What a reader's contracts show of it. What its book means is the book's own to say. A clause names the view before a call and
-- the view after it: each has its own relation of the two, so that a word for both would have to be handed all three.
use Rattle.kept.specs.Tables.{steps}
use Rattle.readings.specs.Views.{View}
use Rattle.reader.specs.declared.reader.Reader.{Reader}

abbrev pub view : {B S : Type 0} {g : _} {h : _} → Reader B S g h → View
view {g = g} r = record { book = g.model r.book; kept = steps r.kept; edition = r.edition; tally = r.tally }
