-- The digits of a command that a line spells are pairs of hex digits.
use Rattle.std.proofs.Common.{ℕ, List, Option, sym, subst}
use Rattle.lines.specs.Lines.{Decodable, Makes, Spells}
use Rattle.lines.specs.declared.command.Command.{Command}
use Rattle.lines.specs.declared.word.Word.{Word}
use Rattle.lines.specs.declared.word.Word.TheVariants.{New, Add, Code, Delete, Pattern, PatternHex, Read, ReadHex, Cursor, CursorHex, Feed, FeedHex, Token, Peek, Last, Walk, Finish, Kind, Tally, Edition, Note}

makes_decodable : (w : Word) (rest : Option (List ℕ)) (c : Command) → Makes w rest c → Decodable c
makes_decodable New rest c h = subst Decodable (sym h.3) tt
makes_decodable Add rest c h = subst Decodable (sym h.3.3.1) tt
makes_decodable Code rest c h = subst Decodable (sym h.3.3.1) h.3.3.3
makes_decodable Delete rest c h = subst Decodable (sym h.2) tt
makes_decodable Pattern rest c h = subst Decodable (sym h.1) tt
makes_decodable PatternHex rest c h = subst Decodable (sym h.1) h.3
makes_decodable Read rest c h = subst Decodable (sym h.1) tt
makes_decodable ReadHex rest c h = subst Decodable (sym h.1) h.3
makes_decodable Cursor rest c h = subst Decodable (sym h.3.1) tt
makes_decodable CursorHex rest c h = subst Decodable (sym h.3.1) h.3.3
makes_decodable Feed rest c h = subst Decodable (sym h.1) tt
makes_decodable FeedHex rest c h = subst Decodable (sym h.1) h.3
makes_decodable Token rest c h = subst Decodable (sym h.0) tt
makes_decodable Peek rest c h = subst Decodable (sym h.0) tt
makes_decodable Last rest c h = subst Decodable (sym h.0) tt
makes_decodable Walk rest c h = subst Decodable (sym h.0) tt
makes_decodable Finish rest c h = subst Decodable (sym h.0) tt
makes_decodable Kind rest c h = subst Decodable (sym h.2) tt
makes_decodable Tally rest c h = subst Decodable (sym h.0) tt
makes_decodable Edition rest c h = subst Decodable (sym h.0) tt
makes_decodable Note rest c h = subst Decodable (sym h.0) tt

pub spells_decodable : (line : List ℕ) (c : Command) → Spells line c → Decodable c
spells_decodable line c h = makes_decodable h.0 h.1 c h.3
