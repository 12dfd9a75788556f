-- What a search tells.
use Rattle.std.specs.Prelude.{ℕ, Some, None, Option}
use Rattle.readings.specs.Readings.{Told}
use Rattle.readings.specs.Readings.Told.{matched, refused}
use Rattle.reader.specs.declared.seeking.Best.{Best}

-- a token at the place, or refusal 14 there
abbrev pub best_told : ℕ → Option Best → Told
best_told place None = refused 14 1 place
best_told place (Some b) = matched place b.length b.rules
