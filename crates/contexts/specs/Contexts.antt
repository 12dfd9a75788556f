-- The reader in use as its callers see it.
use Rattle.std.specs.Prelude.{ℕ, map, vec_items}
use Rattle.std.specs.Option.{option_map}
use Rattle.reader.specs.View.{view}
use Rattle.contexts.specs.Uses.{Marker, Use}
use Rattle.contexts.specs.declared.context.Track.{Track}
use Rattle.contexts.specs.declared.context.Context.{Context}

abbrev pub marker_of : {S : Type 0} → (S → ℕ) → Track S → Marker
marker_of code t = record { text = map code (vec_items t.text); place = t.place; from = t.from; to = t.to }

-- what a symbol's code is, and what its book means, are the reader's own
abbrev pub use_of : {B S : Type 0} {g : _} {h : _} → Context B S g h → Use
use_of {h = h} c = record { reader = view c.reader; cursor = option_map (marker_of h.code) c.cursor; walk = c.walk }
