-- The text of an event.
use Rattle.std.specs.Prelude.{ℕ, List, ◌∷◌, ◌++◌, decimal}

-- the machine in decimal, a point, and the kind in decimal
abbrev pub event_words : ℕ → ℕ → List ℕ
event_words machine kind = decimal machine ++ (46 ∷ decimal kind)
