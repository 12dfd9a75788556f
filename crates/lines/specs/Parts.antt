-- Bytes parted at the first of a mark: a script's lines, a line's words.
use Rattle.std.specs.Prelude.{◌≡◌, ℕ, List, ◌∷◌, ◌++◌, Some, None, Option, ◌≢◌}
use Rattle.std.specs.List.{AllByRecursion}

-- no byte is the mark
abbrev pub Lacks : ℕ → List ℕ → Type 0
Lacks mark bytes = AllByRecursion (λ b. b ≢ mark) bytes

-- the bytes before the first mark, and those behind it, if there is a mark
abbrev pub Parts : ℕ → List ℕ → List ℕ → Option (List ℕ) → Type 0
Parts mark bytes first None = Lacks mark first × (bytes ≡ first)
Parts mark bytes first (Some rest) = Lacks mark first × (bytes ≡ first ++ (mark ∷ rest))
