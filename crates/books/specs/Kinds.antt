-- Rules by number, and their kinds.
use Rattle.std.specs.Prelude.{◌≡◌, ℕ, None, Option, slice_index_or}
use Rattle.books.specs.declared.kinds.Kinds.{Kinds}
use Rattle.books.specs.declared.kinds.Rule.{Rule}

-- the kind of rule r; none where it is not in force
abbrev pub kind_in : {n : ℕ} → Kinds n → ℕ → Option ℕ
kind_in ks r = slice_index_or ks.by_rule r None

-- the rule of this number and kind
abbrev pub IsRule : {n : ℕ} → ℕ → ℕ → Rule n → Type 0
IsRule r k it = (it.number ≡ r) × (it.kind ≡ k)
