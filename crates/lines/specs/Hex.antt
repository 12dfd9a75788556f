-- Bytes written as pairs of hex digits.
use Rattle.std.specs.Prelude.{◌≡◌, ℕ, ◌+◌, ◌*◌, ◌<◌, List, [], ◌∷◌, Ok, Err, vec_items, Result, Vec}
use Rattle.std.specs.Char.{digit_value}
use Rattle.std.specs.declared.alloc.Global.{Global}
use Rattle.hex.specs.declared.error.FromHexError.{FromHexError}
use Rattle.hex.specs.declared.error.FromHexError.TheVariants.{InvalidHexCharacter, InvalidStringLength, OddLength, OutOfMemory}
use Rattle.lines.specs.declared.hex_pairs.NoBytes.{NoBytes}
use Rattle.lines.specs.declared.hex_pairs.NoBytes.TheVariants.{NotHex, NoMemory}

-- two hex digits
abbrev pub Pair : ℕ → ℕ → Type 0
Pair high low = (digit_value high < 16) × (digit_value low < 16)

-- pairs of hex digits, perhaps none
abbrev pub Hex : List ℕ → Type 0
Hex [] = Unit {0}
Hex (high ∷ []) = ⊥
Hex (high ∷ low ∷ rest) = Pair high low × Hex rest

-- the bytes that pairs of digits write
abbrev pub written : List ℕ → List ℕ
written [] = []
written (high ∷ []) = []
written (high ∷ low ∷ rest) = (16 * digit_value high + digit_value low) ∷ written rest

-- what decoding digits answers
abbrev pub Decodes : List ℕ → Result (Vec ℕ Global) NoBytes → Type 0
Decodes digits (Ok bytes) = Hex digits × (vec_items bytes ≡ written digits)
Decodes digits (Err NotHex) = Hex digits → ⊥
Decodes digits (Err NoMemory) = Unit {0}

-- why text that is not decoded gives no bytes
abbrev pub no_bytes : FromHexError → NoBytes
no_bytes OutOfMemory = NoMemory
no_bytes OddLength = NotHex
no_bytes (InvalidHexCharacter c index) = NotHex
no_bytes InvalidStringLength = NotHex
