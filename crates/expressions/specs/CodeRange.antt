-- Ranges of codes.
use Rattle.std.specs.Prelude.{ℕ, Bool, ◌&&◌, nat_le}
use Rattle.expressions.specs.declared.code_range.CodeRange.{CodeRange}

-- one code alone
abbrev pub only : ℕ → CodeRange
only code = record { low = code; high = code }

-- no code
abbrev pub none : CodeRange
none = record { low = 1; high = 0 }

-- the code is one of them
abbrev pub contains : CodeRange → ℕ → Bool
contains k code = nat_le k.low code && nat_le code k.high

-- low is not above high, and they are at most the last one
abbrev pub is_up_to : ℕ → CodeRange → Bool
is_up_to last k = nat_le k.low k.high && nat_le k.high last
