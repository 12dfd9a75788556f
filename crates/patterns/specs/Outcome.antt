-- What a whole pattern text comes to: its expression or a refusal; and what is answered, and what a buffer or a vector holds then.
use Rattle.std.specs.Prelude.{◌≡◌, ◌≢◌, ℕ, ◌-◌, ◌^◌, min, cond, List, [], length, Ok, Err, Result, vec_items, Vec, nat_le, nat_lt}
use Rattle.std.specs.declared.alloc.Global.{Global}
use Rattle.patterns.specs.declared.faults.PatternFault.{PatternFault}
use Rattle.patterns.specs.declared.faults.PatternFault.TheVariants.{TooLong, NoRoom}
use Rattle.patterns.specs.declared.calls.VecFault.{VecFault}
use Rattle.patterns.specs.declared.calls.VecFault.TheVariants.{Refused, NoMemory}
use Rattle.patterns.specs.Buffers.{laid}
use Rattle.patterns.specs.Reading.{E, fresh, written, read}

-- a text has at most so many bytes
abbrev pub longest : ℕ
longest = 256

-- the expression of a text, or why it is refused, whatever the buffer
abbrev pub outcome : List ℕ → Result E PatternFault
outcome t = cond (nat_lt longest (length t)) (Err TooLong) (read (length t) fresh [] 0 t)

-- ---- into a buffer

-- how long the commands w are, where a buffer of n bytes has room for them
abbrev pub fitted : ℕ → List ℕ → Result ℕ PatternFault
fitted n w = cond (nat_le (length w) n) (Ok (length w)) (Err NoRoom)

-- the answer for a buffer of n bytes
abbrev pub answered : ℕ → Result E PatternFault → Result ℕ PatternFault
answered n (Ok e) = fitted n (written e)
answered n (Err f) = Err f

-- the buffer then: the commands stand at its front, and after a refusal it is as it was
abbrev pub filled : List ℕ → Result E PatternFault → List ℕ
filled buffer (Ok e) = cond (nat_le (length (written e)) (length buffer)) (laid (written e) buffer) buffer
filled buffer (Err f) = buffer

-- ---- into a vector

-- It holds the commands, and so never lacks room. Memory is asked for only where the text is not refused.
abbrev pub Collected : Result E PatternFault → Result (Vec ℕ Global) VecFault → Type 0
Collected o (Ok v) = (e : E) × (o ≡ Ok e) × (vec_items v ≡ written e)
Collected o (Err (Refused f)) = (o ≡ Err f) × (f ≢ NoRoom)
Collected o (Err NoMemory) = (e : E) × (o ≡ Ok e)

-- ---- into as much of a buffer as there is

-- the commands of the text are put into the buffer as far as there is room, and counted, up to the greatest number
abbrev pub PutIn : List ℕ → List ℕ → List ℕ → Result ℕ PatternFault → Type 0
PutIn t buffer buffer' (Ok n) = (e : E) × (outcome t ≡ Ok e) × (buffer' ≡ laid (written e) buffer) × (n ≡ min (length (written e)) (2 ^ 64 - 1))
PutIn t buffer buffer' (Err f) = outcome t ≡ Err f
