-- Expressions written as runs of one-byte commands, some with operands: how a run is read, and what is refused where.
use Rattle.std.specs.Prelude.{◌≡◌, ℕ, zero, suc, ◌+◌, ◌-◌, ◌*◌, ◌<◌, ◌≤◌, max, MatchOption, Bool, true, false, cond, not, ◌||◌, ◌⊎◌, ◌↔◌, List, [], ◌∷◌, ◌++◌, length, drop, Some, None, Ok, Err, Option, Result, ◌==◌, ◌≢◌, nat_le, nat_lt, slice_index}
use Rattle.std.specs.Borrow.{Bor}
use Rattle.books.specs.declared.faults.Cause.{Cause}
use Rattle.books.specs.declared.faults.Cause.TheVariants.{Letter, Operands, Codes, TooFew, TooMany, NotOne}
use Rattle.books.specs.declared.faults.CommandFault.{CommandFault}
use Rattle.expressions.specs.declared.code_range.CodeRange.{CodeRange}
use Rattle.expressions.specs.declared.command.Command.{Command}
use Rattle.expressions.specs.declared.command.Command.TheVariants.{Empty, Symbol, Join, Either, Star, Plus, Optional}
use Rattle.expressions.specs.CodeRange.{only, is_up_to}
use Rattle.expressions.specs.Expression.{empty, symbol, join, either, star, plus, optional, Plain, symbols, Language, Concatenation}

-- ---- one command

-- the code that two bytes give, the high one first
abbrev pub code : ℕ → ℕ → ℕ
code high low = 256 * high + low

-- the code at place i of a run
abbrev pub code_at : List ℕ → ℕ → ℕ
code_at w i = code (slice_index w i) (slice_index w (i + 1))

-- the command of a letter, with the codes that the bytes behind it give: one of E, C, R, J, A, S, P and O
abbrev pub command : ℕ → List ℕ → Option Command
command b rest =
    cond (b == 69) (Some Empty)
    (cond (b == 67) (Some (Symbol (only (code_at rest 0))))
    (cond (b == 82) (Some (Symbol (record { low = code_at rest 0; high = code_at rest 2 })))
    (cond (b == 74) (Some Join)
    (cond (b == 65) (Some Either)
    (cond (b == 83) (Some Star) (cond (b == 80) (Some Plus) (cond (b == 79) (Some Optional) None)))))))

-- how many bytes of operands are behind a letter
abbrev pub width : ℕ → ℕ
width b = cond (b == 67) 2 (cond (b == 82) 4 0)

-- how many expressions a command takes
abbrev pub takes : Command → ℕ
takes Empty = 0
takes (Symbol codes) = 0
takes Join = 2
takes Either = 2
takes Star = 1
takes Plus = 1
takes Optional = 1

-- how many symbols it adds
abbrev pub adds : Command → ℕ
adds Empty = 0
adds (Symbol codes) = 1
adds Join = 0
adds Either = 0
adds Star = 0
adds Plus = 0
adds Optional = 0

-- its codes are at most the last one, and low is not above high
abbrev pub in_range : ℕ → Command → Bool
in_range last Empty = true
in_range last (Symbol codes) = is_up_to last codes
in_range last Join = true
in_range last Either = true
in_range last Star = true
in_range last Plus = true
in_range last Optional = true

-- at most so many expressions wait
abbrev pub most : ℕ
most = 40

-- a question; the answer no has a cause
abbrev pub ask : {X : Type 0} → Cause → Bool → Result X Cause → Result X Cause
ask q true r = r
ask q false r = Err q

-- the questions of a command of the letter b, where so many expressions wait, in their order
abbrev pub questions : ℕ → ℕ → ℕ → List ℕ → Option Command → Result (Command × List ℕ) Cause
questions last waiting b rest None = Err Letter
questions last waiting b rest (Some c) =
    ask Operands (nat_le (width b) (length rest))
    (ask Codes (in_range last c)
    (ask TooFew (nat_le (takes c) waiting)
    (ask TooMany (not (takes c == 0) || nat_lt waiting most)
    (Ok (c, drop (width b) rest)))))

-- the command of the letter b and the bytes behind it and its operands; or the cause of the first no
abbrev pub decoded : ℕ → ℕ → ℕ → List ℕ → Result (Command × List ℕ) Cause
decoded last waiting b rest = questions last waiting b rest (command b rest)

-- what is behind a letter: the codes of its operands, if it has any, and the bytes behind them; or a cause, where they are not all there
abbrev pub Behind : ℕ → List ℕ → Result (Option CodeRange × Bor (List ℕ)) Cause → Type 0
Behind b w (Ok o) =
    (width b ≤ length w) × (o.1.now ≡ drop (width b) w)
    × MatchOption o.0 (width b ≡ 0) (λ k. (0 < width b) × (command b w ≡ Some (Symbol k)))
Behind b w (Err q) = (q ≡ Operands) × (length w < width b)

-- what a step answers is what is decoded
abbrev pub Decodes : ℕ → ℕ → ℕ → List ℕ → Result (Command × Bor (List ℕ)) Cause → Type 0
Decodes last waiting b rest (Ok s) = decoded last waiting b rest ≡ Ok (s.0, s.1.now)
Decodes last waiting b rest (Err q) = decoded last waiting b rest ≡ Err q

-- ---- a run of commands

-- what a command makes of the expressions that wait, the last one first; a command that takes more than wait leaves none
abbrev pub applied : Command → List Plain → List Plain
applied Empty W = empty ∷ W
applied (Symbol codes) W = symbol tt codes.low codes.high ∷ W
applied Join [] = []
applied Join (b ∷ []) = []
applied Join (b ∷ a ∷ W) = join a b ∷ W
applied Either [] = []
applied Either (b ∷ []) = []
applied Either (b ∷ a ∷ W) = either a b ∷ W
applied Star [] = []
applied Star (a ∷ W) = star a ∷ W
applied Plus [] = []
applied Plus (a ∷ W) = plus a ∷ W
applied Optional [] = []
applied Optional (a ∷ W) = optional a ∷ W

-- behind the last command of a run of `size` bytes exactly one waits
abbrev pub alone : ℕ → List Plain → Result Plain CommandFault
alone size [] = Err (record { cause = NotOne; place = size })
alone size (e ∷ []) = Ok e
alone size (e ∷ d ∷ W) = Err (record { cause = NotOne; place = size })

-- a no ends the reading, with its cause and the command's offset; else the reading goes on
abbrev pub turn : (List Plain → List ℕ → Result Plain CommandFault) → List Plain → ℕ → Result (Command × List ℕ) Cause → Result Plain CommandFault
turn on W offset (Ok s) = on (applied s.0 W) s.1
turn on W offset (Err q) = Err (record { cause = q; place = offset })

-- what is left of a run of `size` bytes, in at most n commands
abbrev pub read : ℕ → ℕ → ℕ → List Plain → List ℕ → Result Plain CommandFault
read last size zero W rest = alone size W
read last size (suc n) W [] = alone size W
read last size (suc n) W (b ∷ rest) = turn (read last size n) W (size - suc (length rest)) (decoded last (length W) b rest)

-- the expression that a run of commands gives, or its fault; a command has at least one byte
abbrev pub read_all : ℕ → List ℕ → Result Plain CommandFault
read_all last w = read last (length w) (length w) [] w

-- how many symbols the expression has, or the fault
abbrev pub counted : Result Plain CommandFault → Result ℕ CommandFault
counted (Ok e) = Ok (symbols e)
counted (Err f) = Err f

-- ---- the same in terms of sets of runs: an expression's run is its parts' runs and then its letter

-- the byte b alone
abbrev pub Byte : ℕ → Language
Byte b w = w ≡ b ∷ []

-- the two bytes of the code c
abbrev pub Code : ℕ → Language
Code c w = (h : ℕ) × (l : ℕ) × (c ≡ code h l) × (w ≡ h ∷ l ∷ [])

-- one code, by C or as a range of one, or a range, by R
abbrev pub SpellsRange : ℕ → ℕ → Language
SpellsRange low high w =
    ((low ≡ high) × Concatenation (Byte 67) (Code low) w) ⊎ Concatenation (Byte 82) (Concatenation (Code low) (Code high)) w

-- the runs that spell an expression over codes up to the last one
abbrev pub Spells : ℕ → Plain → Language
Spells last empty w = Byte 69 w
Spells last (symbol l low high) w = (low ≤ high) × (high ≤ last) × SpellsRange low high w
Spells last (join a b) w = Concatenation (Spells last a) (Concatenation (Spells last b) (Byte 74)) w
Spells last (either a b) w = Concatenation (Spells last a) (Concatenation (Spells last b) (Byte 65)) w
Spells last (star a) w = Concatenation (Spells last a) (Byte 83) w
Spells last (plus a) w = Concatenation (Spells last a) (Byte 80) w
Spells last (optional a) w = Concatenation (Spells last a) (Byte 79) w

-- how many expressions wait at most while a run of it is read
abbrev pub room : Plain → ℕ
room empty = 1
room (symbol l low high) = 1
room (join a b) = max (room a) (room b + 1)
room (either a b) = max (room a) (room b + 1)
room (star a) = room a
room (plus a) = room a
room (optional a) = room a

-- the runs that leave these expressions waiting, with never more than 40
abbrev pub Leaves : ℕ → List Plain → Language
Leaves last [] w = w ≡ []
Leaves last (e ∷ W) w = (room e + length W ≤ most) × Concatenation (Leaves last W) (Spells last e) w

-- where W wait, the next command gets a no with the cause q, or there is none and not exactly one waits
abbrev pub Stops : ℕ → Cause → List Plain → Language
Stops last q W [] = (q ≡ NotOne) × ((e : Plain) → W ≢ e ∷ [])
Stops last q W (b ∷ rest) = decoded last (length W) b rest ≡ Err q

-- the run spells the expression, and never more than 40 wait
abbrev pub Accepted : ℕ → Plain → Language
Accepted last e w = (room e ≤ most) × Spells last e w

-- the commands before the fault's place leave some expressions waiting, and there the run stops
abbrev pub Refused : ℕ → CommandFault → Language
Refused last f w =
    (u : List ℕ) × (v : List ℕ) × (W : List Plain) × (w ≡ u ++ v) × (f.place ≡ length u) × Leaves last W u × Stops last f.cause W v

-- A run is accepted, with the number of its symbols, exactly where it spells an expression, and refused exactly where it stops.
pub record Judged (last : ℕ) (w : List ℕ) (r : Result ℕ CommandFault) : Type 0 where
  pub accepted : (n : ℕ) → r ≡ Ok n ↔ ((e : Plain) × Accepted last e w × (symbols e ≡ n))
  pub refused : (f : CommandFault) → r ≡ Err f ↔ Refused last f w
