-- Batches: records one behind the other, each a letter and its operands. A number of two bytes has its high byte first.
use Rattle.std.specs.Prelude.{◌≡◌, ℕ, ◌+◌, ◌/◌, ◌%◌, List, [], ◌∷◌, ◌++◌, length, Some, None, Option, ◌≢◌}
use Rattle.std.specs.Borrow.{Bor}
use Rattle.batches.specs.declared.record.Record.{Record}
use Rattle.batches.specs.declared.record.Record.TheVariants as is

-- What a record asks for.
pub data Ask : Type 0 where
  -- a rule to add: its number, its kind and the commands of its expression
  add : ℕ → ℕ → List ℕ → Ask
  -- a rule to delete
  delete : ℕ → Ask
  -- a line to read
  line : List ℕ → Ask

-- ---- how records are written

-- a number of two bytes
abbrev pub pair : ℕ → List ℕ
pair n = n / 256 ∷ n % 256 ∷ []

-- bytes with their length in front
abbrev pub sized : List ℕ → List ℕ
sized bytes = pair (length bytes) ++ bytes

-- 'A', 'D' or 'L', and the operands
abbrev pub written : Ask → List ℕ
written (add rule kind commands) = 65 ∷ rule ∷ (pair kind ++ sized commands)
written (delete rule) = 68 ∷ rule ∷ []
written (line text) = 76 ∷ sized text

-- A batch of these records.
abbrev pub batch : List Ask → List ℕ
batch [] = []
batch (a ∷ rest) = written a ++ batch rest

-- ---- what a batch begins with

abbrev pub ask_of : Record → Ask
ask_of (is.Add rule kind commands) = add rule kind commands.now
ask_of (is.Delete rule) = delete rule
ask_of (is.Line text) = line text.now

-- A value is taken off these bytes, which are its `bytes` and then what is behind them; or none can be.
abbrev pub Takes : {X V : Type 0} → (X → V) → (V → List ℕ) → List ℕ → Option (X × Bor (List ℕ)) → Type 0
Takes {V = V} value bytes w None = (v : V) (rest : List ℕ) → w ≢ bytes v ++ rest
Takes value bytes w (Some s) = w ≡ bytes (value s.0) ++ s.1.now

abbrev pub Begins : List ℕ → Option (Record × Bor (List ℕ)) → Type 0
Begins w s = Takes ask_of written w s

abbrev pub BeginsSized : List ℕ → Option (Bor (List ℕ) × Bor (List ℕ)) → Type 0
BeginsSized w s = Takes (λ (b : Bor (List ℕ)). b.now) sized w s

-- behind a letter, a record of that letter
abbrev pub Behind : ℕ → List ℕ → Option (Record × Bor (List ℕ)) → Type 0
Behind letter w s = Begins (letter ∷ w) s

-- ---- a whole batch

abbrev pub IsBatch : List Ask → List ℕ → Type 0
IsBatch asks w = w ≡ batch asks

-- behind some whole records, at this place, stand bytes that begin with none
abbrev pub MalformedAt : ℕ → List ℕ → Type 0
MalformedAt place w =
    (asks : List Ask) × (rest : List ℕ) × (w ≡ batch asks ++ rest) × (place ≡ length (batch asks)) × (rest ≢ [])
    × ((a : Ask) (more : List ℕ) → rest ≢ written a ++ more)

-- how many lines there are
abbrev pub lines_of : Ask → ℕ
lines_of (add rule kind commands) = 0
lines_of (delete rule) = 0
lines_of (line text) = 1

abbrev pub lines_in : List Ask → ℕ
lines_in [] = 0
lines_in (a ∷ rest) = lines_of a + lines_in rest
