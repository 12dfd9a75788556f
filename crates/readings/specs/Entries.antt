-- The entries of a history, and which steps are kept, told from the entries alone.
use Rattle.std.specs.Prelude.{ℕ, ◌+◌, Bool, true, false, cond, not, ◌&&◌, ◌||◌, List, [], ◌∷◌, ◌++◌, length, Some, None, filter, Option, ◌==◌, nat_lt}
use Rattle.states.specs.Sets.{same}
use Rattle.books.specs.Meaning.{Meaning, touches}
use Rattle.kept.specs.Steps.{most}
use Rattle.readings.specs.Runs.{Pair, met}
use Rattle.readings.specs.Readings.{Reading, Told, from, codes}
use Rattle.readings.specs.Readings.Reading.{whole, token, peek, feed}
use Rattle.readings.specs.Readings.Told.{changed, ended, matched, walking, refused}
use Rattle.readings.specs.Calls.{Call}
use Rattle.readings.specs.Calls.Call.{read, add, delete, begin, finish}

-- One call of a history: what the book meant at the call, the call, what it told, and how many steps it worked out.
pub record Entry : Type 0 where
  pub book : Meaning
  pub call : Call
  pub told : Told
  pub count : ℕ

-- ── What an entry is ──

-- refused because the walk is not this reader's
abbrev pub is_stale : Told → Bool
is_stale (changed e) = false
is_stale (ended rules) = false
is_stale (matched place n rules) = false
is_stale (walking e s) = false
is_stale (refused number layer place) = number == 15

-- the reading that a call and what it told are, if they are one; feeding a walk that is not this reader's is none
abbrev pub read_of : Call → Told → Option Reading
read_of (read x) t = cond (is_stale t) None (Some x)
read_of (add r k bytes) t = None
read_of (delete r) t = None
read_of begin t = None
read_of (finish e s) t = None

abbrev pub reading : Entry → Option Reading
reading e = read_of e.call e.told

-- the change was accepted
abbrev pub is_changed : Told → Bool
is_changed (changed e) = true
is_changed (ended rules) = false
is_changed (matched place n rules) = false
is_changed (walking e s) = false
is_changed (refused number layer place) = false

-- the rule of an accepted deletion
abbrev pub deleted_by : Call → Told → Option ℕ
deleted_by (read x) t = None
deleted_by (add r k bytes) t = None
deleted_by (delete r) t = cond (is_changed t) (Some r) None
deleted_by begin t = None
deleted_by (finish e s) t = None

abbrev pub deleted : Entry → Option ℕ
deleted e = deleted_by e.call e.told

-- the same reading, whatever edition its walk carries
abbrev pub any_edition : Reading → Reading
any_edition (whole text) = whole text
any_edition (token text place) = token text place
any_edition (peek text place) = peek text place
any_edition (feed e s c) = feed 0 s c

-- ── The pairs of state and code that entries meet ──

abbrev pub met_by : Meaning → Option Reading → List Pair
met_by m None = []
met_by m (Some x) = met m.next (from m x) (codes x)

abbrev pub met_in : Entry → List Pair
met_in e = met_by e.book (reading e)

abbrev pub all_met : List Entry → List Pair
all_met [] = []
all_met (e ∷ es) = met_in e ++ all_met es

-- the steps that entries worked out, all together
abbrev pub counts : List Entry → ℕ
counts [] = 0
counts (e ∷ es) = e.count + counts es

-- ── Which pairs have their step kept, by the calls ──

abbrev pub among : List Pair → Pair → Bool
among [] q = false
among (p ∷ ps) q = (same p.0 q.0 && p.1 == q.1) || among ps q

-- the pairs of ps that are not among K, each once
abbrev pub distinct_from : List Pair → List Pair → List Pair
distinct_from K [] = []
distinct_from K (p ∷ ps) = cond (among K p) (distinct_from K ps) (p ∷ distinct_from (K ++ p ∷ []) ps)

-- a pair met and not kept is kept if fewer than 512 are
abbrev pub keep_pair : List Pair → Pair → List Pair
keep_pair K p = cond (among K p) K (cond (nat_lt (length K) most) (K ++ p ∷ []) K)

abbrev pub keep_pairs : List Pair → List Pair → List Pair
keep_pairs K [] = K
keep_pairs K (p ∷ ps) = keep_pairs (keep_pair K p) ps

-- an accepted deletion drops the pairs whose state holds a position of the rule
abbrev pub drop_by : Meaning → Option ℕ → List Pair → List Pair
drop_by m None K = K
drop_by m (Some r) K = filter (λ (p : Pair). not (touches m r p.0)) K

-- the pairs kept after these calls, where K were kept before
abbrev pub kept_from : List Pair → List Entry → List Pair
kept_from K [] = K
kept_from K (e ∷ es) = kept_from (drop_by e.book (deleted e) (keep_pairs K (met_in e))) es

-- the pairs kept after these calls of a new reader
abbrev pub kept_after : List Entry → List Pair
kept_after es = kept_from [] es

-- the distinct pairs met in `mid` that were not kept before it
abbrev pub unkept : List Entry → List Entry → List Pair
unkept pre mid = distinct_from (kept_after pre) (all_met mid)
