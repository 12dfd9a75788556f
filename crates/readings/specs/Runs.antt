-- What a reading leads through, and what it works out on the way.
use Rattle.std.specs.Prelude.{◌≡◌, ℕ, ◌+◌, min, Bool, cond, List, [], ◌∷◌, length, is_some}
use Rattle.std.specs.Option.{unwrap_or}
use Rattle.states.specs.Sets.{State}
use Rattle.states.specs.Sets.{is_empty}
use Rattle.books.specs.Meaning.{Meaning, Model, asked}
use Rattle.kept.specs.Steps.{Step, step, found, keep}
use Rattle.readings.specs.Views.{View}

-- a state and a code
abbrev pub Pair : Type 0
Pair = State × ℕ

-- where a reader goes from s by c: nowhere from the empty state, else by the kept step if there is one, else by the book
abbrev pub goes : View → State → ℕ → State
goes v s c = cond (is_empty s) s (unwrap_or (found v.kept s c) (v.book.meaning.next s c))

-- The pairs that a text leads through from s, by a rule for the next state: the state before each code, and that code.
-- From the empty state no step is taken.
abbrev pub met : (State → ℕ → State) → State → List ℕ → List Pair
met next s [] = []
met next s (c ∷ cs) = cond (is_empty s) [] ((s, c) ∷ met next (next s c) cs)

-- the step that a book means at a pair
abbrev pub meant : Meaning → Pair → Step
meant m p = step p.0 p.1 (m.next p.0 p.1)

-- a step from the pair is kept
abbrev pub is_kept : List Step → Pair → Bool
is_kept ks p = is_some (found ks p.0 p.1)

-- the steps kept after these pairs were met: each that is not kept is kept, in turn, while there is room
abbrev pub keep_all : Meaning → List Step → List Pair → List Step
keep_all m ks [] = ks
keep_all m ks (p ∷ ps) = keep_all m (keep ks (meant m p)) ps

-- the pairs whose steps are worked out: those not kept when they are met
abbrev pub worked : Meaning → List Step → List Pair → List Pair
worked m ks [] = []
worked m ks (p ∷ ps) = cond (is_kept ks p) (worked m ks ps) (p ∷ worked m (keep ks (meant m p)) ps)

-- the book after it was asked for these, in turn
abbrev pub asked_all : List Pair → Model → Model
asked_all [] b = b
asked_all (p ∷ ps) b = asked_all ps (asked p.0 p.1 b)

-- A reading that meets the pairs ps works out n steps, and turns the reader v into w.
pub record Works (ps : List Pair) (n : ℕ) (v w : View) : Type 0 where
  pub count : n ≡ length (worked v.book.meaning v.kept ps)
  pub book : w.book ≡ asked_all (worked v.book.meaning v.kept ps) v.book
  pub kept : w.kept ≡ keep_all v.book.meaning v.kept ps
  pub edition : w.edition ≡ v.edition
  pub tally : w.tally ≡ min (v.tally + n) 4294967295
