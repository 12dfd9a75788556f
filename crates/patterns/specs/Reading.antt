-- How a pattern text is read: mark by mark, from left to right, with the expressions that it has given so far.
use Rattle.std.specs.Prelude.{◌≡◌, ℕ, zero, suc, ◌+◌, ◌-◌, Bool, cond, ◌||◌, List, [], ◌∷◌, ◌++◌, map, length, Some, None, Ok, Err, Option, Result, ◌==◌, nat_lt}
use Rattle.expressions.specs.Expression.{Expr, empty, symbol, join, either, star, plus, optional}
use Rattle.patterns.specs.declared.faults.PatternFault.{PatternFault}
use Rattle.patterns.specs.declared.faults.PatternFault.TheVariants.{FallingRange, EmptyClass, NoAtom, Unbalanced, TooDeep, Reserved}
use Rattle.patterns.specs.declared.marks.Repeat.{Repeat}
use Rattle.patterns.specs.declared.marks.Repeat.TheVariants.{Star, Plus, Optional}
use Rattle.patterns.specs.Marks.{Part, plain, escape, class, sign, width, cut, repeat_of}
use Rattle.patterns.specs.declared.runs.Run.{Run}
use Rattle.patterns.specs.declared.sink.Sink.{Sink}
use Rattle.patterns.specs.Buffers.{Adds}
use Rattle.patterns.specs.Classes.{members, spans, falling, inner, in_class, runs}

-- how a symbol is written: one code behind a C, or two behind an R
pub data Letter : Type 0 where
  one : Letter
  range : Letter

-- an expression whose symbols are labelled with how they are written
abbrev pub E : Type 0
E = Expr Letter

-- its commands
abbrev pub written : E → List ℕ
written empty = 69 ∷ []
written (symbol one low high) = 67 ∷ 0 ∷ low ∷ []
written (symbol range low high) = 82 ∷ 0 ∷ low ∷ 0 ∷ high ∷ []
written (join a b) = written a ++ (written b ++ 74 ∷ [])
written (either a b) = written a ++ (written b ++ 65 ∷ [])
written (star a) = written a ++ 83 ∷ []
written (plus a) = written a ++ 80 ∷ []
written (optional a) = written a ++ 79 ∷ []

-- expressions put together from the first to the last one, which stands first; none gives the empty expression
abbrev pub together : (E → E → E) → List E → E
together op [] = empty
together op (e ∷ []) = e
together op (e ∷ d ∷ es) = op (together op (d ∷ es)) e

-- What stands between two brackets, or in the whole text, so far: the sequences behind which a '|' stands and the pieces of the
-- present sequence, the last one first.
pub record Level : Type 0 where
  pub sequences : List E
  pub pieces : List E

abbrev pub fresh : Level
fresh = record { sequences = []; pieces = [] }

-- its expression
abbrev pub closed : Level → E
closed l = together either (together join l.pieces ∷ l.sequences)

-- a further piece
abbrev pub put : E → Level → Level
put e l = record { sequences = l.sequences; pieces = e ∷ l.pieces }

-- the place of an open bracket, and the level outside it
pub record Open : Type 0 where
  pub place : ℕ
  pub outside : Level

-- what a mark makes of the level and the brackets open, innermost first; or a refusal
abbrev pub Step : Type 0
Step = Result (Level × List Open) PatternFault

abbrev pub repeated : Repeat → E → E
repeated Star e = star e
repeated Plus e = plus e
repeated Optional e = optional e

-- the last piece repeated, behind these sequences
abbrev pub again : ℕ → Repeat → List E → List E → List Open → Step
again p r ss [] os = Err (NoAtom p)
again p r ss (e ∷ es) os = Ok (record { sequences = ss; pieces = repeated r e ∷ es }, os)

-- '*', '+' or '?' at the place p
abbrev pub repeats : ℕ → Repeat → Level → List Open → Step
repeats p r l os = again p r l.sequences l.pieces os

-- '|' ends a sequence
abbrev pub parted : Level → Level
parted l = record { sequences = together join l.pieces ∷ l.sequences; pieces = [] }

-- at most so many brackets are open
abbrev pub most : ℕ
most = 16

-- '(' at the place p
abbrev pub opens : ℕ → Level → List Open → Step
opens p l os = cond (nat_lt (length os) most) (Ok (fresh, record { place = p; outside = l } ∷ os)) (Err (TooDeep p))

-- ')' at the place p
abbrev pub shuts : ℕ → Level → List Open → Step
shuts p l [] = Err (Unbalanced p)
shuts p l (o ∷ os) = Ok (put (closed l) o.outside, os)

-- any byte
abbrev pub any : E
any = symbol range 0 255

-- a sign at the place p, with how it repeats, if it does
abbrev pub signed_by : ℕ → ℕ → Level → List Open → Option Repeat → Step
signed_by p c l os (Some r) = repeats p r l os
signed_by p c l os None =
    cond (c == 46) (Ok (put any l, os)) (cond (c == 124) (Ok (parted l, os)) (cond (c == 40) (opens p l os) (shuts p l os)))

-- a sign at the place p
abbrev pub signed : ℕ → ℕ → Level → List Open → Step
signed p c l os = signed_by p c l os (repeat_of c)

-- the bytes '{', '}' and ']' are kept back
abbrev pub reserved : ℕ → Bool
reserved b = b == 123 || (b == 125 || b == 93)

-- the bytes of a run
abbrev pub ranged : Run → E
ranged r = symbol range r.low r.high

-- each run an R, with A after each but the first; a class has some byte
abbrev pub chosen : ℕ → List Run → Result E PatternFault
chosen p [] = Err (EmptyClass p)
chosen p (r ∷ rs) = Ok (together either (map ranged (r ∷ rs)))

-- no range falls
abbrev pub risen : ℕ → List Run → Option ℕ → Result E PatternFault
risen p rs (Some q) = Err (FallingRange q)
risen p rs None = chosen p rs

-- the place behind the body of the class at the place p
abbrev pub body_end : ℕ → List ℕ → ℕ
body_end p body = p + 1 + length body

-- the expression of the class at the place p
abbrev pub class_of : ℕ → List ℕ → Result E PatternFault
class_of p body = risen p (runs (in_class (body_end p body) body) 256) (falling (spans (members (body_end p body) (inner body))))

abbrev pub classed : Level → List Open → Result E PatternFault → Step
classed l os (Ok e) = Ok (put e l, os)
classed l os (Err f) = Err f

-- the questions of a mark at the place p
abbrev pub step : ℕ → Part → Level → List Open → Step
step p (plain b) l os = cond (reserved b) (Err (Reserved p)) (Ok (put (symbol one b b) l, os))
step p (escape b) l os = Ok (put (symbol one b b) l, os)
step p (class body) l os = classed l os (class_of p body)
step p (sign c) l os = signed p c l os

-- after all marks no bracket is open
abbrev pub finished : Level → List Open → Result E PatternFault
finished l [] = Ok (closed l)
finished l (o ∷ os) = Err (Unbalanced o.place)

-- the reading goes on, k bytes further on, or ends with a refusal
abbrev pub onward : (Level → List Open → ℕ → Result E PatternFault) → ℕ → Step → Result E PatternFault
onward on k (Ok s) = on s.0 s.1 k
onward on k (Err f) = Err f

abbrev pub turn : (Level → List Open → ℕ → Result E PatternFault) → Level → List Open → ℕ → Result Part PatternFault → Result E PatternFault
turn on l os p (Err f) = Err f
turn on l os p (Ok m) = onward on (width m - 1) (step p m l os)

-- What is left of a text of `size` bytes, k of them being the rest of a mark that is read already.
unfoldable pub read : ℕ → Level → List Open → ℕ → List ℕ → Result E PatternFault
read size l os k [] = finished l os
read size l os zero (b ∷ t) = turn (λ l' os' k. read size l' os' k t) l os (size - suc (length t)) (cut (size - suc (length t)) b t)
read size l os (suc k) (b ∷ t) = read size l os k t

-- ---- what is put into a buffer

-- the commands of runs, the last one first
abbrev pub runs_written : List Run → List ℕ
runs_written [] = []
runs_written (r ∷ rs) = written (together either (map ranged (r ∷ rs)))

-- The commands of the class at the place p are put into the sink, or it is refused.
abbrev pub ClassPut : ℕ → List ℕ → Sink → Sink → Result (Unit {0}) PatternFault → Type 0
ClassPut p body s s' (Ok x) = (e : E) × (class_of p body ≡ Ok e) × Adds s (written e) s'
ClassPut p body s s' (Err x) = class_of p body ≡ Err x
