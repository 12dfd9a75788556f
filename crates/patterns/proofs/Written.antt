-- The commands of a class, run by run.
use Rattle.std.proofs.Common.{◌≡◌, ℕ, ◌+◌, ◌-◌, ◌<◌, List, [], ◌∷◌, ◌++◌, length, map, reverse, Some, None, Option, Ok, Err, sym, refl, ap, ◌∙◌, subst, arith}
use mathlib.Core.List.{reverse_aux}
use Rattle.std.proofs.lemmas.List.{reverse-reverse, length-reverse}
use Rattle.std.specs.Option.{ok_or}
use Rattle.expressions.specs.Expression.{either}
use Rattle.states.specs.Sets.{State, has}
use Rattle.patterns.specs.declared.faults.PatternFault.{PatternFault}
use Rattle.patterns.specs.declared.faults.PatternFault.TheVariants.{EmptyClass}
use Rattle.patterns.specs.declared.runs.Run.{Run}
use Rattle.patterns.specs.declared.sink.Sink.{Sink}
use Rattle.patterns.specs.Buffers.{Adds}
use Rattle.patterns.specs.Classes.{runs, BytesRead, falling, inner, in_class, members, spans}
use Rattle.patterns.specs.Reading.{written, together, ranged, chosen, risen, body_end, class_of, runs_written, ClassPut}
use Rattle.patterns.proofs.Puts.{adds_both}
use Rattle.patterns.proofs.Running.{runs_same}

-- Of the first run and the others those that are not left are put in, the last one first.
pub record Putting (first : Run) (others left : List Run) (from to : Sink) : Type 0 where
  pub last : Run
  pub before : List Run
  pub all : reverse_aux others (first ∷ []) ≡ reverse_aux left (last ∷ before)
  pub put : Adds from (runs_written (last ∷ before)) to

-- one run more, with an A behind it
pub put_more : {first run : Run} {others left rest : List Run} {a b c d : Sink} → Putting first others left a b → left ≡ run ∷ rest
    → Adds b (written (ranged run)) c → Adds c (65 ∷ []) d → Putting first others rest a d
put_more {run = run} {rest = rest} {a = a} {d = d} p e x y = record {
  last = run;
  before = p.last ∷ p.before;
  all = p.all ∙ ap (λ l. reverse_aux l (p.last ∷ p.before)) e;
  put = adds_both (runs_written (p.last ∷ p.before)) (written (ranged run) ++ 65 ∷ []) p.put (adds_both (written (ranged run)) (65 ∷ []) x y);
}

-- whether there is a first run
pub first_none : (o : Option Run) (f g : PatternFault) → Err f ≡ ok_or o g → (o ≡ None) × (f ≡ g)
first_none None f g e = (refl, cc)
first_none (Some x) f g e = cc

pub first_some : (o : Option Run) (x : Run) (g : PatternFault) → Ok x ≡ ok_or o g → o ≡ Some x
first_some None x g e = cc
first_some (Some y) x g e = cc

-- a class at the place p
module _ (place : ℕ) (body : List ℕ) (h : 0 < place) where
  ends : body_end (place - 1) body ≡ place + length body
  ends = omega arith

  pub class_refused : (f : PatternFault) → BytesRead (place + length body) body (Err f) → class_of (place - 1) body ≡ Err f
  class_refused f r = ap (λ n. risen (place - 1) (runs (in_class n body) 256) (falling (spans (members n (inner body))))) ends
      ∙ ap (risen (place - 1) (runs (in_class (place + length body) body) 256)) r.1 ∙ ap Err (sym r.2)

  class_chosen : (s : State) → BytesRead (place + length body) body (Ok s) → class_of (place - 1) body ≡ chosen (place - 1) (runs (has s) 256)
  class_chosen s r = ap (λ n. risen (place - 1) (runs (in_class n body) 256) (falling (spans (members n (inner body))))) ends
      ∙ ap (risen (place - 1) (runs (in_class (place + length body) body) 256)) r.0
      ∙ ap (chosen (place - 1)) (sym (runs_same (has s) (in_class (place + length body) body) 256 r.1))

  pub class_empty : (s : State) → BytesRead (place + length body) body (Ok s) → reverse (runs (has s) 256) ≡ [] → class_of (place - 1) body ≡ Err (EmptyClass (place - 1))
  class_empty s r e = class_chosen s r ∙ ap (chosen (place - 1)) (sym (reverse-reverse (runs (has s) 256)) ∙ ap reverse e)

  pub class_put : (s : State) (first : Run) (others : List Run) (a b : Sink) → BytesRead (place + length body) body (Ok s) → reverse (runs (has s) 256) ≡ first ∷ others
      → Adds a (runs_written (reverse (first ∷ others))) b → ClassPut (place - 1) body a b (Ok tt)
  class_put s first others a b r e p =
      put (runs (has s) 256) (class_chosen s r) (sym (reverse-reverse (runs (has s) 256)) ∙ ap reverse e) p
    where
      put : (rs : List Run) → class_of (place - 1) body ≡ chosen (place - 1) rs → rs ≡ reverse (first ∷ others) → Adds a (runs_written (reverse (first ∷ others))) b
          → ClassPut (place - 1) body a b (Ok tt)
      put [] c q p =
          let n : ◌≡◌ {A = ℕ} 0 (length others + 1) = ap length q ∙ length-reverse (first ∷ others) ∙ omega arith in absurd (omega arith)
      put (x ∷ rs) c q p = (together either (map ranged (x ∷ rs)), c, subst (λ l. Adds a (runs_written l) b) (sym q) p)
