-- A text is read as its marks say: it is refused at the first no, and else gives the expression of its pattern.
use Rattle.std.proofs.Common.{◌≡◌, ℕ, zero, suc, ◌+◌, ◌-◌, Bool, true, false, cond, not, eqb, ltb, List, [], ◌∷◌, map, length, drop, Some, None, Ok, Err, Option, Result, refl, sym, ap, ◌∙◌, subst, arith, ne_eqb}
use Rattle.expressions.specs.Expression.{join, either}
use Rattle.patterns.specs.declared.faults.PatternFault.{PatternFault}
use Rattle.patterns.specs.declared.faults.PatternFault.TheVariants.{EmptyClass, NoAtom, Unbalanced, TooDeep, Reserved}
use Rattle.patterns.specs.declared.marks.Repeat.{Repeat}
use Rattle.patterns.specs.declared.marks.Repeat.TheVariants.{Star, Plus, Optional}
use Rattle.patterns.specs.declared.runs.Run.{Run}
use Rattle.patterns.specs.Marks.{Part, plain, escape, class, sign, width, cut}
use Rattle.patterns.specs.Classes.{members, spans, falling, inner, in_class, runs}
use Rattle.patterns.specs.Reading.{E, Level, Open, Step, ranged, together, closed, chosen, risen, body_end, reserved, class_of, classed, shuts, step, finished, onward, turn, read}
use Rattle.patterns.specs.Reading as reading
use Rattle.patterns.specs.Grammar.{with_mark, cuts, Pattern, concat, alternate, class_has, unless, falls_at, some_below, or_else, asked, unclosed_behind, all_closed, first_no}
use Rattle.patterns.specs.Meaning.{InRuns, expression}
use Rattle.patterns.proofs.Running.{runs_same}
use Rattle.patterns.proofs.GrammarTrees.{gathered, Inside, whole, Standing, again, shut, grown, tree}
use Rattle.patterns.proofs.GrammarClasses.{class_has_right, some_there, runs_empty, pass_runs}
use Rattle.patterns.proofs.GrammarMarks.{signs, Proper, Each, IsByte, cut_proper, no_last, Agrees, agrees_on}

-- ---- patterns and their expressions

together_right : (op : E → E → E) (top : Pattern → Pattern → Pattern) → ((p q : Pattern) → expression (top p q) ≡ op (expression p) (expression q))
    → (ps : List Pattern) → together op (map expression ps) ≡ expression (gathered top ps)
together_right op top f [] = refl
together_right op top f (p ∷ []) = refl
together_right op top f (p ∷ q ∷ ps) = ap (λ e. op e (expression p)) (together_right op top f (q ∷ ps)) ∙ sym (f (gathered top (q ∷ ps)) p)

joined : (ps : List Pattern) → together join (map expression ps) ≡ expression (gathered concat ps)
joined = together_right join concat (λ p q. refl)

-- a level, with expressions in the place of patterns
abbrev levelled : Inside → Level
levelled l = record { sequences = map expression l.sequences; pieces = map expression l.pieces }

closed_right : (l : Inside) → closed (levelled l) ≡ expression (whole l)
closed_right l =
    ap (λ e. together either (e ∷ map expression l.sequences)) (joined l.pieces)
    ∙ together_right either alternate (λ p q. refl) (gathered concat l.pieces ∷ l.sequences)

abbrev opens : List ℕ → List Inside → List Open
opens [] os = []
opens (p ∷ ps) [] = []
opens (p ∷ ps) (o ∷ os) = record { place = p; outside = levelled o } ∷ opens ps os

length_opens : (ps : List ℕ) (os : List Inside) → length ps ≡ length os → length (opens ps os) ≡ length ps
length_opens [] os e = refl
length_opens (p ∷ ps) [] e = absurd (omega arith)
length_opens (p ∷ ps) (o ∷ os) e = ap suc (length_opens ps os (omega arith))

-- ---- one mark

-- what the answers to the questions make of a step
abbrev stepped : Option PatternFault → Level × List Open → Step
stepped (Some f) x = Err f
stepped None x = Ok x

plain_right : (p b : ℕ) (r : Bool) (x : Level × List Open) → cond r (Err (Reserved p)) (Ok x) ≡ stepped (unless (not r) (Reserved p)) x
plain_right p b true x = refl
plain_right p b false x = refl

again_right : (p : ℕ) (r : Repeat) (ss : List E) (ps : List Pattern) (os : List Open) (b : Bool) → b ≡ no_last ps
    → reading.again p r ss (map expression ps) os ≡ stepped (or_else (unless (not b) (NoAtom p)) None) (record { sequences = ss; pieces = map expression (again r ps) }, os)
again_right p r ss [] os true e = refl
again_right p r ss [] os false e = cc
again_right p r ss (q ∷ ps) os true e = cc
again_right p r ss (q ∷ ps) os false e = refl

opens_right : (p : ℕ) (b b' : Bool) (x : Level × List Open) → b ≡ b' → cond b (Ok x) (Err (TooDeep p)) ≡ stepped (or_else (unless b' (TooDeep p)) None) x
opens_right p true true x e = refl
opens_right p true false x e = cc
opens_right p false true x e = cc
opens_right p false false x e = refl

shuts_right : (p : ℕ) (l : Inside) (ps : List ℕ) (os : List Inside) → length ps ≡ length os
    → shuts p (levelled l) (opens ps os) ≡ stepped (or_else (unless (not (eqb (length ps) 0)) (Unbalanced p)) None) (levelled (shut l os).here, opens (drop 1 ps) (shut l os).around)
shuts_right p l [] os e = refl
shuts_right p l (x ∷ ps) [] e = absurd (omega arith)
shuts_right p l (x ∷ ps) (o ∷ os) e =
    ap (λ b. stepped (or_else (unless (not b) (Unbalanced p)) None) (reading.put (closed (levelled l)) (levelled o), opens ps os)) (sym (ne_eqb (suc (length ps)) 0 (λ z. omega arith)))
    ∙ ap (λ x. stepped (or_else (unless (not (eqb (suc (length ps)) 0)) (Unbalanced p)) None) (reading.put x (levelled o), opens ps os)) (closed_right l)

-- a class, by its runs and whether it has a byte
chosen_right : (p : ℕ) (f : ℕ → Bool) (l : Level) (os : List Open) (rs : List Run) (b : Bool) → runs f 256 ≡ rs → some_below f 256 ≡ b
    → classed l os (chosen p rs) ≡ stepped (or_else (unless b (EmptyClass p)) None) (reading.put (together either (map ranged rs)) l, os)
chosen_right p f l os [] true e g = let (c, n, h) = some_there f 256 g in absurd (subst (λ rs. InRuns rs c) e (pass_runs f 256 c n h))
chosen_right p f l os [] false e g = refl
chosen_right p f l os (r ∷ rs) true e g = refl
chosen_right p f l os (r ∷ rs) false e g = let h = runs_empty f 256 g in cc

risen_right : (p : ℕ) (f : ℕ → Bool) (l : Level) (os : List Open) (o : Option ℕ)
    → classed l os (risen p (runs f 256) o) ≡ stepped (or_else (falls_at o) (or_else (unless (some_below f 256) (EmptyClass p)) None)) (reading.put (together either (map ranged (runs f 256))) l, os)
risen_right p f l os (Some q) = refl
risen_right p f l os None = chosen_right p f l os (runs f 256) (some_below f 256) refl refl

module _ (before : Option Part) (unclosed : List ℕ) (s : Standing) (a : Agrees before unclosed s) (p : ℕ) where
  abbrev Right : Part → Type 0
  Right m =
      step p m (levelled s.here) (opens unclosed s.around)
      ≡ stepped (asked before (length unclosed) p m) (levelled (grown m s).here, opens (unclosed_behind p m unclosed) (grown m s).around)

  step_right : (m : Part) → Proper m → Right m
  step_right (plain b) h = plain_right p b (reserved b) _
  step_right (escape b) h = refl
  step_right (class body) h =
      risen_right p (in_class (body_end p body) body) (levelled s.here) (opens unclosed s.around) (falling (spans (members (body_end p body) (inner body))))
      ∙ ap (λ rs. stepped (asked before (length unclosed) p (class body)) (reading.put (together either (map ranged rs)) (levelled s.here), opens unclosed s.around))
      (runs_same (in_class (body_end p body) body) (class_has body) 256 (λ x l. class_has_right (body_end p body) body x))
  step_right (sign c) h =
      signs (λ n. Right (sign n))
      (again_right p Star (map expression s.here.sequences) s.here.pieces (opens unclosed s.around) _ a.first)
      (again_right p Plus (map expression s.here.sequences) s.here.pieces (opens unclosed s.around) _ a.first)
      (again_right p Optional (map expression s.here.sequences) s.here.pieces (opens unclosed s.around) _ a.first)
      refl
      (ap (λ (e : E). Ok (record { sequences = e ∷ map expression s.here.sequences; pieces = [] }, opens unclosed s.around)) (joined s.here.pieces))
      (opens_right p _ _ _ (ap (λ n. ltb n 16) (length_opens unclosed s.around a.many)))
      (shuts_right p s.here unclosed s.around a.many)
      c h

-- ---- all marks

-- a refusal, or an expression
abbrev pub answer : Option PatternFault → E → Result E PatternFault
answer (Some f) e = Err f
answer None e = Ok e

finished_right : (l : Inside) (ps : List ℕ) (os : List Inside) → length ps ≡ length os
    → finished (levelled l) (opens ps os) ≡ answer (all_closed ps) (expression (whole l))
finished_right l [] os e = ap (λ (x : E). Ok x) (closed_right l)
finished_right l (p ∷ ps) [] e = absurd (omega arith)
finished_right l (p ∷ ps) (o ∷ os) e = refl

next_place : (p : ℕ) (m : Part) → suc p + (width m - 1) ≡ p + width m
next_place p (plain b) = omega arith
next_place p (escape b) = omega arith
next_place p (class body) = omega arith
next_place p (sign c) = omega arith

-- From what stands so far on, a text of `size` bytes is read as its marks from the place q on say; k of its bytes are the rest of a mark.
abbrev Reads : ℕ → Option Part → List ℕ → Standing → ℕ → ℕ → ℕ → List ℕ → Type 0
Reads size before unclosed s p q k t =
    read size (levelled s.here) (opens unclosed s.around) k t
    ≡ answer (first_no before unclosed q (cuts p k t).marks (cuts p k t).uncut) (expression (tree s (cuts p k t).marks))

onward_right : (size p : ℕ) (m : Part) (t : List ℕ) (s : Standing) (unclosed : List ℕ) (o : Option PatternFault)
    → (o ≡ None → Reads size (Some m) unclosed s (suc p) (p + width m) (width m - 1) t)
    → onward (λ l os k. read size l os k t) (width m - 1) (stepped o (levelled s.here, opens unclosed s.around))
    ≡ answer (or_else o (first_no (Some m) unclosed (p + width m) (cuts (suc p) (width m - 1) t).marks (cuts (suc p) (width m - 1) t).uncut))
    (expression (tree s (cuts (suc p) (width m - 1) t).marks))
onward_right size p m t s unclosed (Some f) on = refl
onward_right size p m t s unclosed None on = on refl

pub reads : (size p q k : ℕ) (t : List ℕ) (before : Option Part) (unclosed : List ℕ) (s : Standing) → p + length t ≡ size → q ≡ p + k → Agrees before unclosed s
    → Each IsByte t → Reads size before unclosed s p q k t
unfolding read cuts
reads size p q k [] before unclosed s e f a h = finished_right s.here unclosed s.around a.many
reads size p q zero (b ∷ t) before unclosed s e f a h =
    ap (λ z. turn (λ l os k. read size l os k t) (levelled s.here) (opens unclosed s.around) z (cut z b t)) (let z : size - suc (length t) ≡ p = omega arith in z)
    ∙ by (cut p b t) refl (λ m a'. reads size (suc p) (p + width m) (width m - 1) t (Some m) (unclosed_behind p m unclosed) (grown m s) (omega arith) (sym (next_place p m)) a' h.1)
    ∙ ap (λ z. answer (first_no before unclosed z (cuts p zero (b ∷ t)).marks (cuts p zero (b ∷ t)).uncut) (expression (tree s (cuts p zero (b ∷ t)).marks)))
    (let z : p ≡ q = omega arith in z)
  where
    by : (r : Result Part PatternFault) → cut p b t ≡ r
        → ((m : Part) → Agrees (Some m) (unclosed_behind p m unclosed) (grown m s)
        → Reads size (Some m) (unclosed_behind p m unclosed) (grown m s) (suc p) (p + width m) (width m - 1) t)
        → turn (λ l os k. read size l os k t) (levelled s.here) (opens unclosed s.around) p r
        ≡ answer (first_no before unclosed p (with_mark (λ k. cuts (suc p) k t) r).marks (with_mark (λ k. cuts (suc p) k t) r).uncut)
        (expression (tree s (with_mark (λ k. cuts (suc p) k t) r).marks))
    by (Err f) c on = refl
    by (Ok m) c on =
        let proper = cut_proper p b t m h.0 h.1 c in
        ap (onward (λ l os k. read size l os k t) (width m - 1)) (step_right before unclosed s a p m proper)
        ∙ onward_right size p m t (grown m s) (unclosed_behind p m unclosed) (asked before (length unclosed) p m)
        (λ n. on m (agrees_on before unclosed s a p m proper n))
reads size p q (suc k) (b ∷ t) before unclosed s e f a h = reads size (suc p) q k t before unclosed s (omega arith) (omega arith) a h.1
