-- The reading of a text never refuses it for want of room.
use Rattle.std.proofs.Common.{◌≡◌, ℕ, zero, suc, ◌+◌, ◌-◌, ◌&&◌, Bool, true, false, cond, eqb, ltb, List, [], ◌∷◌, length, Some, None, Option, Ok, Err, Result, ap}
use Rattle.patterns.specs.declared.faults.PatternFault.{PatternFault}
use Rattle.patterns.specs.declared.faults.PatternFault.TheVariants.{TooLong, LoneEscape, TooDeep, Reserved, NoRoom}
use Rattle.patterns.specs.declared.marks.Repeat.{Repeat}
use Rattle.patterns.specs.declared.members.Member.{Member}
use Rattle.patterns.specs.declared.runs.Run.{Run}
use Rattle.patterns.specs.Classes.{members, spans, falling, inner, in_class, runs}
use Rattle.patterns.specs.Marks.{Part, plain, escape, class, sign, width, is_sign, closes, escaped, classed, class_at, cut, repeat_of}
use Rattle.patterns.specs.Reading.{classed as in_level}
use Rattle.patterns.specs.Reading.{E, one, any, Level, Open, Step, fresh, put, parted, opens, shuts, again, signed_by, reserved, chosen, risen, body_end, class_of, step, finished, onward, turn, read, most}
use Rattle.patterns.specs.Outcome.{longest, outcome}
use Rattle.expressions.specs.Expression.{symbol}

-- any answer but a refusal for want of room
abbrev Roomy : {A : Type 0} → Result A PatternFault → Type 0
Roomy r = r ≡ Err NoRoom → ⊥

of_both : {A : Type 0} (b : Bool) (x y : Result A PatternFault) → Roomy x → Roomy y → Roomy (cond b x y)
of_both true x y g h = g
of_both false x y g h = h

-- a refusal that is handed on
handed : {A B : Type 0} (f : PatternFault) → Roomy {A = A} (Err f) → Roomy {A = B} (Err f)
handed f h e = let n : f ≡ NoRoom = cc in h (ap Err n)

-- ---- marks

closing : (p : ℕ) (ms : List Member) → Roomy (closes p ms)
closing p [] = λ e. cc
closing p (m ∷ ms) =
    of_both (m.bare && eqb m.value 93) (Ok m.place) (cond (m.bare && eqb m.value 92) (Err (LoneEscape m.place)) (closes p ms)) (λ e. cc)
    (of_both (m.bare && eqb m.value 92) (Err (LoneEscape m.place)) (closes p ms) (λ e. cc) (closing p ms))

classing : (p : ℕ) (t : List ℕ) (r : Result ℕ PatternFault) → Roomy r → Roomy (classed p t r)
classing p t (Ok q) h = λ e. cc
classing p t (Err f) h = handed f h

escaping : (p : ℕ) (t : List ℕ) → Roomy (escaped p t)
escaping p [] e = cc
escaping p (c ∷ t) e = cc

cutting : (p b : ℕ) (t : List ℕ) → Roomy (cut p b t)
cutting p b t =
    of_both (eqb b 92) (escaped p t) (cond (eqb b 91) (class_at p t) (Ok (cond (is_sign b) (sign b) (plain b)))) (escaping p t)
    (of_both (eqb b 91) (class_at p t) (Ok (cond (is_sign b) (sign b) (plain b))) (classing p t _ (closing p (members (p + 1 + length t) t))) (λ e. cc))

-- ---- what a mark makes

choosing : (p : ℕ) (rs : List Run) → Roomy (chosen p rs)
choosing p [] e = cc
choosing p (r ∷ rs) e = cc

rising : (p : ℕ) (rs : List Run) (o : Option ℕ) → Roomy (risen p rs o)
rising p rs (Some q) = λ e. cc
rising p rs None = choosing p rs

levelling : (l : Level) (os : List Open) (r : Result E PatternFault) → Roomy r → Roomy (in_level l os r)
levelling l os (Ok x) h = λ e. cc
levelling l os (Err f) h = handed f h

repeating : (p : ℕ) (r : Repeat) (ss es : List E) (os : List Open) → Roomy (again p r ss es os)
repeating p r ss [] os e = cc
repeating p r ss (x ∷ es) os e = cc

shutting : (p : ℕ) (l : Level) (os : List Open) → Roomy (shuts p l os)
shutting p l [] e = cc
shutting p l (o ∷ os) e = cc

opening : (p : ℕ) (l : Level) (os : List Open) → Roomy (opens p l os)
opening p l os = of_both (ltb (length os) most) (Ok (fresh, record { place = p; outside = l } ∷ os)) (Err (TooDeep p)) (λ e. cc) (λ e. cc)

signing : (p c : ℕ) (l : Level) (os : List Open) (r : Option Repeat) → Roomy (signed_by p c l os r)
signing p c l os (Some r) = repeating p r l.sequences l.pieces os
signing p c l os None =
    of_both (eqb c 46) (Ok (put any l, os)) (cond (eqb c 124) (Ok (parted l, os)) (cond (eqb c 40) (opens p l os) (shuts p l os))) (λ e. cc)
    (of_both (eqb c 124) (Ok (parted l, os)) (cond (eqb c 40) (opens p l os) (shuts p l os)) (λ e. cc)
    (of_both (eqb c 40) (opens p l os) (shuts p l os) (opening p l os) (shutting p l os)))

stepping : (p : ℕ) (m : Part) (l : Level) (os : List Open) → Roomy (step p m l os)
stepping p (plain b) l os = of_both (reserved b) (Err (Reserved p)) (Ok (put (symbol one b b) l, os)) (λ e. cc) (λ e. cc)
stepping p (escape b) l os = λ e. cc
stepping p (class body) l os =
    levelling l os (class_of p body)
    (rising p (runs (in_class (body_end p body) body) 256) (falling (spans (members (body_end p body) (inner body)))))
stepping p (sign c) l os = signing p c l os (repeat_of c)

-- ---- the reading

finishing : (l : Level) (os : List Open) → Roomy (finished l os)
finishing l [] e = cc
finishing l (o ∷ os) e = cc

module _ (on : Level → List Open → ℕ → Result E PatternFault) (h : (l : Level) (os : List Open) (k : ℕ) → Roomy (on l os k)) where
  going_on : (k : ℕ) (s : Step) → Roomy s → Roomy (onward on k s)
  going_on k (Ok s) g = h s.0 s.1 k
  going_on k (Err f) g = handed f g

  turning : (l : Level) (os : List Open) (p : ℕ) (r : Result Part PatternFault) → Roomy r → Roomy (turn on l os p r)
  turning l os p (Err f) g = handed f g
  turning l os p (Ok m) g = going_on (width m - 1) (step p m l os) (stepping p m l os)

reading : (size : ℕ) (l : Level) (os : List Open) (k : ℕ) (t : List ℕ) → Roomy (read size l os k t)
unfolding read
reading size l os k [] = finishing l os
reading size l os zero (b ∷ t) =
    turning (λ l' os' k. read size l' os' k t) (λ l' os' k. reading size l' os' k t) l os (size - suc (length t)) _ (cutting (size - suc (length t)) b t)
reading size l os (suc k) (b ∷ t) = reading size l os k t

pub never_no_room : (t : List ℕ) → outcome t ≡ Err NoRoom → ⊥
never_no_room t = of_both (ltb longest (length t)) (Err TooLong) (read (length t) fresh [] 0 t) (λ e. cc) (reading (length t) fresh [] 0 t)
