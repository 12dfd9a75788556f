-- The marks that are cut off a text of bytes, and what is asked of them, mark by mark.
use Rattle.std.proofs.Common.{◌≡◌, ℕ, zero, suc, ◌+◌, ◌-◌, ◌<◌, Bool, true, false, cond, not, ◌||◌, eqb, List, [], ◌∷◌, ◌++◌, length, drop, Some, None, Ok, Err, Option, Result, EachIndex, slice_index, take, refl, sym, ap, ◌∙◌, subst, arith, eqb-true}
use Rattle.patterns.specs.declared.faults.PatternFault.{PatternFault}
use Rattle.patterns.specs.declared.marks.Repeat.{Repeat}
use Rattle.patterns.specs.declared.marks.Repeat.TheVariants.{Star, Plus, Optional}
use Rattle.patterns.specs.Marks.{Part, plain, escape, class, sign, width, is_sign, cut, escaped, closes, class_at, classed, repeat_of}
use Rattle.patterns.specs.Classes.{members}
use Rattle.patterns.specs.Grammar.{with_mark, cuts, Pattern, unless, or_else, asked, begins_behind, unclosed_behind}
use Rattle.patterns.proofs.GrammarTrees.{Inside, Standing, grown, again, shut}

-- ---- signs

-- what is shown of each sign holds of every one
pub signs : (P : ℕ → Type 0) → P 42 → P 43 → P 63 → P 46 → P 124 → P 40 → P 41 → (c : ℕ) → is_sign c ≡ true → P c
signs P star plus optional dot bar opening closing c e = by (eqb c 124) (eqb c 40) (eqb c 41) (eqb c 42) (eqb c 43) (eqb c 63) (eqb c 46) refl refl refl refl refl refl refl e
  where
    at : (n : ℕ) → P n → eqb c n ≡ true → P c
    at n p q = subst P (sym (eqb-true c n q)) p

    by : (b₁ b₂ b₃ b₄ b₅ b₆ b₇ : Bool) → eqb c 124 ≡ b₁ → eqb c 40 ≡ b₂ → eqb c 41 ≡ b₃ → eqb c 42 ≡ b₄ → eqb c 43 ≡ b₅ → eqb c 63 ≡ b₆ → eqb c 46 ≡ b₇
        → (b₁ || (b₂ || (b₃ || (b₄ || (b₅ || (b₆ || b₇)))))) ≡ true → P c
    by true b₂ b₃ b₄ b₅ b₆ b₇ q₁ q₂ q₃ q₄ q₅ q₆ q₇ e = at 124 bar q₁
    by false true b₃ b₄ b₅ b₆ b₇ q₁ q₂ q₃ q₄ q₅ q₆ q₇ e = at 40 opening q₂
    by false false true b₄ b₅ b₆ b₇ q₁ q₂ q₃ q₄ q₅ q₆ q₇ e = at 41 closing q₃
    by false false false true b₅ b₆ b₇ q₁ q₂ q₃ q₄ q₅ q₆ q₇ e = at 42 star q₄
    by false false false false true b₆ b₇ q₁ q₂ q₃ q₄ q₅ q₆ q₇ e = at 43 plus q₅
    by false false false false false true b₇ q₁ q₂ q₃ q₄ q₅ q₆ q₇ e = at 63 optional q₆
    by false false false false false false true q₁ q₂ q₃ q₄ q₅ q₆ q₇ e = at 46 dot q₇
    by false false false false false false false q₁ q₂ q₃ q₄ q₅ q₆ q₇ e = cc

-- and of each sign that repeats
pub repeat_signs : (P : ℕ → Repeat → Type 0) → P 42 Star → P 43 Plus → P 63 Optional → (c : ℕ) (r : Repeat) → repeat_of c ≡ Some r → P c r
repeat_signs P star plus optional c r e = by (eqb c 42) (eqb c 43) (eqb c 63) refl refl refl e
  where
    at : (n : ℕ) (x : Repeat) → P n x → eqb c n ≡ true → x ≡ r → P c r
    at n x p q y = subst (λ k. P k r) (sym (eqb-true c n q)) (subst (P n) y p)

    by : (b₁ b₂ b₃ : Bool) → eqb c 42 ≡ b₁ → eqb c 43 ≡ b₂ → eqb c 63 ≡ b₃
        → cond b₁ (Some Star) (cond b₂ (Some Plus) (cond b₃ (Some Optional) None)) ≡ Some r → P c r
    by true b₂ b₃ q₁ q₂ q₃ e = at 42 Star star q₁ cc
    by false true b₃ q₁ q₂ q₃ e = at 43 Plus plus q₂ cc
    by false false true q₁ q₂ q₃ e = at 63 Optional optional q₃ cc
    by false false false q₁ q₂ q₃ e = cc

-- ---- marks

-- a mark of a text of bytes
abbrev pub Proper : Part → Type 0
Proper (plain b) = b < 256
Proper (escape b) = b < 256
Proper (class body) = Unit {0}
Proper (sign c) = is_sign c ≡ true

abbrev pub Each : {A : Type 0} → (A → Type 0) → List A → Type 0
Each P [] = Unit {0}
Each P (x ∷ xs) = P x × Each P xs

abbrev pub IsByte : ℕ → Type 0
IsByte b = b < 256

pub each_left : {A : Type 0} (P : A → Type 0) (u v : List A) → Each P (u ++ v) → Each P u
each_left P [] v h = tt
each_left P (x ∷ u) v h = (h.0, each_left P u v h.1)

pub each_right : {A : Type 0} (P : A → Type 0) (u v : List A) → Each P (u ++ v) → Each P v
each_right P [] v h = h
each_right P (x ∷ u) v h = each_right P u v h.1

pub each_byte : (t : List ℕ) → EachIndex t (λ k. slice_index t k < 256) → Each IsByte t
each_byte [] h = tt
each_byte (b ∷ t) h = (h 0 (omega arith), each_byte t (λ k l. h (suc k) (omega arith)))

pub cut_proper : (p b : ℕ) (t : List ℕ) (m : Part) → b < 256 → Each IsByte t → cut p b t ≡ Ok m → Proper m
cut_proper p b t m l h e = by (eqb b 92) (eqb b 91) (is_sign b) refl e
  where
    escapes : (t : List ℕ) → Each IsByte t → escaped p t ≡ Ok m → Proper m
    escapes [] h e = cc
    escapes (c ∷ t) h e = let q : escape c ≡ m = cc in subst Proper q h.0

    classes : (r : Result ℕ PatternFault) → classed p t r ≡ Ok m → Proper m
    classes (Ok q) e = subst Proper (let z : class (take (q - (p + 1)) t) ≡ m = cc in z) tt
    classes (Err f) e = cc

    by : (x y z : Bool) → is_sign b ≡ z → cond x (escaped p t) (cond y (class_at p t) (Ok (cond z (sign b) (plain b)))) ≡ Ok m → Proper m
    by true y z s e = escapes t h e
    by false true z s e = classes (closes p (members (p + 1 + length t) t)) e
    by false false true s e = let q : sign b ≡ m = cc in subst Proper q s
    by false false false s e = let q : plain b ≡ m = cc in subst Proper q l

pub cuts_proper : (p k : ℕ) (t : List ℕ) → Each IsByte t → Each Proper (cuts p k t).marks
unfolding cuts
cuts_proper p k [] h = tt
cuts_proper p zero (b ∷ t) h = by (cut p b t) refl (λ k. cuts_proper (suc p) k t h.1)
  where
    by : (r : Result Part PatternFault) → cut p b t ≡ r → ((k : ℕ) → Each Proper (cuts (suc p) k t).marks) → Each Proper (with_mark (λ k. cuts (suc p) k t) r).marks
    by (Ok m) e on = (cut_proper p b t m h.0 h.1 e, on (width m - 1))
    by (Err f) e on = tt
cuts_proper p (suc k) (b ∷ t) h = cuts_proper (suc p) k t h.1

-- ---- questions

-- neither is refused
pub neither : (f g : Option PatternFault) → or_else f g ≡ None → (f ≡ None) × (g ≡ None)
neither None g e = (refl, e)
neither (Some x) g e = cc

pub both_none : (f g : Option PatternFault) → f ≡ None → g ≡ None → or_else f g ≡ None
both_none None g e h = h
both_none (Some x) g e h = cc

pub answered_yes : (b : Bool) (f : PatternFault) → unless b f ≡ None → b ≡ true
answered_yes true f e = refl
answered_yes false f e = cc

-- whether there is no last piece
abbrev pub no_last : List Pattern → Bool
no_last [] = true
no_last (p ∷ ps) = false

-- What the questions rest on is what stands so far: as many brackets are open, and an atom is before where there is a last piece.
pub record Agrees (before : Option Part) (unclosed : List ℕ) (s : Standing) : Type 0 where
  pub many : length unclosed ≡ length s.around
  pub first : begins_behind before ≡ no_last s.here.pieces

pub no_last_again : (r : Repeat) (ps : List Pattern) → no_last ps ≡ false → no_last (again r ps) ≡ false
no_last_again r [] e = cc
no_last_again r (p ∷ ps) e = refl

pub not_true : (b : Bool) → not b ≡ true → b ≡ false
not_true true e = cc
not_true false e = refl

-- the first question of those that are left
pub first_yes : (b : Bool) (f : PatternFault) (g : Option PatternFault) → or_else (unless b f) g ≡ None → b ≡ true
first_yes b f g e = answered_yes b f (neither (unless b f) g e).0

module _ (before : Option Part) (unclosed : List ℕ) (s : Standing) (a : Agrees before unclosed s) (p : ℕ) where
  -- a sign that repeats has a last piece
  pub last_there : (n : PatternFault) (g : Option PatternFault) → or_else (unless (not (begins_behind before)) n) g ≡ None → no_last s.here.pieces ≡ false
  last_there n g e = sym a.first ∙ not_true (begins_behind before) (first_yes (not (begins_behind before)) n g e)

  agrees_shut : not (eqb (length unclosed) 0) ≡ true → Agrees (Some (sign 41)) (drop 1 unclosed) (shut s.here s.around)
  agrees_shut = by unclosed s.around a.many
    where
      by : (ps : List ℕ) (os : List Inside) → length ps ≡ length os → not (eqb (length ps) 0) ≡ true → Agrees (Some (sign 41)) (drop 1 ps) (shut s.here os)
      by [] os e q = cc
      by (x ∷ ps) [] e q = absurd (omega arith)
      by (x ∷ ps) (o ∷ os) e q = record { many = omega arith; first = refl }

  pub agrees_on : (m : Part) → Proper m → asked before (length unclosed) p m ≡ None → Agrees (Some m) (unclosed_behind p m unclosed) (grown m s)
  agrees_on (plain b) h e = record { many = a.many; first = refl }
  agrees_on (escape b) h e = record { many = a.many; first = refl }
  agrees_on (class body) h e = record { many = a.many; first = refl }
  agrees_on (sign c) h e =
      signs (λ n. asked before (length unclosed) p (sign n) ≡ None → Agrees (Some (sign n)) (unclosed_behind p (sign n) unclosed) (grown (sign n) s))
      (λ q. record { many = a.many; first = sym (no_last_again Star s.here.pieces (last_there _ _ q)) })
      (λ q. record { many = a.many; first = sym (no_last_again Plus s.here.pieces (last_there _ _ q)) })
      (λ q. record { many = a.many; first = sym (no_last_again Optional s.here.pieces (last_there _ _ q)) })
      (λ q. record { many = a.many; first = refl })
      (λ q. record { many = a.many; first = refl })
      (λ q. record { many = ap suc a.many; first = refl })
      (λ q. agrees_shut (first_yes _ _ _ q))
      c h e
