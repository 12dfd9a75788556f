-- How the reading of what is left of a text goes on behind a mark, from any level.
use Rattle.std.proofs.Common.{◌≡◌, ℕ, suc, ◌+◌, ◌-◌, ◌<◌, Bool, true, false, eqb, List, [], ◌∷◌, length, Some, None, Ok, Err, sym, refl, ap, ◌∙◌, subst, arith, length-drop}
use Rattle.std.proofs.lemmas.Bool.{eqb-true}
use Rattle.patterns.specs.declared.faults.PatternFault.{PatternFault}
use Rattle.patterns.specs.declared.marks.Mark.{Mark}
use Rattle.patterns.specs.declared.marks.Repeat.{Repeat}
use Rattle.patterns.specs.declared.text.Text.{Text}
use Rattle.patterns.specs.Marks.{sign, width, cut, part_of, Marked, repeat_of}
use Rattle.patterns.specs.Reading.{Level, Open, step, read, finished}
use Rattle.patterns.specs.Parsing.{reads, Behind}
use Rattle.patterns.proofs.Readings.{marked_on, marked_no, unmarked_no, read_mark, read_end}

-- what is behind a mark ends where the text ends
same_end : (p : ℕ) (t : List ℕ) (m : Mark) (u : Text) → 0 < length t → Marked p t (Ok (m, u)) → p + length t ≡ u.place + length u.bytes.now
same_end p [] m u h k = absurd (omega arith)
same_end p (b ∷ t) m u h k = let e = ap length k.1 ∙ length-drop (width (part_of m)) (b ∷ t) in omega (arith, k.2, k.4)

module _ (t : Text) (l : Level) (os : List Open) (h : 0 < length t.bytes.now) where
  at_place : t.place + length t.bytes.now - length t.bytes.now ≡ t.place
  at_place = omega arith

  -- a mark that gets no refusal
  pub mark_on : (m : Mark) (u : Text) (l' : Level) (os' : List Open) → Marked t.place t.bytes.now (Ok (m, u))
      → step t.place (part_of m) l os ≡ Ok (l', os') → reads t l os ≡ reads u l' os'
  mark_on m u l' os' k s =
      marked_on (t.place + length t.bytes.now) l os t.bytes.now m u l' os' h (subst (λ p. Marked p t.bytes.now (Ok (m, u))) (sym at_place) k)
      (subst (λ p. step p (part_of m) l os ≡ Ok (l', os')) (sym at_place) s)
      ∙ ap (λ n. read n l' os' 0 u.bytes.now) (same_end t.place t.bytes.now m u h k)

  pub mark_no : (m : Mark) (u : Text) (f : PatternFault) → Marked t.place t.bytes.now (Ok (m, u)) → step t.place (part_of m) l os ≡ Err f → reads t l os ≡ Err f
  mark_no m u f k s =
      marked_no (t.place + length t.bytes.now) l os t.bytes.now m u f h (subst (λ p. Marked p t.bytes.now (Ok (m, u))) (sym at_place) k)
      (subst (λ p. step p (part_of m) l os ≡ Err f) (sym at_place) s)

  pub no_mark : (f : PatternFault) → Marked t.place t.bytes.now (Err f) → reads t l os ≡ Err f
  no_mark f k = unmarked_no (t.place + length t.bytes.now) l os t.bytes.now f h (subst (λ p. Marked p t.bytes.now (Err f)) (sym at_place) k)

-- a byte that is cut off as a sign
module _ (t : Text) (b : ℕ) (u : Text) (k : Behind t b u) (c : (p : ℕ) → cut p b u.bytes.now ≡ Ok (sign b)) (l : Level) (os : List Open) where
  end_before : t.place + length t.bytes.now ≡ t.place + suc (length u.bytes.now)
  end_before = ap (λ s. t.place + length s) k.bytes

  sign_place : t.place + suc (length u.bytes.now) - suc (length u.bytes.now) ≡ t.place
  sign_place = omega arith

  end_behind : t.place + suc (length u.bytes.now) ≡ u.place + length u.bytes.now
  end_behind = omega (arith, k.place)

  began : reads t l os ≡ read (t.place + suc (length u.bytes.now)) l os 0 (b ∷ u.bytes.now)
  began = ap (λ n. read n l os 0 t.bytes.now) end_before ∙ ap (read (t.place + suc (length u.bytes.now)) l os 0) k.bytes

  pub sign_on : (l' : Level) (os' : List Open) → step t.place (sign b) l os ≡ Ok (l', os') → reads t l os ≡ reads u l' os'
  sign_on l' os' s =
      began
      ∙ read_mark (t.place + suc (length u.bytes.now)) l os b u.bytes.now (sign b) l' os' (c _) (ap (λ p. step p (sign b) l os) sign_place ∙ s)
      ∙ ap (λ n. read n l' os' 0 u.bytes.now) end_behind

-- nothing is left
pub at_end : (t : Text) (l : Level) (os : List Open) → t.bytes.now ≡ [] → reads t l os ≡ finished l os
at_end t l os e =
    ap (λ s. read (t.place + length s) l os 0 s) e ∙ read_end (t.place + 0) l os

-- a sign that repeats is cut off as one
pub repeat_cut : (p b : ℕ) (t : List ℕ) (r : Repeat) → repeat_of b ≡ Some r → cut p b t ≡ Ok (sign b)
repeat_cut p b t r e = by (eqb b 42) (eqb b 43) (eqb b 63) refl refl refl
  where
    as_sign : (n : ℕ) → b ≡ n → cut p n t ≡ Ok (sign n) → cut p b t ≡ Ok (sign b)
    as_sign n q c = subst (λ x. cut p x t ≡ Ok (sign x)) (sym q) c

    by : (x y z : Bool) → eqb b 42 ≡ x → eqb b 43 ≡ y → eqb b 63 ≡ z → cut p b t ≡ Ok (sign b)
    by true y z f g h = as_sign 42 (eqb-true b 42 f) refl
    by false true z f g h = as_sign 43 (eqb-true b 43 g) refl
    by false false true f g h = as_sign 63 (eqb-true b 63 h) refl
    by false false false f g h = let n : repeat_of b ≡ None = simp (f, g, h) in cc
