-- How the reading of a text goes on, mark by mark.
use Rattle.std.proofs.Common.{◌≡◌, ℕ, zero, suc, ◌-◌, ◌<◌, ◌≤◌, List, [], ◌∷◌, length, drop, Ok, Err, sym, refl, ap, ◌∙◌, arith, length-drop}
use Rattle.patterns.specs.declared.faults.PatternFault.{PatternFault}
use Rattle.patterns.specs.declared.marks.Mark.{Mark}
use Rattle.patterns.specs.declared.text.Text.{Text}
use Rattle.patterns.specs.Marks.{Part, plain, escape, class, sign, width, cut, part_of, Marked}
use Rattle.patterns.specs.Reading.{Level, Open, step, turn, onward, read, finished}

-- the rest of a mark is passed
read_skip : (size : ℕ) (l : Level) (os : List Open) (k : ℕ) (t : List ℕ) → read size l os k t ≡ read size l os 0 (drop k t)
unfolding read
read_skip size l os zero t = refl
read_skip size l os (suc k) [] = refl
read_skip size l os (suc k) (b ∷ t) = read_skip size l os k t

wide : (m : Part) → 1 ≤ width m
wide (plain b) = omega arith
wide (escape b) = omega arith
wide (class body) = omega arith
wide (sign c) = omega arith

drop_less : (w b : ℕ) (t : List ℕ) → 1 ≤ w → drop (w - 1) t ≡ drop w (b ∷ t)
drop_less zero b t h = absurd (omega arith)
drop_less (suc w) b t h = ap (λ n. drop n t) (let z : suc w - 1 ≡ w = omega arith in z)

module _ (size : ℕ) (l : Level) (os : List Open) where
  -- a mark that gets no refusal
  pub read_mark : (b : ℕ) (t : List ℕ) (m : Part) (l' : Level) (os' : List Open) → cut (size - suc (length t)) b t ≡ Ok m
      → step (size - suc (length t)) m l os ≡ Ok (l', os') → read size l os 0 (b ∷ t) ≡ read size l' os' 0 (drop (width m) (b ∷ t))
  unfolding read
  read_mark b t m l' os' c s =
      ap (turn (λ x y k. read size x y k t) l os (size - suc (length t))) c
      ∙ ap (onward (λ x y k. read size x y k t) (width m - 1)) s
      ∙ read_skip size l' os' (width m - 1) t
      ∙ ap (read size l' os' 0) (drop_less (width m) b t (wide m))

  pub read_uncut : (b : ℕ) (t : List ℕ) (f : PatternFault) → cut (size - suc (length t)) b t ≡ Err f → read size l os 0 (b ∷ t) ≡ Err f
  unfolding read
  read_uncut b t f c = ap (turn (λ x y k. read size x y k t) l os (size - suc (length t))) c

  pub read_refused : (b : ℕ) (t : List ℕ) (m : Part) (f : PatternFault) → cut (size - suc (length t)) b t ≡ Ok m
      → step (size - suc (length t)) m l os ≡ Err f → read size l os 0 (b ∷ t) ≡ Err f
  unfolding read
  read_refused b t m f c s =
      ap (turn (λ x y k. read size x y k t) l os (size - suc (length t))) c ∙ ap (onward (λ x y k. read size x y k t) (width m - 1)) s

  pub read_end : read size l os 0 [] ≡ finished l os
  unfolding read
  read_end = refl

  -- the same of a mark that the code tells
  pub marked_on : (t : List ℕ) (m : Mark) (u : Text) (l' : Level) (os' : List Open) → 0 < length t → Marked (size - length t) t (Ok (m, u))
      → step (size - length t) (part_of m) l os ≡ Ok (l', os') → read size l os 0 t ≡ read size l' os' 0 u.bytes.now
  marked_on [] m u l' os' h k s = absurd (omega arith)
  marked_on (b ∷ t) m u l' os' h k s = read_mark b t (part_of m) l' os' k.0 s ∙ ap (read size l' os' 0) (sym k.1)

  pub marked_no : (t : List ℕ) (m : Mark) (u : Text) (f : PatternFault) → 0 < length t → Marked (size - length t) t (Ok (m, u))
      → step (size - length t) (part_of m) l os ≡ Err f → read size l os 0 t ≡ Err f
  marked_no [] m u f h k s = absurd (omega arith)
  marked_no (b ∷ t) m u f h k s = read_refused b t (part_of m) f k.0 s

  pub unmarked_no : (t : List ℕ) (f : PatternFault) → 0 < length t → Marked (size - length t) t (Err f) → read size l os 0 t ≡ Err f
  unmarked_no [] f h k = absurd (omega arith)
  unmarked_no (b ∷ t) f h k = read_uncut b t f k

-- what is behind a mark is shorter
pub marked_shorter : (p : ℕ) (t : List ℕ) (m : Mark) (u : Text) → 0 < length t → Marked p t (Ok (m, u)) → length u.bytes.now < length t
marked_shorter p [] m u h k = absurd (omega arith)
marked_shorter p (b ∷ t) m u h k =
    let w = wide (part_of m) in
    let e = ap length k.1 ∙ length-drop (width (part_of m)) (b ∷ t) in
    omega arith
