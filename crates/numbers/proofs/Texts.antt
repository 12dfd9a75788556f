-- The texts that lead from the first position to the end are the numbers. Assumes nothing.
use Rattle.std.proofs.Common.{◌≡◌, ℕ, ◌≤◌, true, false, leb, ◌↔◌, List, [], ◌∷◌, ◌++◌, sym, refl, ap, ◌∙◌, ap₂, inl, inr, arith}
use Rattle.std.proofs.lemmas.Bool.{both_ways, and_parts, and_from, eqb-true, leb-true, le-leb}
use Rattle.states.specs.Words.{some}
use Rattle.states.specs.Sets.{has_rule}
use Rattle.books.specs.Texts.{meets}
use Rattle.numbers.specs.Number.{Digits, Fraction, UnitMm, Number, digit, number_meaning}
use Rattle.numbers.proofs.Ways.{reads, reads_step, reads_ways, meets_reads}

-- ---- digits

digit_from : (c : ℕ) → digit c ≡ true → (48 ≤ c) × (c ≤ 57)
digit_from c e = let w = and_parts (leb 48 c) (leb c 57) e in (leb-true 48 c w.0, leb-true c 57 w.1)

digit_is : (c : ℕ) → (48 ≤ c) × (c ≤ 57) → digit c ≡ true
digit_is c h = and_from (leb 48 c) (leb c 57) (le-leb 48 c h.0) (le-leb c 57 h.1)

not_empty : (c : ℕ) (t : List ℕ) → c ∷ t ≡ [] → ⊥
not_empty c t e = let z : ◌≡◌ {A = ℕ} 0 1 = cc in omega arith

one_digit : (c : ℕ) → digit c ≡ true → Digits (c ∷ [])
one_digit c e = (not_empty c [], (digit_from c e, tt))

more_digits : (c : ℕ) (d : List ℕ) → digit c ≡ true → Digits d → Digits (c ∷ d)
more_digits c d e h = (not_empty c d, (digit_from c e, h.1))

-- ---- what each position reads, from the last back to the first

-- digits and a unit
abbrev Tail : List ℕ → Type 0
Tail t = (d : List ℕ) × (u : List ℕ) × (t ≡ d ++ u) × Digits d × UnitMm u

from_end : (t : List ℕ) → reads 5 t ≡ true → t ≡ []
from_end [] e = refl
from_end (c ∷ t) e = absurd (both_ways false refl e)

from_last_m : (t : List ℕ) → reads 4 t ≡ true → t ≡ 109 ∷ []
from_last_m [] e = absurd (both_ways false refl e)
from_last_m (c ∷ t) e = reads_ways 4 c t _ e (λ m. (λ r. ap₂ (λ (x : ℕ) (y : List ℕ). x ∷ y) (eqb-true c 109 m) (from_end t r), tt))

from_m : (t : List ℕ) → reads 3 t ≡ true → t ≡ 109 ∷ 109 ∷ []
from_m [] e = absurd (both_ways false refl e)
from_m (c ∷ t) e = reads_ways 3 c t _ e (λ m. (λ r. ap₂ (λ (x : ℕ) (y : List ℕ). x ∷ y) (eqb-true c 109 m) (from_last_m t r), tt))

from_tail : (t : List ℕ) → reads 2 t ≡ true → Tail t
from_tail [] e = absurd (both_ways false refl e)
from_tail (c ∷ t) e = reads_ways 2 c t (Tail (c ∷ t)) e (λ d. (
  λ r. let w = from_tail t r in (c ∷ w.0, w.1, ap (λ (x : List ℕ). c ∷ x) w.2, more_digits c w.0 d w.3, w.4),
  (
    λ r. (c ∷ [], t, refl, one_digit c d, inr (from_m t r)),
    (λ r. (c ∷ [], t, refl, one_digit c d, inl (from_end t r)), tt),
  ),
))

from_point : (t : List ℕ) → reads 1 t ≡ true → (s : List ℕ) × (t ≡ 46 ∷ s) × Tail s
from_point [] e = absurd (both_ways false refl e)
from_point (c ∷ t) e = reads_ways 1 c t ((s : List ℕ) × (c ∷ t ≡ 46 ∷ s) × Tail s) e
    (λ point. (λ r. (t, ap (λ (x : ℕ). x ∷ t) (eqb-true c 46 point), from_tail t r), tt))

from_start : (t : List ℕ) → reads 0 t ≡ true → Number t
from_start [] e = absurd (both_ways false refl e)
from_start (c ∷ t) e = reads_ways 0 c t (Number (c ∷ t)) e (λ d. (
  λ r. let w = from_start t r in (c ∷ w.0, w.1, w.2, ap (λ (x : List ℕ). c ∷ x) w.3, more_digits c w.0 d w.4, w.5, w.6),
  (
    λ r. let w = from_point t r in
        let s = w.2 in (
          c ∷ [],
          46 ∷ s.0,
          s.1,
          ap (λ (x : List ℕ). c ∷ x) (w.1 ∙ ap (λ (x : List ℕ). 46 ∷ x) s.2),
          one_digit c d,
          inr (s.0, refl, s.3),
          s.4,
        ),
    (
      λ r. (c ∷ [], [], t, refl, one_digit c d, inl refl, inr (from_m t r)),
      (λ r. (c ∷ [], [], t, refl, one_digit c d, inl refl, inl (from_end t r)), tt),
    ),
  ),
))

-- ---- and the other way

to_tail : (d u : List ℕ) → Digits d → UnitMm u → reads 2 (d ++ u) ≡ true
unfolding some
to_tail [] u digits unit = absurd (digits.0 refl)
to_tail (c ∷ x ∷ d) u digits unit =
    reads_step 2 c (x ∷ d ++ u) 2 (digit_is c digits.1.0) refl (to_tail (x ∷ d) u (not_empty x d, digits.1.1) unit)
to_tail (c ∷ []) u digits (inl none) = reads_step 2 c u 5 (digit_is c digits.1.0) refl (ap (reads 5) none)
to_tail (c ∷ []) u digits (inr mm) = reads_step 2 c u 3 (digit_is c digits.1.0) refl (ap (reads 3) mm)

to_start : (a b u : List ℕ) → Digits a → Fraction b → UnitMm u → reads 0 (a ++ (b ++ u)) ≡ true
unfolding some
to_start [] b u digits f unit = absurd (digits.0 refl)
to_start (c ∷ x ∷ a) b u digits f unit =
    reads_step 0 c (x ∷ a ++ (b ++ u)) 0 (digit_is c digits.1.0) refl (to_start (x ∷ a) b u (not_empty x a, digits.1.1) f unit)
to_start (c ∷ []) b u digits (inr f) unit =
    reads_step 0 c (b ++ u) 1 (digit_is c digits.1.0) refl
    (ap (λ (x : List ℕ). reads 1 (x ++ u)) f.1 ∙ reads_step 1 46 (f.0 ++ u) 2 refl refl (to_tail f.0 u f.2 unit))
to_start (c ∷ []) b u digits (inl none) (inl bare) =
    reads_step 0 c (b ++ u) 5 (digit_is c digits.1.0) refl (ap₂ (λ (x y : List ℕ). reads 5 (x ++ y)) none bare)
to_start (c ∷ []) b u digits (inl none) (inr mm) =
    reads_step 0 c (b ++ u) 3 (digit_is c digits.1.0) refl (ap₂ (λ (x y : List ℕ). reads 3 (x ++ y)) none mm)

pub reads_numbers : (t : List ℕ) → has_rule (meets number_meaning t) 0 ≡ true ↔ Number t
reads_numbers t = (
  λ e. from_start t (sym (meets_reads t) ∙ e),
  λ w. meets_reads t ∙ ap (reads 0) w.3 ∙ to_start w.0 w.1 w.2 w.4 w.5 w.6,
)
