-- The members of a set one by one, in rising order. Assumes nothing.
use Rattle.std.proofs.Common.{◌≡◌, ℕ, zero, suc, ◌+◌, ◌*◌, ◌<◌, ◌≤◌, Bool, true, false, cond, not, ◌&&◌, ◌||◌, List, [], ◌∷◌, Option, Some, None, eqb, Decides, sym, refl, ap, ◌∙◌, subst, ap₂, inl, inr, arith, map-id}
use Rattle.std.specs.List.{filter, list_any, range_with_len}
use Rattle.std.specs.Iterator.{YieldsFirst, Yields}
use Rattle.std.proofs.lemmas.Iterator.Consumers.{YieldsList-from_first, YieldsList-end}
use Rattle.std.proofs.lemmas.Bool.{cases_eq, both_ways, and_parts, and_from, or_cases, or_left, or_right, eqb-true, eq-eqb, ne_eqb}
use Rattle.std.proofs.lemmas.Bool.Decides.{same_from_decides}
use Rattle.std.proofs.Math.Bool.{and-true}
use Rattle.states.specs.declared.iter.Iter.{Iter}
use Rattle.states.specs.declared.set.Set.{Set}
use Rattle.states.specs.Sets.{has, members}
use Rattle.states.specs.Words.{Least, Popped, Gathers}
use Rattle.states.proofs.Members.{member_below}

-- ---- the numbers that pass a test, in rising order

passing_same : (f g : ℕ → Bool) (a k : ℕ) → ((q : ℕ) → a ≤ q → f q ≡ g q) → filter f (range_with_len a k) ≡ filter g (range_with_len a k)
passing_same f g a zero h = refl
passing_same f g a (suc k) h =
    ap₂ (λ (t : Bool) (xs : List ℕ). cond t (a ∷ xs) xs) (h a (omega arith)) (passing_same f g (a + 1) k (λ q l. h q (omega arith)))

passing_none : (f : ℕ → Bool) (a k : ℕ) → ((q : ℕ) → f q ≡ false) → filter f (range_with_len a k) ≡ []
passing_none f a zero h = refl
passing_none f a (suc k) h = ap (λ (t : Bool). cond t (a ∷ filter f (range_with_len (a + 1) k)) (filter f (range_with_len (a + 1) k))) (h a) ∙ passing_none f (a + 1) k h

-- g is f without m, the least that passes
passing_first : (f g : ℕ → Bool) (m a k : ℕ) → a ≤ m → m < a + k → Least f m → ((q : ℕ) → g q ≡ (f q && not (eqb q m)))
    → filter f (range_with_len a k) ≡ m ∷ filter g (range_with_len a k)
passing_first f g m a zero low high least gone = absurd (omega arith)
passing_first f g m a (suc k) low high least gone =
    let r = range_with_len (a + 1) k in
    elim (cases_eq a m) [
      | inl e ↦ (
          let fa : f a ≡ true = ap f e ∙ least.member in
          let ga : g a ≡ false = gone a ∙ ap₂ (λ (x y : Bool). x && not y) fa (eq-eqb a m e) in
          let rest : filter f r ≡ filter g r = passing_same f g (a + 1) k (λ q l. sym (gone q ∙ ap (λ (t : Bool). f q && not t) (ne_eqb q m (λ h. absurd (omega arith))) ∙ and-true (f q))) in
          ap (λ (t : Bool). cond t (a ∷ filter f r) (filter f r)) fa ∙ ap₂ (λ (x : ℕ) (xs : List ℕ). x ∷ xs) e rest
          ∙ sym (ap (λ (t : Bool). m ∷ cond t (a ∷ filter g r) (filter g r)) ga))
      | inr d ↦ (
          let fa : f a ≡ false = least.first a (omega arith) in
          let ga : g a ≡ false = gone a ∙ ap (λ (t : Bool). t && not (eqb a m)) fa in
          ap (λ (t : Bool). cond t (a ∷ filter f r) (filter f r)) fa ∙ passing_first f g m (a + 1) k (omega arith) (omega arith) least gone
          ∙ sym (ap (λ (t : Bool). m ∷ cond t (a ∷ filter g r) (filter g r)) ga))
    ]

-- ---- what `pop_lowest` takes out is the first of the members

pub popped_first : {n : ℕ} (s t : Set n) (r : Option ℕ) → Popped has (64 * n) s t r → YieldsFirst members s r t
unfolding members
popped_first {n} s t None p = let e = passing_none (has s) 0 (64 * n) p.0 in (e, subst (λ (u : Set n). filter (has u) (range_with_len 0 (64 * n)) ≡ []) (sym p.1) e)
popped_first {n} s t (Some m) p =
    let below = member_below s m p.0.member in
    passing_first (has s) (has t) m 0 (64 * n) (omega arith) (omega arith) p.0 p.1

-- ---- whether some member passes a test

any_passing : (f T : ℕ → Bool) (xs : List ℕ) → list_any T (filter f xs) ≡ list_any (λ p. f p && T p) xs
any_passing f T [] = refl
any_passing f T (x ∷ xs) = by (f x) (any_passing f T xs)
  where
    by : (t : Bool) → list_any T (filter f xs) ≡ list_any (λ p. f p && T p) xs
        → list_any T (cond t (x ∷ filter f xs) (filter f xs)) ≡ ((t && T x) || list_any (λ p. f p && T p) xs)
    by true e = ap (λ (b : Bool). T x || b) e
    by false e = e

any_in_range : (h : ℕ → Bool) (a k : ℕ) → Decides (list_any h (range_with_len a k)) ((p : ℕ) × (a ≤ p) × (p < a + k) × (h p ≡ true))
any_in_range h a zero = (λ e. absurd (both_ways _ refl e), λ w. absurd (omega (arith, w.1, w.2)))
any_in_range h a (suc k) =
    let rest = any_in_range h (a + 1) k in (
      λ e. elim (or_cases (h a) (list_any h (range_with_len (a + 1) k)) e) [
        | inl here ↦ (a, omega arith, omega arith, here)
        | inr there ↦ (let w = rest.0 there in (w.0, omega (arith, w.1), omega (arith, w.2), w.3))
      ],
      λ w. elim (cases_eq w.0 a) [
        | inl e ↦ or_left _ _ (ap h (sym e) ∙ w.3)
        | inr d ↦ or_right (h a) _ (rest.1 (w.0, omega (arith, w.1, d), omega (arith, w.2), w.3))
      ],
    )

-- some member passes T exactly where one of the listed members does
pub any_member : {n : ℕ} (s : Set n) (T : ℕ → Bool) → Decides (list_any T (members s)) ((p : ℕ) × (has s p ≡ true) × (T p ≡ true))
unfolding members
any_member {n} s T =
    let same = any_passing (has s) T (range_with_len 0 (64 * n)) in
    let d = any_in_range (λ p. has s p && T p) 0 (64 * n) in (
      λ e. let w = d.0 (sym same ∙ e) in let b = and_parts (has s w.0) (T w.0) w.3 in (w.0, b.0, b.1),
      λ w. let below = member_below s w.0 w.1 in same ∙ d.1 (w.0, omega arith, omega arith, and_from (has s w.0) (T w.0) w.1 w.2),
    )

-- p is listed exactly where it is a member
pub listed_is : {n : ℕ} (s : Set n) (p : ℕ) → list_any (λ x. eqb x p) (members s) ≡ has s p
listed_is s p = same_from_decides _ (has s p) (any_member s (λ x. eqb x p)) (
  λ e. (p, e, eq-eqb p p refl),
  λ w. subst (λ (x : ℕ). has s x ≡ true) (eqb-true w.0 p w.2) w.1,
)

-- ---- a `for p in s.members()`, whose invariant speaks of the numbers that came so far, `l.yielded`

-- where it ends, all members came
pub all_came : {n : ℕ} (s : Set n) (i : Iter n) → i.rest ≡ s → (xs : List ℕ) (t : Iter n) → Yields (YieldsFirst (λ (j : Iter n). members j.rest)) i xs t
    → (r : Option ℕ) (u : Iter n) → r ≡ None → YieldsFirst (λ (j : Iter n). members j.rest) t r u → xs ≡ members s
all_came {n} s i e xs t came r u is end =
    sym (map-id xs) ∙ (YieldsList-end (YieldsList-from_first (λ x. x) (λ (j : Iter n). members j.rest) (members s) (ap (λ (w : Set n). members w) e)) xs t came r u is end).0

-- where the invariant says that `out` holds what some number so far gives, it ends with the union over the members
pub gathers_all : {n : ℕ} (s : Set n) (T : ℕ → ℕ → Bool) (out : ℕ → Bool) (xs : List ℕ) → xs ≡ members s
    → ((q : ℕ) → out q ≡ list_any (λ p. T p q) xs) → Gathers T (has s) out
gathers_all s T out xs e is q =
    let d = any_member s (λ p. T p q) in
    let same = is q ∙ ap (list_any (λ p. T p q)) e in
    (λ h. d.0 (sym same ∙ h), λ w. same ∙ d.1 w)
