-- The first run of a set, and those behind it.
use Rattle.std.proofs.Common.{◌≡◌, ℕ, zero, suc, ◌+◌, ◌-◌, ◌<◌, ◌≤◌, Bool, true, false, cond, ◌&&◌, eqb, ltb, List, [], ◌∷◌, ◌++◌, reverse, sym, refl, ap, ◌∙◌, subst, arith, ne_eqb}
use Rattle.std.proofs.lemmas.Bool.{and_right, lt-ltb, le-ltb, eq-eqb}
use Rattle.std.proofs.Math.Bool.{and-true}
use Rattle.std.proofs.lemmas.List.{reverse-append}
use Rattle.states.specs.Sets.{State, has}
use Rattle.states.proofs.Members.{has_above}
use Rattle.patterns.specs.declared.runs.Run.{Run}
use Rattle.patterns.specs.Classes.{runs, grown}

-- All numbers from low to high pass f, and none below; those that pass g are the others above.
pub record Reached (f g : ℕ → Bool) (low high : ℕ) : Type 0 where
  pub rising : low ≤ high
  pub below : (p : ℕ) → p < low → f p ≡ false
  pub inside : (p : ℕ) → low ≤ p → p ≤ high → f p ≡ true
  pub others : (p : ℕ) → g p ≡ (f p && ltb high p)

-- the run of the numbers from low to high
abbrev pub run : ℕ → ℕ → Run
run low high = record { low = low; high = high }

pub runs_none : (f : ℕ → Bool) (n : ℕ) → ((p : ℕ) → p < n → f p ≡ false) → runs f n ≡ []
unfolding runs
runs_none f zero h = refl
runs_none f (suc n) h = let e = h n (omega arith) in simp e (runs_none f n (λ p l. h p (omega arith)))

module _ (f g : ℕ → Bool) (low high : ℕ) (r : Reached f g low high) (ends : f (suc high) ≡ false) where
  first_run : (k : ℕ) → low + k ≤ high → runs f (suc (low + k)) ≡ run low (low + k) ∷ []
  unfolding runs
  first_run zero l =
      let e = r.inside low (omega arith) (omega arith) in
      let z : low + 0 ≡ low = omega arith in
      subst (λ n. runs f (suc n) ≡ run low n ∷ []) (sym z) (simp e (ap (grown low) (runs_none f low r.below)))
  first_run (suc k) l =
      let z : low + suc k ≡ suc (low + k) = omega arith in
      let e = r.inside (suc (low + k)) (omega arith) (omega arith) in
      let q = eq-eqb (suc (low + k)) (suc (low + k)) refl in
      subst (λ n. runs f (suc n) ≡ run low n ∷ []) (sym z) (simp e (ap (grown (suc (low + k))) (first_run k (omega arith)) ∙ simp q))

  none_other : runs g (suc high) ≡ []
  none_other = runs_none g (suc high) (λ p l. r.others p ∙ and_right (f p) (ltb high p) (le-ltb high p (omega arith)))

  -- a number above the run and not right behind it
  grown_apart : (n : ℕ) (xs : List Run) → suc high < n → grown n (xs ++ run low high ∷ []) ≡ grown n xs ++ run low high ∷ []
  grown_apart n [] l = let e = ne_eqb (suc high) n (λ e. omega arith) in simp e
  grown_apart n (x ∷ xs) l = by (eqb (suc x.high) n) refl
    where
      by : (b : Bool) → eqb (suc x.high) n ≡ b → grown n ((x ∷ xs) ++ run low high ∷ []) ≡ grown n (x ∷ xs) ++ run low high ∷ []
      by true q = simp q
      by false q = simp q

  apart : (k : ℕ) → runs f (suc high + k) ≡ runs g (suc high + k) ++ run low high ∷ []
  unfolding runs
  apart zero =
      let z : suc high + 0 ≡ suc high = omega arith in
      let w : low + (high - low) ≡ high = omega (arith, r.rising) in
      subst (λ n. runs f n ≡ runs g n ++ run low high ∷ []) (sym z)
      (subst (λ n. runs f (suc n) ≡ run low n ∷ []) w (first_run (high - low) (omega arith)) ∙ sym (ap (λ xs. xs ++ run low high ∷ []) none_other))
  apart (suc k) =
      let z : suc high + suc k ≡ suc (suc high + k) = omega arith in
      let same : g (suc high + k) ≡ f (suc high + k) = let e = lt-ltb high (suc high + k) (omega arith) in r.others (suc high + k) ∙ simp e (and-true (f (suc high + k))) in
      subst (λ n. runs f n ≡ runs g n ++ run low high ∷ []) (sym z) (by k (f (suc high + k)) refl same (apart k))
    where
      by : (k : ℕ) (b : Bool) → f (suc high + k) ≡ b → g (suc high + k) ≡ f (suc high + k) → runs f (suc high + k) ≡ runs g (suc high + k) ++ run low high ∷ []
          → runs f (suc (suc high + k)) ≡ runs g (suc (suc high + k)) ++ run low high ∷ []
      by k false e s h = let t = s ∙ e in simp (e, t) h
      by zero true e s h = let z : suc high + 0 ≡ suc high = omega arith in let q : true ≡ false = sym e ∙ ap f z ∙ ends in cc
      by (suc k) true e s h =
          let t = s ∙ e in simp (e, t) (ap (grown (suc high + suc k)) h ∙ grown_apart (suc high + suc k) (runs g (suc high + suc k)) (omega arith))

  pub runs_split : (n : ℕ) → high < n → runs f n ≡ runs g n ++ run low high ∷ []
  runs_split n l = let z : suc high + (n - suc high) ≡ n = omega arith in subst (λ m. runs f m ≡ runs g m ++ run low high ∷ []) z (apart (n - suc high))

pub runs_same : (f g : ℕ → Bool) (n : ℕ) → ((x : ℕ) → x < n → f x ≡ g x) → runs f n ≡ runs g n
unfolding runs
runs_same f g zero e = refl
runs_same f g (suc n) e =
    ap (λ t. cond t (grown n (runs f n)) (runs f n)) (e n (omega arith)) ∙ ap (λ rs. cond (g n) (grown n rs) rs) (runs_same f g n (λ x l. e x (omega arith)))

-- the first run of s, where the set t has the members above it
module _ (s t : State) (low high : ℕ) (r : Reached (has s) (has t) low high) where
  pub next_run : high ≤ 255 → has t (high + 1) ≡ false → reverse (runs (has s) 256) ≡ run low high ∷ reverse (runs (has t) 256)
  next_run l e =
      let z : suc high ≡ high + 1 = omega arith in
      let more = lt-ltb high (high + 1) (omega arith) in
      let ends : has s (high + 1) ≡ false = sym (r.others (high + 1) ∙ ap (λ b. has s (high + 1) && b) more ∙ and-true (has s (high + 1))) ∙ e in
      ap reverse (runs_split (has s) (has t) low high r (ap (has s) z ∙ ends) 256 (omega arith)) ∙ reverse-append (runs (has t) 256) (run low high ∷ [])

  pub last_run : high ≡ 255 → reverse (runs (has s) 256) ≡ run low high ∷ reverse (runs (has t) 256)
  last_run e = next_run (omega arith) (has_above t (high + 1) (omega arith))

pub no_run : (s : State) → ((p : ℕ) → has s p ≡ false) → reverse (runs (has s) 256) ≡ []
no_run s h = ap reverse (runs_none (has s) 256 (λ p l. h p))
