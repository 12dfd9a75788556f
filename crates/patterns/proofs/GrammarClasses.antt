-- Classes in the grammar: their bytes do not depend on where the class stands, and its runs hold just these.
use Rattle.std.proofs.Common.{◌≡◌, ℕ, zero, suc, ◌-◌, ◌<◌, ◌≤◌, ◌≢◌, ◌⊎◌, Bool, true, false, cond, not, ◌&&◌, ◌||◌, eqb, ltb, leb, List, [], ◌∷◌, map, length, Some, None, Option, is_none, refl, sym, ap, ◌∙◌, inl, inr, ⊎_elim, arith, eqb-true}
use Rattle.std.proofs.lemmas.Bool.{cases_lt, both_ways, eqb-false}
use Rattle.std.proofs.lemmas.Bool.Decides.{Decides-below_or}
use Rattle.patterns.specs.declared.members.Member.{Member}
use Rattle.patterns.specs.declared.runs.Run.{Run}
use Rattle.patterns.specs.Classes.{members, alone, dash, spans, falling, covers, negated, inner, in_class, runs, grown}
use Rattle.patterns.specs.Grammar.{class_has, falling_in, some_below}
use Rattle.patterns.specs.Meaning.{InRuns, Apart, ClassRuns}
use Rattle.patterns.proofs.Running.{runs_none}

-- ---- without places

abbrev anywhere : Member → Member
anywhere m = record { value = m.value; place = 0; bare = m.bare }

members_anywhere : (n k : ℕ) (t : List ℕ) → map anywhere (members n t) ≡ map anywhere (members k t)
members_anywhere n k [] = refl
members_anywhere n k (b ∷ []) = refl
members_anywhere n k (b ∷ c ∷ t) = by (eqb b 92) (members_anywhere n k t) (members_anywhere n k (c ∷ t))
  where
    by : (e : Bool) → map anywhere (members n t) ≡ map anywhere (members k t) → map anywhere (members n (c ∷ t)) ≡ map anywhere (members k (c ∷ t))
        → map anywhere (cond e (record { value = c; place = n - suc (suc (length t)); bare = false } ∷ members n t)
        (record { value = b; place = n - suc (suc (length t)); bare = true } ∷ members n (c ∷ t)))
        ≡ map anywhere (cond e (record { value = c; place = k - suc (suc (length t)); bare = false } ∷ members k t)
        (record { value = b; place = k - suc (suc (length t)); bare = true } ∷ members k (c ∷ t)))
    by true x y = ap (λ ms. record { value = c; place = 0; bare = false } ∷ ms) x
    by false x y = ap (λ ms. record { value = b; place = 0; bare = true } ∷ ms) y

covers_anywhere : (x : ℕ) (ms : List Member) → covers (spans ms) x ≡ covers (spans (map anywhere ms)) x
covers_anywhere x [] = refl
covers_anywhere x (a ∷ []) = refl
covers_anywhere x (a ∷ d ∷ []) = refl
covers_anywhere x (a ∷ d ∷ b ∷ ms) = by (dash d) (covers_anywhere x ms) (covers_anywhere x (d ∷ b ∷ ms))
  where
    by : (e : Bool) → covers (spans ms) x ≡ covers (spans (map anywhere ms)) x → covers (spans (d ∷ b ∷ ms)) x ≡ covers (spans (map anywhere (d ∷ b ∷ ms))) x
        → covers (cond e (record { left = a; right = b } ∷ spans ms) (alone a ∷ spans (d ∷ b ∷ ms))) x
        ≡ covers (cond e (record { left = anywhere a; right = anywhere b } ∷ spans (map anywhere ms)) (alone (anywhere a) ∷ spans (map anywhere (d ∷ b ∷ ms)))) x
    by true p q = ap (λ t. (leb a.value x && leb x b.value) || t) p
    by false p q = ap (λ t. (leb a.value x && leb x a.value) || t) q

-- whether no span falls, and not where
none_or : (t : Bool) (x y : ℕ) (o o' : Option ℕ) → is_none o ≡ is_none o' → is_none (cond t (Some x) o) ≡ is_none (cond t (Some y) o')
none_or true x y o o' e = refl
none_or false x y o o' e = e

falling_anywhere : (ms : List Member) → is_none (falling (spans ms)) ≡ is_none (falling (spans (map anywhere ms)))
falling_anywhere [] = refl
falling_anywhere (a ∷ []) = none_or (ltb a.value a.value) a.place 0 None None refl
falling_anywhere (a ∷ d ∷ []) = none_or (ltb a.value a.value) a.place 0 _ _ (none_or (ltb d.value d.value) d.place 0 None None refl)
falling_anywhere (a ∷ d ∷ b ∷ ms) = by (dash d) (falling_anywhere ms) (falling_anywhere (d ∷ b ∷ ms))
  where
    by : (e : Bool) → is_none (falling (spans ms)) ≡ is_none (falling (spans (map anywhere ms)))
        → is_none (falling (spans (d ∷ b ∷ ms))) ≡ is_none (falling (spans (map anywhere (d ∷ b ∷ ms))))
        → is_none (falling (cond e (record { left = a; right = b } ∷ spans ms) (alone a ∷ spans (d ∷ b ∷ ms))))
        ≡ is_none (falling (cond e (record { left = anywhere a; right = anywhere b } ∷ spans (map anywhere ms)) (alone (anywhere a) ∷ spans (map anywhere (d ∷ b ∷ ms)))))
    by true p q = none_or (ltb b.value a.value) a.place 0 _ _ p
    by false p q = none_or (ltb a.value a.value) a.place 0 _ _ q

pub class_has_right : (n : ℕ) (body : List ℕ) (x : ℕ) → in_class n body x ≡ class_has body x
class_has_right n body x =
    ap (λ t. cond (negated body) (not t) t)
    (covers_anywhere x (members n (inner body)) ∙ ap (λ ms. covers (spans ms) x) (members_anywhere n (length body) (inner body))
    ∙ sym (covers_anywhere x (members (length body) (inner body))))

falls_alike : (n : ℕ) (body : List ℕ) → is_none (falling (spans (members n (inner body)))) ≡ is_none (falling_in body)
falls_alike n body =
    falling_anywhere (members n (inner body)) ∙ ap (λ ms. is_none (falling (spans ms))) (members_anywhere n (length body) (inner body))
    ∙ sym (falling_anywhere (members (length body) (inner body)))

from_none : (o : Option ℕ) → is_none o ≡ true → o ≡ None
from_none None e = refl
from_none (Some x) e = cc

pub rises_in : (n : ℕ) (body : List ℕ) → falling (spans (members n (inner body))) ≡ None → falling_in body ≡ None
rises_in n body e = from_none (falling_in body) (sym (falls_alike n body) ∙ ap is_none e)

pub rises_at : (n : ℕ) (body : List ℕ) → falling_in body ≡ None → falling (spans (members n (inner body))) ≡ None
rises_at n body e = from_none (falling (spans (members n (inner body)))) (falls_alike n body ∙ ap is_none e)

-- ---- whether there is a byte

module _ (f : ℕ → Bool) (n : ℕ) where
  pub some_there : some_below f n ≡ true → (c : ℕ) × (c < n) × (f c ≡ true)
  unfolding some_below
  some_there = (Decides-below_or f (λ k. f k ≡ true) (some_below f) (λ k. (λ e. e, λ e. e)) refl (λ _. refl) n).0

  pub there_some : (c : ℕ) → c < n → f c ≡ true → some_below f n ≡ true
  unfolding some_below
  there_some c l e = (Decides-below_or f (λ k. f k ≡ true) (some_below f) (λ k. (λ e. e, λ e. e)) refl (λ _. refl) n).1 (c, l, e)

  pub runs_empty : some_below f n ≡ false → runs f n ≡ []
  runs_empty e = runs_none f n (λ c l. by c l (f c) refl)
    where
      by : (c : ℕ) → c < n → (b : Bool) → f c ≡ b → f c ≡ false
      by c l true h = absurd (both_ways (some_below f n) e (there_some c l h))
      by c l false h = h

-- ---- runs

apart_suc : (n : ℕ) (rs : List Run) → Apart n rs → Apart (suc n) rs
apart_suc n [] h = tt
apart_suc n (r ∷ rs) (l, m, h) = (l, omega arith, h)

grown_apart : (n : ℕ) (rs : List Run) → Apart n rs → Apart (suc n) (grown n rs)
grown_apart n [] h = (omega arith, omega arith, tt)
grown_apart n (r ∷ rs) (l, m, h) = by (eqb (suc r.high) n) refl
  where
    by : (b : Bool) → eqb (suc r.high) n ≡ b → Apart (suc n) (cond b (record { low = r.low; high = n } ∷ rs) (record { low = n; high = n } ∷ r ∷ rs))
    by true e = (omega arith, omega arith, h)
    by false e = let d : suc r.high ≢ n = eqb-false (suc r.high) n e in (omega arith, omega arith, (l, omega arith, h))

pub runs_apart : (f : ℕ → Bool) (n : ℕ) → Apart n (runs f n)
unfolding runs
runs_apart f zero = tt
runs_apart f (suc n) = by (f n) (runs_apart f n)
  where
    by : (b : Bool) → Apart n (runs f n) → Apart (suc n) (cond b (grown n (runs f n)) (runs f n))
    by true h = grown_apart n (runs f n) h
    by false h = apart_suc n (runs f n) h

grown_in : (n : ℕ) (rs : List Run) (c : ℕ) → Apart n rs → InRuns (grown n rs) c → (c ≡ n) ⊎ InRuns rs c
grown_in n [] c h (inl (x, y)) = inl (omega arith)
grown_in n [] c h (inr k) = absurd k
grown_in n (r ∷ rs) c h k = by (eqb (suc r.high) n) refl k
  where
    by : (b : Bool) → eqb (suc r.high) n ≡ b → InRuns (cond b (record { low = r.low; high = n } ∷ rs) (record { low = n; high = n } ∷ r ∷ rs)) c
        → (c ≡ n) ⊎ InRuns (r ∷ rs) c
    by true e (inl (x, y)) =
        let a = eqb-true (suc r.high) n e in
        ⊎_elim (λ (l : c < n). inr (inl (x, omega arith))) (λ (l : n ≤ c). inl (omega arith)) (cases_lt c n)
    by true e (inr k) = inr (inr k)
    by false e (inl (x, y)) = inl (omega arith)
    by false e (inr k) = inr k

in_grown : (n : ℕ) (rs : List Run) (c : ℕ) → Apart n rs → (c ≡ n) ⊎ InRuns rs c → InRuns (grown n rs) c
in_grown n [] c h (inl e) = inl (omega arith, omega arith)
in_grown n [] c h (inr k) = absurd k
in_grown n (r ∷ rs) c (l, m, h) k = by (eqb (suc r.high) n) k
  where
    by : (b : Bool) → (c ≡ n) ⊎ InRuns (r ∷ rs) c → InRuns (cond b (record { low = r.low; high = n } ∷ rs) (record { low = n; high = n } ∷ r ∷ rs)) c
    by true (inl e) = inl (omega arith, omega arith)
    by true (inr (inl (x, y))) = inl (x, omega arith)
    by true (inr (inr k)) = inr k
    by false (inl e) = inl (omega arith, omega arith)
    by false (inr k) = inr k

-- the numbers of the runs are those below n that pass f
pub runs_pass : (f : ℕ → Bool) (n c : ℕ) → InRuns (runs f n) c → (c < n) × (f c ≡ true)
unfolding runs
runs_pass f zero c k = absurd k
runs_pass f (suc n) c k = by (f n) refl (runs_pass f n c) k
  where
    by : (b : Bool) → f n ≡ b → (InRuns (runs f n) c → (c < n) × (f c ≡ true)) → InRuns (cond b (grown n (runs f n)) (runs f n)) c → (c < suc n) × (f c ≡ true)
    by true e on k =
        ⊎_elim (λ (q : c ≡ n). (omega arith, ap f q ∙ e)) (λ (h : InRuns (runs f n) c). let (l, g) = on h in (omega arith, g))
        (grown_in n (runs f n) c (runs_apart f n) k)
    by false e on k = let (l, g) = on k in (omega arith, g)

pub pass_runs : (f : ℕ → Bool) (n c : ℕ) → c < n → f c ≡ true → InRuns (runs f n) c
unfolding runs
pass_runs f zero c l g = absurd (omega arith)
pass_runs f (suc n) c l g = by (f n) refl (pass_runs f n c) (cases_lt c n)
  where
    by : (b : Bool) → f n ≡ b → (c < n → f c ≡ true → InRuns (runs f n) c) → (c < n) ⊎ (n ≤ c) → InRuns (cond b (grown n (runs f n)) (runs f n)) c
    by true e on (inl h) = in_grown n (runs f n) c (runs_apart f n) (inr (on h g))
    by true e on (inr h) = in_grown n (runs f n) c (runs_apart f n) (inl (omega arith))
    by false e on (inl h) = on h g
    by false e on (inr h) =
        let q : c ≡ n = omega arith in
        absurd (both_ways (f n) e (sym (ap f q) ∙ g))

pub class_runs : ClassRuns
class_runs f = record { inside = λ c. (runs_pass f 256 c, λ (l, h). pass_runs f 256 c l h); apart = runs_apart f 256 }
