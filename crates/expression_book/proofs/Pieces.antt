-- What expressions own, follow and take, one command after another, for any tests that say so. Assumes nothing.
use Rattle.std.proofs.Common.{◌≡◌, ℕ, ◌≤◌, Bool, ◌&&◌, ◌||◌, eqb, leb, ◌⊎◌, List, ◌∷◌, Decides, sym, subst, inl, inr}
use Rattle.std.proofs.lemmas.Bool.{leb-true, le-leb}
use Rattle.std.proofs.lemmas.Bool.Decides.{Decides-eqb, Decides-at, Decides-like, Decides-and, Decides-or}
use Rattle.expressions.specs.Expression.{empty, symbol, join, either, star, plus, optional, Labelled}
use Rattle.expressions.specs.Positions.{Owns, Disjoint, Takes, First, Last, Follow}
use Rattle.expression_book.specs.Building.{Any, Separate, Tabled}

-- the same by tests that agree
pub tabled_at : (U U' : ℕ → Bool) (F F' C C' : ℕ → ℕ → Bool) (es : List Labelled) → ((p : ℕ) → U' p ≡ U p) → ((p q : ℕ) → F' p q ≡ F p q)
    → ((p c : ℕ) → C' p c ≡ C p c) → Tabled U F C es → Tabled U' F' C' es
tabled_at U U' F F' C C' es u f c t = record {
  used = λ p. Decides-at (U' p) (U p) (u p) (t.used p);
  follows = λ p q. Decides-at (F' p q) (F p q) (f p q) (t.follows p q);
  codes = λ p x. Decides-at (C' p x) (C p x) (c p x) (t.codes p x);
}

-- ---- alternatives in another order

alike : {P Q : Type 0} {r : Bool} → (P → Q) → (Q → P) → Decides r P → Decides r Q
alike {P} {Q} {r} f g d = Decides-like r f g d

none_to : {D : Type 0} → ⊥ ⊎ D → D
none_to (inl x) = absurd x
none_to (inr d) = d

either_to : {A B D : Type 0} → B ⊎ (A ⊎ D) → (A ⊎ B) ⊎ D
either_to (inl b) = inl (inr b)
either_to (inr (inl a)) = inl (inl a)
either_to (inr (inr d)) = inr d

either_from : {A B D : Type 0} → (A ⊎ B) ⊎ D → B ⊎ (A ⊎ D)
either_from (inl (inl a)) = inr (inl a)
either_from (inl (inr b)) = inl b
either_from (inr d) = inr (inr d)

join_to : {A B C D : Type 0} → (B ⊎ (A ⊎ D)) ⊎ C → (A ⊎ (B ⊎ C)) ⊎ D
join_to (inl (inl b)) = inl (inr (inl b))
join_to (inl (inr (inl a))) = inl (inl a)
join_to (inl (inr (inr d))) = inr d
join_to (inr c) = inl (inr (inr c))

join_from : {A B C D : Type 0} → (A ⊎ (B ⊎ C)) ⊎ D → (B ⊎ (A ⊎ D)) ⊎ C
join_from (inl (inl a)) = inl (inr (inl a))
join_from (inl (inr (inl b))) = inl (inl b)
join_from (inl (inr (inr c))) = inr c
join_from (inr d) = inl (inr (inr d))

round_to : {A C D : Type 0} → (A ⊎ D) ⊎ C → (A ⊎ C) ⊎ D
round_to (inl (inl a)) = inl (inl a)
round_to (inl (inr d)) = inr d
round_to (inr c) = inl (inr c)

round_from : {A C D : Type 0} → (A ⊎ C) ⊎ D → (A ⊎ D) ⊎ C
round_from (inl (inl a)) = inl (inl a)
round_from (inl (inr c)) = inr c
round_from (inr d) = inl (inr d)

-- ---- one command

-- the firsts become followers of the lasts
abbrev pub linked : (ℕ → ℕ → Bool) → (ℕ → Bool) → (ℕ → Bool) → ℕ → ℕ → Bool
linked F L I p q = F p q || (L p && I q)

-- a code from low to high
abbrev pub ranged : ℕ → ℕ → ℕ → Bool
ranged low high c = leb low c && leb c high

decides_leb : (a b : ℕ) → Decides (leb a b) (a ≤ b)
decides_leb a b = (leb-true a b, le-leb a b)

decides_code : (l low high p c : ℕ) → Decides (eqb l p && ranged low high c) (Takes (symbol l low high) p c)
decides_code l low high p c =
    alike (λ (x : (l ≡ p) × ((low ≤ c) × (c ≤ high))). (x.0, x.1.0, x.1.1)) (λ x. (x.0, (x.1, x.2)))
    (Decides-and (eqb l p) (ranged low high c) (Decides-eqb l p) (Decides-and (leb low c) (leb c high) (decides_leb low c) (decides_leb c high)))

module _ (U : ℕ → Bool) (F C : ℕ → ℕ → Bool) (es : List Labelled) where
  pub tabled_empty : Tabled U F C es → Tabled U F C (empty ∷ es)
  tabled_empty t = record {
    used = λ p. alike inr none_to (t.used p);
    follows = λ p q. alike inr none_to (t.follows p q);
    codes = λ p c. alike inr none_to (t.codes p c);
  }

  pub tabled_symbol : (l low high : ℕ) → Tabled U F C es
      → Tabled (λ p. eqb l p || U p) F (λ p c. (eqb l p && ranged low high c) || C p c) (symbol l low high ∷ es)
  tabled_symbol l low high t = record {
    used = λ p. Decides-or (eqb l p) (U p) (Decides-eqb l p) (t.used p);
    follows = λ p q. alike inr none_to (t.follows p q);
    codes = λ p c. Decides-or (eqb l p && ranged low high c) (C p c) (decides_code l low high p c) (t.codes p c);
  }

  pub tabled_join : (a b : Labelled) (L I : ℕ → Bool) → ((p : ℕ) → Decides (L p) (Last a p)) → ((p : ℕ) → Decides (I p) (First b p))
      → Tabled U F C (b ∷ a ∷ es) → Tabled U (linked F L I) C (join a b ∷ es)
  tabled_join a b L I h k t = record {
    used = λ p. alike either_to either_from (t.used p);
    follows = λ p q. alike join_to join_from (Decides-or (F p q) (L p && I q) (t.follows p q) (Decides-and (L p) (I q) (h p) (k q)));
    codes = λ p c. alike either_to either_from (t.codes p c);
  }

  pub tabled_either : (a b : Labelled) → Tabled U F C (b ∷ a ∷ es) → Tabled U F C (either a b ∷ es)
  tabled_either a b t = record {
    used = λ p. alike either_to either_from (t.used p);
    follows = λ p q. alike either_to either_from (t.follows p q);
    codes = λ p c. alike either_to either_from (t.codes p c);
  }

  -- a repetition, as a star or a plus
  module _ (a : Labelled) (L I : ℕ → Bool) (h : (p : ℕ) → Decides (L p) (Last a p)) (k : (p : ℕ) → Decides (I p) (First a p)) (t : Tabled U F C (a ∷ es)) where
    round : (p q : ℕ) → Decides (linked F L I p q) ((Follow a p q ⊎ (Last a p × First a q)) ⊎ Any (λ e. Follow e p q) es)
    round p q = alike round_to round_from (Decides-or (F p q) (L p && I q) (t.follows p q) (Decides-and (L p) (I q) (h p) (k q)))

    pub tabled_star : Tabled U (linked F L I) C (star a ∷ es)
    tabled_star = record { used = t.used; follows = round; codes = t.codes }

    pub tabled_plus : Tabled U (linked F L I) C (plus a ∷ es)
    tabled_plus = record { used = t.used; follows = round; codes = t.codes }

  pub tabled_optional : (a : Labelled) → Tabled U F C (a ∷ es) → Tabled U F C (optional a ∷ es)
  tabled_optional a t = record { used = t.used; follows = t.follows; codes = t.codes }

-- ---- positions apart

pub separate_symbol : (l low high : ℕ) (es : List Labelled) → (Any (λ e. Owns e l) es → ⊥) → Separate es → Separate (symbol l low high ∷ es)
separate_symbol l low high es new s = (tt, λ p e y. new (subst (λ (z : ℕ). Any (λ e. Owns e z) es) (sym e) y), s)

-- two become one, as a join or a choice
pub separate_two : (a b : Labelled) (es : List Labelled) → Separate (b ∷ a ∷ es) → Separate (join a b ∷ es)
separate_two a b es (db, nb, (da, na, s)) = ((da, db, λ p x y. nb p y (inl x)), apart, s)
  where
    apart : Disjoint (Owns (join a b)) (λ p. Any (λ d. Owns d p) es)
    apart p (inl x) y = na p x y
    apart p (inr x) y = nb p x (inr y)
