-- An expression in its place: what its positions read is what it denotes, and then what comes behind it. Assumes nothing.
use Rattle.std.proofs.Common.{◌≡◌, ℕ, zero, suc, ◌≤◌, ◌⊎◌, ◌↔◌, List, [], ◌∷◌, ◌++◌, length, sym, refl, ap, ◌∙◌, subst, inl, inr, append_assoc, le_refl, arith, length-append}
use mathlib.Core.Logic.Iff
use Rattle.expressions.specs.Expression.{empty, symbol, join, either, star, plus, optional, Labelled, Language, Concatenation, Repetition, none, again, Denotes}
use Rattle.expressions.specs.Positions.{Positions, Owns, Distinct, Takes, Nullable, First, Last, Follow}
use Rattle.expressions.proofs.Owned.{last_owned, takes_owned, follow_owned, nullable_denotes}

-- a sum of which one side is empty
pub only_left : {A B : Type 0} → (B → ⊥) → (A ⊎ B) ↔ A
only_left {A} {B} n = (cut, λ a. inl a)
  where
    cut : A ⊎ B → A
    cut (inl a) = a
    cut (inr b) = absurd (n b)

only_right : {A B : Type 0} → (A → ⊥) → (A ⊎ B) ↔ B
only_right {A} {B} n = (cut, λ b. inr b)
  where
    cut : A ⊎ B → B
    cut (inl a) = absurd (n a)
    cut (inr b) = b

-- the steps out of an expression's parts, with what follows each part
round : (A B C D : Type 0) → ((A ⊎ (B × C)) ⊎ (B × D)) ↔ (A ⊎ (B × (C ⊎ D)))
round A B C D = (to, from)
  where
    to : (A ⊎ (B × C)) ⊎ (B × D) → A ⊎ (B × (C ⊎ D))
    to (inl (inl a)) = inl a
    to (inl (inr x)) = inr (x.0, inl x.1)
    to (inr x) = inr (x.0, inr x.1)

    from : A ⊎ (B × (C ⊎ D)) → (A ⊎ (B × C)) ⊎ (B × D)
    from (inl a) = inl (inl a)
    from (inr x) = elim x.1 [ inl c ↦ inl (inr (x.0, c)) | inr d ↦ inr (x.0, d) ]

left_part : (Fa Fb La Lb Ib Nb K : Type 0) → (Fb → ⊥) → (Lb → ⊥) →
    ((Fa ⊎ (Fb ⊎ (La × Ib))) ⊎ ((Lb ⊎ (Nb × La)) × K)) ↔ (Fa ⊎ (La × (Ib ⊎ (Nb × K))))
left_part Fa Fb La Lb Ib Nb K nf nl = (to, from)
  where
    to : (Fa ⊎ (Fb ⊎ (La × Ib))) ⊎ ((Lb ⊎ (Nb × La)) × K) → Fa ⊎ (La × (Ib ⊎ (Nb × K)))
    to (inl (inl a)) = inl a
    to (inl (inr (inl b))) = absurd (nf b)
    to (inl (inr (inr x))) = inr (x.0, inl x.1)
    to (inr x) = elim x.0 [ inl l ↦ absurd (nl l) | inr y ↦ inr (y.1, inr (y.0, x.1)) ]

    from : Fa ⊎ (La × (Ib ⊎ (Nb × K))) → (Fa ⊎ (Fb ⊎ (La × Ib))) ⊎ ((Lb ⊎ (Nb × La)) × K)
    from (inl a) = inl (inl a)
    from (inr x) = elim x.1 [ inl i ↦ inl (inr (inr (x.0, i))) | inr y ↦ inr (inr (y.0, x.0), y.1) ]

right_part : (Fa Fb La Lb Ib Nb K : Type 0) → (Fa → ⊥) → (La → ⊥) →
    ((Fa ⊎ (Fb ⊎ (La × Ib))) ⊎ ((Lb ⊎ (Nb × La)) × K)) ↔ (Fb ⊎ (Lb × K))
right_part Fa Fb La Lb Ib Nb K nf nl = (to, from)
  where
    to : (Fa ⊎ (Fb ⊎ (La × Ib))) ⊎ ((Lb ⊎ (Nb × La)) × K) → Fb ⊎ (Lb × K)
    to (inl (inl a)) = absurd (nf a)
    to (inl (inr (inl b))) = inl b
    to (inl (inr (inr x))) = absurd (nl x.0)
    to (inr x) = elim x.0 [ inl l ↦ inr (l, x.1) | inr y ↦ absurd (nl y.1) ]

    from : Fb ⊎ (Lb × K) → (Fa ⊎ (Fb ⊎ (La × Ib))) ⊎ ((Lb ⊎ (Nb × La)) × K)
    from (inl b) = inl (inr (inl b))
    from (inr x) = inr (inl x.0, x.1)

one_part : (Fa Fb La Lb K : Type 0) → (Fb → ⊥) → (Lb → ⊥) → ((Fa ⊎ Fb) ⊎ ((La ⊎ Lb) × K)) ↔ (Fa ⊎ (La × K))
one_part Fa Fb La Lb K nf nl = (to, from)
  where
    to : (Fa ⊎ Fb) ⊎ ((La ⊎ Lb) × K) → Fa ⊎ (La × K)
    to (inl (inl a)) = inl a
    to (inl (inr b)) = absurd (nf b)
    to (inr x) = elim x.0 [ inl l ↦ inr (l, x.1) | inr l ↦ absurd (nl l) ]

    from : Fa ⊎ (La × K) → (Fa ⊎ Fb) ⊎ ((La ⊎ Lb) × K)
    from (inl a) = inl (inl a)
    from (inr x) = inr (inl x.0, x.1)

other_part : (Fa Fb La Lb K : Type 0) → (Fa → ⊥) → (La → ⊥) → ((Fa ⊎ Fb) ⊎ ((La ⊎ Lb) × K)) ↔ (Fb ⊎ (Lb × K))
other_part Fa Fb La Lb K nf nl = (to, from)
  where
    to : (Fa ⊎ Fb) ⊎ ((La ⊎ Lb) × K) → Fb ⊎ (Lb × K)
    to (inl (inl a)) = absurd (nf a)
    to (inl (inr b)) = inl b
    to (inr x) = elim x.0 [ inl l ↦ absurd (nl l) | inr l ↦ inr (l, x.1) ]

    from : Fb ⊎ (Lb × K) → (Fa ⊎ Fb) ⊎ ((La ⊎ Lb) × K)
    from (inl b) = inl (inr b)
    from (inr x) = inr (inr x.0, x.1)

-- what can come next where e, and then K, is ahead
abbrev pub Onward : Labelled → Positions → Positions
Onward e K q = First e q ⊎ (Nullable e × K q)

-- what can come next behind one turn of a repeated part
abbrev pub Round : Labelled → Positions → Positions
Round a K q = First a q ⊎ K q

-- a text of R that is not empty, and behind it one of S
abbrev pub Splits : Language → Language → Language
Splits R S w = (c : ℕ) × (u : List ℕ) × (v : List ℕ) × (w ≡ c ∷ (u ++ v)) × R (c ∷ u) × S v

splits_front : (R R' S : Language) → ((u : List ℕ) → R u → R' u) → (w : List ℕ) → Splits R S w → Splits R' S w
splits_front R R' S f w (c, u, v, e, r, s) = (c, u, v, e, f (c ∷ u) r, s)

splits_back : (R S S' : Language) → ((v : List ℕ) → S v → S' v) → (w : List ℕ) → Splits R S w → Splits R S' w
splits_back R S S' f w (c, u, v, e, r, s) = (c, u, v, e, r, f v s)

-- a first part, a second part and the rest
regroup : (c : ℕ) (w u v x y : List ℕ) → w ≡ c ∷ (u ++ v) → v ≡ x ++ y → w ≡ c ∷ (u ++ x ++ y)
regroup c w u v x y e e' = e ∙ ap (λ z. c ∷ (u ++ z)) e' ∙ ap (λ z. c ∷ z) (sym (append_assoc u x y))

splits_assoc : (R S Q : Language) (w : List ℕ) → Splits R (Concatenation S Q) w → Splits (Concatenation R S) Q w
splits_assoc R S Q w (c, u, v, e, r, (x, y, e', s, q)) =
    (c, u ++ x, y, regroup c w u v x y e e', (c ∷ u, x, refl, r, s), q)

plus_star : (R : Language) (u : List ℕ) → Concatenation R (Repetition R) u → Repetition R u
plus_star R u (x, y, e, r, s) = again x y e r s

-- A relation F of followers, a relation T of codes taken, and an end position Z.
module _ (F T : ℕ → ℕ → Type 0) (Z : ℕ) where
  -- from position p, which is still to be read, the text leads to Z
  abbrev pub Reads : ℕ → Language
  Reads p [] = p ≡ Z
  Reads p (c ∷ w) = T p c × ((q : ℕ) × F p q × Reads q w)

  -- from some position of the set
  abbrev pub Ahead : Positions → Language
  Ahead S w = (p : ℕ) × S p × Reads p w

  ahead_map : (S S' : Positions) → ((q : ℕ) → S q → S' q) → (w : List ℕ) → Ahead S w → Ahead S' w
  ahead_map S S' f w (p, s, r) = (p, f p s, r)

  -- F and T are those of e at e's positions, with K behind e; Z is no position of e
  abbrev pub Fits : Labelled → Positions → Type 0
  Fits e K =
      ((p q : ℕ) → Owns e p → F p q ↔ (Follow e p q ⊎ (Last e p × K q))) × ((p c : ℕ) → Owns e p → T p c ↔ Takes e p c) ×
      ((p : ℕ) → Owns e p → p ≡ Z → ⊥)

  fits_join_left : (a b : Labelled) (K : Positions) → Distinct (join a b) → Fits (join a b) K → Fits a (Onward b K)
  fits_join_left a b K d (f, t, z) = (
    λ p q o. Iff.trans (f p q (inl o)) (left_part _ _ _ _ _ _ _ (λ h. d.2 p o (follow_owned b p q h).0) (λ h. d.2 p o (last_owned b p h))),
    λ p c o. Iff.trans (t p c (inl o)) (only_left (λ h. d.2 p o (takes_owned b p c h))),
    λ p o. z p (inl o),
  )

  fits_join_right : (a b : Labelled) (K : Positions) → Distinct (join a b) → Fits (join a b) K → Fits b K
  fits_join_right a b K d (f, t, z) = (
    λ p q o. Iff.trans (f p q (inr o)) (right_part _ _ _ _ _ _ _ (λ h. d.2 p (follow_owned a p q h).0 o) (λ h. d.2 p (last_owned a p h) o)),
    λ p c o. Iff.trans (t p c (inr o)) (only_right (λ h. d.2 p (takes_owned a p c h) o)),
    λ p o. z p (inr o),
  )

  fits_either_left : (a b : Labelled) (K : Positions) → Distinct (either a b) → Fits (either a b) K → Fits a K
  fits_either_left a b K d (f, t, z) = (
    λ p q o. Iff.trans (f p q (inl o)) (one_part _ _ _ _ _ (λ h. d.2 p o (follow_owned b p q h).0) (λ h. d.2 p o (last_owned b p h))),
    λ p c o. Iff.trans (t p c (inl o)) (only_left (λ h. d.2 p o (takes_owned b p c h))),
    λ p o. z p (inl o),
  )

  fits_either_right : (a b : Labelled) (K : Positions) → Distinct (either a b) → Fits (either a b) K → Fits b K
  fits_either_right a b K d (f, t, z) = (
    λ p q o. Iff.trans (f p q (inr o)) (other_part _ _ _ _ _ (λ h. d.2 p (follow_owned a p q h).0 o) (λ h. d.2 p (last_owned a p h) o)),
    λ p c o. Iff.trans (t p c (inr o)) (only_right (λ h. d.2 p (takes_owned a p c h) o)),
    λ p o. z p (inr o),
  )

  fits_star : (a : Labelled) (K : Positions) → Fits (star a) K → Fits a (Round a K)
  fits_star a K (f, t, z) = (λ p q o. Iff.trans (f p q o) (round _ _ _ _), t, z)

  -- Every text read from e's first positions is one that e denotes, and then one read from K.

  abbrev pub Sound : Labelled → Positions → Type 0
  Sound e K = (p : ℕ) (w : List ℕ) → First e p → Reads p w → Splits (Denotes e) (Ahead K) w

  pub onward_sound : (b : Labelled) (K : Positions) → Sound b K → (v : List ℕ) → Ahead (Onward b K) v → Concatenation (Denotes b) (Ahead K) v
  onward_sound b K s v (q, inl h, r) = let (c, u, v', e, d, k) = s q v h r in (c ∷ u, v', e, d, k)
  onward_sound b K s v (q, inr h, r) = ([], v, refl, nullable_denotes b h.0, (q, h.1, r))

  round_sound : (a : Labelled) (K : Positions) → Sound a (Round a K) → (n : ℕ) (v : List ℕ) → length v ≤ n →
      Ahead (Round a K) v → Concatenation (Repetition (Denotes a)) (Ahead K) v
  round_sound a K s n v l (q, inr k, r) = ([], v, refl, none refl, (q, k, r))
  round_sound a K s zero v l (q, inl h, r) = let (c, u, v', e, d, k) = s q v h r in absurd (omega (arith, ap length e))
  round_sound a K s (suc n) v l (q, inl h, r) =
      let (c, u, v', e, d, k) = s q v h r in
      let m : length v' ≤ n = omega (arith, ap length e, length-append u v') in
      let (x, y, e', t, k') = round_sound a K s n v' m k in
      (c ∷ u ++ x, y, regroup c v u v' x y e e', again (c ∷ u) x refl d t, k')

  plus_sound : (a : Labelled) (K : Positions) → Sound a (Round a K) → Sound (plus a) K
  plus_sound a K s p w h r =
      splits_assoc (Denotes a) (Repetition (Denotes a)) (Ahead K) w
      (splits_back (Denotes a) (Ahead (Round a K)) _ (λ v. round_sound a K s (length v) v (le_refl (length v))) w (s p w h r))

  symbol_sound : (l low high : ℕ) (K : Positions) → Fits (symbol l low high) K → Sound (symbol l low high) K
  symbol_sound l low high K (f, t, z) p [] h r = absurd (z p h r)
  symbol_sound l low high K (f, t, z) p (c ∷ w) h (x, (q, y, r)) =
      let taken = (t p c h).0 x in
      let behind = (only_right (λ b. b)).0 ((f p q h).0 y) in
      (c, [], w, refl, (c, taken.1, taken.2, refl), (q, behind.1, r))

  pub sound : (e : Labelled) (K : Positions) → Distinct e → Fits e K → Sound e K
  sound empty K d f p w h r = absurd h
  sound (symbol l low high) K d f p w h r = symbol_sound l low high K f p w h r
  sound (join a b) K d f p w (inl h) r =
      splits_assoc (Denotes a) (Denotes b) (Ahead K) w
      (splits_back (Denotes a) (Ahead (Onward b K)) _ (onward_sound b K (sound b K d.1 (fits_join_right a b K d f))) w
      (sound a (Onward b K) d.0 (fits_join_left a b K d f) p w h r))
  sound (join a b) K d f p w (inr h) r =
      splits_front (Denotes b) (Denotes (join a b)) (Ahead K) (λ u x. ([], u, refl, nullable_denotes a h.0, x)) w
      (sound b K d.1 (fits_join_right a b K d f) p w h.1 r)
  sound (either a b) K d f p w (inl h) r =
      splits_front (Denotes a) (Denotes (either a b)) (Ahead K) (λ u x. inl x) w (sound a K d.0 (fits_either_left a b K d f) p w h r)
  sound (either a b) K d f p w (inr h) r =
      splits_front (Denotes b) (Denotes (either a b)) (Ahead K) (λ u x. inr x) w (sound b K d.1 (fits_either_right a b K d f) p w h r)
  sound (star a) K d f p w h r =
      splits_front (Denotes (plus a)) (Denotes (star a)) (Ahead K) (plus_star (Denotes a)) w
      (plus_sound a K (sound a (Round a K) d (fits_star a K f)) p w h r)
  sound (plus a) K d f p w h r = plus_sound a K (sound a (Round a K) d (fits_star a K f)) p w h r
  sound (optional a) K d f p w h r = splits_front (Denotes a) (Denotes (optional a)) (Ahead K) (λ u x. inr x) w (sound a K d f p w h r)

  -- Every text that e denotes, with one read from K behind it, is read from what comes next at e.

  abbrev pub Complete : Labelled → Positions → Type 0
  Complete e K = (u v : List ℕ) → Denotes e u → Ahead K v → Ahead (Onward e K) (u ++ v)

  -- one text behind another
  behind : (S : Positions) (u x y v : List ℕ) → u ≡ x ++ y → Ahead S (x ++ (y ++ v)) → Ahead S (u ++ v)
  behind S u x y v e k = subst (Ahead S) (sym (append_assoc x y v) ∙ ap (λ z. z ++ v) (sym e)) k

  -- nothing in front
  nothing : (S : Positions) (u v : List ℕ) → u ≡ [] → Ahead S v → Ahead S (u ++ v)
  nothing S u v e k = subst (λ z. Ahead S (z ++ v)) (sym e) k

  round_complete : (a : Labelled) (K : Positions) → Complete a (Round a K) → (u v : List ℕ) → Repetition (Denotes a) u →
      Ahead K v → Ahead (Round a K) (u ++ v)
  round_complete a K s u v (none e) k = nothing (Round a K) u v e (ahead_map _ _ (λ q h. inr h) v k)
  round_complete a K s u v (again x y e r t) k =
      behind (Round a K) u x y v e (ahead_map _ _ step (x ++ (y ++ v)) (s x (y ++ v) r (round_complete a K s y v t k)))
    where
      step : (q : ℕ) → Onward a (Round a K) q → Round a K q
      step q (inl h) = inl h
      step q (inr h) = h.1

  pub complete : (e : Labelled) (K : Positions) → Distinct e → Fits e K → Complete e K
  complete empty K d f u v h k = nothing (Onward empty K) u v h (ahead_map _ _ (λ q x. inr (tt, x)) v k)
  complete (symbol l low high) K d (f, t, z) u v (c, lo, hi, e) (q, k, r) =
      subst (λ x. Ahead (Onward (symbol l low high) K) (x ++ v)) (sym e)
      (l, inl refl, ((t l c refl).1 (refl, lo, hi), (q, (f l q refl).1 (inr (refl, k)), r)))
  complete (join a b) K d f u v (x, y, e, r, s) k =
      behind (Onward (join a b) K) u x y v e
      (ahead_map _ _ step (x ++ (y ++ v))
      (complete a (Onward b K) d.0 (fits_join_left a b K d f) x (y ++ v) r
      (complete b K d.1 (fits_join_right a b K d f) y v s k)))
    where
      step : (q : ℕ) → Onward a (Onward b K) q → Onward (join a b) K q
      step q (inl h) = inl (inl h)
      step q (inr (n, inl h)) = inl (inr (n, h))
      step q (inr (n, inr h)) = inr ((n, h.0), h.1)
  complete (either a b) K d f u v (inl r) k = ahead_map _ _ step (u ++ v) (complete a K d.0 (fits_either_left a b K d f) u v r k)
    where
      step : (q : ℕ) → Onward a K q → Onward (either a b) K q
      step q (inl h) = inl (inl h)
      step q (inr h) = inr (inl h.0, h.1)
  complete (either a b) K d f u v (inr r) k = ahead_map _ _ step (u ++ v) (complete b K d.1 (fits_either_right a b K d f) u v r k)
    where
      step : (q : ℕ) → Onward b K q → Onward (either a b) K q
      step q (inl h) = inl (inr h)
      step q (inr h) = inr (inr h.0, h.1)
  complete (star a) K d f u v r k =
      ahead_map _ _ step (u ++ v) (round_complete a K (complete a (Round a K) d (fits_star a K f)) u v r k)
    where
      step : (q : ℕ) → Round a K q → Onward (star a) K q
      step q (inl h) = inl h
      step q (inr h) = inr (tt, h)
  complete (plus a) K d f u v (x, y, e, r, s) k =
      let here = complete a (Round a K) d (fits_star a K f) in
      behind (Onward (plus a) K) u x y v e
      (ahead_map _ _ step (x ++ (y ++ v)) (here x (y ++ v) r (round_complete a K here y v s k)))
    where
      step : (q : ℕ) → Onward a (Round a K) q → Onward (plus a) K q
      step q (inl h) = inl h
      step q (inr (n, inl h)) = inl h
      step q (inr (n, inr h)) = inr (n, h)
  complete (optional a) K d f u v (inl e) k = nothing (Onward (optional a) K) u v e (ahead_map _ _ (λ q x. inr (tt, x)) v k)
  complete (optional a) K d f u v (inr r) k = ahead_map _ _ step (u ++ v) (complete a K d f u v r k)
    where
      step : (q : ℕ) → Onward a K q → Onward (optional a) K q
      step q (inl h) = inl h
      step q (inr h) = inr (tt, h.1)
