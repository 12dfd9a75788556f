-- Which texts an expression denotes, decided code by code, and which codes they begin with. Assumes nothing.
use Rattle.std.proofs.Common.{◌≡◌, ℕ, Bool, true, false, ◌&&◌, ◌||◌, ◌⊎◌, leb, ◌↔◌, Decides, List, [], ◌∷◌, ◌++◌, refl, sym, ap, ◌∙◌, subst, inl, inr, arith}
use Rattle.std.proofs.lemmas.Bool.{and_parts, and_from, or_cases, or_left, or_right, both_ways, leb-true, le-leb}
use Rattle.expressions.specs.Expression.{empty, symbol, join, either, star, plus, optional, Plain, Labelled, plain, Language, Concatenation, Repetition, none, again, Denotes}
use Rattle.expressions.specs.Positions.{Distinct, Takes, Nullable, First}
use Rattle.expressions.proofs.Owned.{first_owned, takes_owned, nullable_denotes, plain_denotes}

-- ---- the empty text

abbrev pub nullable : Plain → Bool
nullable empty = true
nullable (symbol l low high) = false
nullable (join a b) = nullable a && nullable b
nullable (either a b) = nullable a || nullable b
nullable (star a) = true
nullable (plus a) = nullable a
nullable (optional a) = true

-- both parts of the empty text are empty
no_parts : (R S : Language) → Concatenation R S [] → R [] × S []
no_parts R S ([], v, e, x, y) = (x, subst S (sym e) y)
no_parts R S (c ∷ u, v, e, x, y) = cc

nullable_right : (e : Plain) → Decides (nullable e) (Denotes e [])
nullable_right empty = (λ h. refl, λ h. refl)
nullable_right (symbol l low high) = (λ h. absurd (both_ways false refl h), λ (c, above, below, e). cc)
nullable_right (join a b) = (
  λ h. let w = and_parts (nullable a) (nullable b) h in ([], [], refl, (nullable_right a).0 w.0, (nullable_right b).0 w.1),
  λ h. let w = no_parts (Denotes a) (Denotes b) h in and_from _ _ ((nullable_right a).1 w.0) ((nullable_right b).1 w.1),
)
nullable_right (either a b) = (
  λ h. elim (or_cases (nullable a) (nullable b) h) [ inl x ↦ inl ((nullable_right a).0 x) | inr x ↦ inr ((nullable_right b).0 x) ],
  elim [ inl x ↦ or_left _ _ ((nullable_right a).1 x) | inr x ↦ or_right _ _ ((nullable_right b).1 x) ],
)
nullable_right (star a) = (λ h. none refl, λ h. refl)
nullable_right (plus a) = (
  λ h. ([], [], refl, (nullable_right a).0 h, none refl),
  λ h. (nullable_right a).1 (no_parts (Denotes a) (Repetition (Denotes a)) h).0,
)
nullable_right (optional a) = (λ h. inl refl, λ h. refl)

-- ---- texts that begin with a code

-- no text
abbrev pub never : Plain
never = symbol tt 1 0

never_denotes : (w : List ℕ) → Denotes never w → ⊥
never_denotes w (c, above, below, e) = omega arith

-- an expression, if the test passes
abbrev pub if_so : Bool → Plain → Plain
if_so true e = e
if_so false e = never

if_so_right : (b : Bool) (e : Plain) (w : List ℕ) → Denotes (if_so b e) w ↔ ((b ≡ true) × Denotes e w)
if_so_right true e w = (λ h. (refl, h), λ h. h.1)
if_so_right false e w = (λ h. absurd (never_denotes w h), λ h. absurd (both_ways false refl h.0))

-- what is denoted behind the code c
abbrev pub behind : Plain → ℕ → Plain
behind empty c = never
behind (symbol l low high) c = if_so (leb low c && leb c high) empty
behind (join a b) c = either (join (behind a c) b) (if_so (nullable a) (behind b c))
behind (either a b) c = either (behind a c) (behind b c)
behind (star a) c = join (behind a c) (star a)
behind (plus a) c = join (behind a c) (star a)
behind (optional a) c = behind a c

-- the text c ∷ w parts before its second part, or in its first one
parted : (R S : Language) (c : ℕ) (w : List ℕ) → Concatenation R S (c ∷ w) → (R [] × S (c ∷ w)) ⊎ Concatenation (λ u. R (c ∷ u)) S w
parted R S c w ([], v, e, x, y) = inl (x, subst S (sym e) y)
parted R S c w (d ∷ u, v, e, x, y) =
    let same : d ≡ c = cc in
    let rest : w ≡ u ++ v = cc in
    inr (u, v, rest, subst (λ (b : ℕ). R (b ∷ u)) same x, y)

-- the first text of a repetition that is not empty
begun : (R : Language) (c : ℕ) (w t : List ℕ) → Repetition R t → t ≡ c ∷ w → Concatenation (λ u. R (c ∷ u)) (Repetition R) w
begun R c w t (none e) h = cc
begun R c w t (again [] v e x y) h = begun R c w v y (sym e ∙ h)
begun R c w t (again (d ∷ u) v e x y) h =
    let same : d ≡ c = cc in
    let rest : w ≡ u ++ v = cc in
    (u, v, rest, subst (λ (b : ℕ). R (b ∷ u)) same x, y)

-- what holds of the first part
first_part : (R R' S : Language) (w : List ℕ) → ((u : List ℕ) → R u → R' u) → Concatenation R S w → Concatenation R' S w
first_part R R' S w f (u, v, e, x, y) = (u, v, e, f u x, y)

behind_right : (e : Plain) (c : ℕ) (w : List ℕ) → Denotes (behind e c) w ↔ Denotes e (c ∷ w)
behind_right empty c w = (λ h. absurd (never_denotes w h), λ h. cc)
behind_right (symbol l low high) c w = (
  λ h.
      let x = (if_so_right (leb low c && leb c high) empty w).0 h in
      let k = and_parts (leb low c) (leb c high) x.0 in
      (c, leb-true low c k.0, leb-true c high k.1, ap (λ (t : List ℕ). c ∷ t) x.1),
  λ (d, above, below, e).
      let same : d ≡ c = cc in
      let rest : w ≡ [] = cc in
      (if_so_right (leb low c && leb c high) empty w).1
      (and_from _ _ (le-leb low c (omega arith)) (le-leb c high (omega arith)), rest),
)
behind_right (join a b) c w = (
  elim [
    | inl (u, v, e, x, y) ↦ (c ∷ u, v, ap (λ (t : List ℕ). c ∷ t) e, (behind_right a c u).0 x, y)
    | inr h ↦ (let x = (if_so_right (nullable a) (behind b c) w).0 h in ([], c ∷ w, refl, (nullable_right a).0 x.0, (behind_right b c w).0 x.1))
  ],
  λ h. elim (parted (Denotes a) (Denotes b) c w h) [
    | inl x ↦ inr ((if_so_right (nullable a) (behind b c) w).1 ((nullable_right a).1 x.0, (behind_right b c w).1 x.1))
    | inr x ↦ inl (first_part _ (Denotes (behind a c)) (Denotes b) w (λ u. (behind_right a c u).1) x)
  ],
)
behind_right (either a b) c w = (
  elim [ inl x ↦ inl ((behind_right a c w).0 x) | inr x ↦ inr ((behind_right b c w).0 x) ],
  elim [ inl x ↦ inl ((behind_right a c w).1 x) | inr x ↦ inr ((behind_right b c w).1 x) ],
)
behind_right (star a) c w = (
  λ (u, v, e, x, y). again (c ∷ u) v (ap (λ (t : List ℕ). c ∷ t) e) ((behind_right a c u).0 x) y,
  λ h. first_part _ (Denotes (behind a c)) (Repetition (Denotes a)) w (λ u. (behind_right a c u).1) (begun (Denotes a) c w (c ∷ w) h refl),
)
behind_right (plus a) c w = (
  λ (u, v, e, x, y). (c ∷ u, v, ap (λ (t : List ℕ). c ∷ t) e, (behind_right a c u).0 x, y),
  λ h. first_part _ (Denotes (behind a c)) (Repetition (Denotes a)) w (λ u. (behind_right a c u).1)
      (elim (parted (Denotes a) (Repetition (Denotes a)) c w h) [
        | inl x ↦ begun (Denotes a) c w (c ∷ w) x.1 refl
        | inr x ↦ x
      ]),
)
behind_right (optional a) c w = (λ h. inr ((behind_right a c w).0 h), elim [ inl x ↦ cc | inr x ↦ (behind_right a c w).1 x ])

-- ---- whole texts

abbrev pub denoted : Plain → List ℕ → Bool
denoted e [] = nullable e
denoted e (c ∷ w) = denoted (behind e c) w

pub denoted_right : (e : Plain) (w : List ℕ) → Decides (denoted e w) (Denotes e w)
denoted_right e [] = nullable_right e
denoted_right e (c ∷ w) =
    let d = denoted_right (behind e c) w in
    let b = behind_right e c w in
    (λ h. b.0 (d.0 h), λ h. d.1 (b.1 h))

-- ---- first codes

abbrev pub begins : Plain → ℕ → Bool
begins empty c = false
begins (symbol l low high) c = leb low c && leb c high
begins (join a b) c = begins a c || nullable a && begins b c
begins (either a b) c = begins a c || begins b c
begins (star a) c = begins a c
begins (plus a) c = begins a c
begins (optional a) c = begins a c

nullable_too : (e : Labelled) → Nullable e → nullable (plain e) ≡ true
nullable_too e n = (nullable_right (plain e)).1 (subst (λ (R : Language). R []) (sym (plain_denotes e)) (nullable_denotes e n))

-- a first position takes only codes that texts begin with
pub first_begins : (e : Labelled) (p c : ℕ) → Distinct e → First e p → Takes e p c → begins (plain e) c ≡ true
first_begins empty p c d f t = absurd f
first_begins (symbol l low high) p c d f t = and_from _ _ (le-leb low c t.1) (le-leb c high t.2)
first_begins (join a b) p c d (inl f) (inl t) = or_left _ _ (first_begins a p c d.0 f t)
first_begins (join a b) p c d (inl f) (inr t) = absurd (d.2 p (first_owned a p f) (takes_owned b p c t))
first_begins (join a b) p c d (inr f) (inl t) = absurd (d.2 p (takes_owned a p c t) (first_owned b p f.1))
first_begins (join a b) p c d (inr f) (inr t) = or_right _ _ (and_from _ _ (nullable_too a f.0) (first_begins b p c d.1 f.1 t))
first_begins (either a b) p c d (inl f) (inl t) = or_left _ _ (first_begins a p c d.0 f t)
first_begins (either a b) p c d (inl f) (inr t) = absurd (d.2 p (first_owned a p f) (takes_owned b p c t))
first_begins (either a b) p c d (inr f) (inl t) = absurd (d.2 p (takes_owned a p c t) (first_owned b p f))
first_begins (either a b) p c d (inr f) (inr t) = or_right _ _ (first_begins b p c d.1 f t)
first_begins (star a) p c d f t = first_begins a p c d f t
first_begins (plus a) p c d f t = first_begins a p c d f t
first_begins (optional a) p c d f t = first_begins a p c d f t
