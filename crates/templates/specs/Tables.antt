-- What the loops over a rule's positions and over the table of positions leave. Assumes nothing.
use Rattle.std.specs.Prelude.{◌≡◌, ℕ, zero, suc, ◌+◌, ◌-◌, ◌*◌, ◌/◌, ◌<◌, ◌≤◌, Bool, true, false, not, ◌&&◌, ◌||◌, ltb, leb, List, [], ◌∷◌, length, ◌==◌, ◌≢◌, nat_le, nat_lt, slice_index, slice_index_or, slice_set, refl}
use Rattle.std.proofs.Common.{sym, ap, ap₂, ◌∙◌, subst, inl, inr, arith, get_or-set_same, get_or-set_other}
use Rattle.std.proofs.lemmas.List.{get_or_past, get_or_default}
use Rattle.std.proofs.lemmas.Bool.{cases_lt, cases_eq, lt-ltb, le-ltb, le-leb, lt-leb, eq-eqb, ne_eqb, and_left}
use Rattle.std.proofs.lemmas.Bool.Decides.{nat_tests}
use Rattle.std.proofs.Math.Bool.{and-true, or-false}
use Rattle.states.specs.Sets.{State, has, nothing}
use Rattle.states.proofs.Members.{has_nothing}
use Rattle.templates.specs.Templates.{takes_byte, takes_at}

-- ---- a rule's positions, one by one

pub span_none : (base p : ℕ) → false ≡ (nat_le base p && nat_lt p (base + 0))
span_none base p = grind (arith, nat_tests)

pub span_more : (base i p : ℕ) → ((nat_le base p && nat_lt p (base + i)) || p == base + i) ≡ (nat_le base p && nat_lt p (base + (i + 1)))
span_more base i p = grind (arith, nat_tests)

pub span_all : (r p : ℕ) → (nat_le (32 * r) p && nat_lt p (32 * r + 32)) ≡ (p / 32 == r)
span_all r p = grind (arith, nat_tests)

-- ---- one entry written

-- the table holds position p for code c
abbrev pub at : List State → ℕ → ℕ → Bool
at ts c p = has (slice_index_or ts c nothing) p

at_past : (ts : List State) (c p : ℕ) → length ts ≤ c → at ts c p ≡ false
at_past ts c p l = ap (λ (s : State). has s p) (get_or_past ts c nothing l) ∙ has_nothing p

module _ (ts : List State) (k : ℕ) (s : State) (p : ℕ) where
  at_written : k < length ts → at (slice_set ts k s) k p ≡ has s p
  at_written l = ap (λ (x : State). has x p) (get_or-set_same ts k s nothing l)

  at_other : (c : ℕ) → (c ≢ k) → at (slice_set ts k s) c p ≡ at ts c p
  at_other c d = ap (λ (x : State). has x p) (get_or-set_other ts k c s nothing d)

  at_read : k < length ts → has (slice_index_or ts k s) p ≡ at ts k p
  at_read l = ap (λ (x : State). has x p) (get_or_default ts k s nothing l)

-- ---- positions taken out of the entries below k

abbrev pub Cleared : List State → List State → State → ℕ → Type 0
Cleared old new away k = (c p : ℕ) → at new c p ≡ (at old c p && not (nat_lt c k && has away p))

pub clear_none : (ts : List State) (away : State) → Cleared ts ts away 0
clear_none ts away c p = sym (ap (λ (b : Bool). at ts c p && not (b && has away p)) (le-ltb c 0 (omega arith)) ∙ and-true (at ts c p))

pub clear_more : (old new : List State) (away x y : State) (k : ℕ) → Cleared old new away k → k < length new
    → ((p : ℕ) → has y p ≡ (has (slice_index_or new k x) p && not (has away p))) → Cleared old (slice_set new k y) away (k + 1)
clear_more old new away x y k inv l gone c p = elim (cases_eq c k) [
  | inl e ↦ subst (λ (c : ℕ). at (slice_set new k y) c p ≡ (at old c p && not (nat_lt c (k + 1) && has away p))) (sym e)
      (at_written new k y p l ∙ gone p ∙ ap (λ (b : Bool). b && not (has away p)) (at_read new k x p l ∙ inv k p)
      ∙ ap (λ (b : Bool). (at old k p && not (b && has away p)) && not (has away p)) (le-ltb k k (omega arith))
      ∙ ap (λ (b : Bool). b && not (has away p)) (and-true (at old k p))
      ∙ ap (λ (b : Bool). at old k p && not (b && has away p)) (sym (lt-ltb k (k + 1) (omega arith))))
  | inr d ↦ at_other new k y p c d ∙ inv c p ∙ ap (λ (b : Bool). at old c p && not (b && has away p)) (below c d)
]
  where
    below : (c : ℕ) → (c ≢ k) → nat_lt c k ≡ nat_lt c (k + 1)
    below c d = grind (arith, nat_tests)

pub clear_all : (old new : List State) (away : State) → length old ≡ 256 → Cleared old new away 256
    → (c p : ℕ) → at new c p ≡ (at old c p && not (has away p))
clear_all old new away long inv c p = elim (cases_lt c 256) [
  | inl l ↦ inv c p ∙ ap (λ (b : Bool). at old c p && not (b && has away p)) (lt-ltb c 256 l)
  | inr l ↦ (let past = at_past old c p (omega arith) in
      inv c p ∙ and_left (at old c p) _ past ∙ sym (and_left (at old c p) _ past))
]

-- ---- a position put into the entries from low on, below k

abbrev pub Marked : List State → List State → ℕ → ℕ → ℕ → Type 0
Marked old new at_p low k = (c p : ℕ) → at new c p ≡ (at old c p || (p == at_p && (nat_le low c && nat_lt c k)))

pub mark_none : (ts : List State) (q low : ℕ) → Marked ts ts q low low
mark_none ts q low c p = grind (arith, nat_tests)

pub mark_more : (old new : List State) (x y : State) (q low k : ℕ) → Marked old new q low k → low ≤ k → k < length new
    → ((p : ℕ) → has y p ≡ (has (slice_index_or new k x) p || p == q)) → Marked old (slice_set new k y) q low (k + 1)
mark_more old new x y q low k inv lk l put c p = elim (cases_eq c k) [
  | inl e ↦ subst (λ (c : ℕ). at (slice_set new k y) c p ≡ (at old c p || (p == q && (nat_le low c && nat_lt c (k + 1))))) (sym e)
      (at_written new k y p l ∙ put p ∙ ap (λ (b : Bool). b || p == q) (at_read new k x p l ∙ inv k p) ∙ here (at old k p) (p == q))
  | inr d ↦ at_other new k y p c d ∙ inv c p ∙ ap (λ (b : Bool). at old c p || (p == q && (nat_le low c && b))) (below c d)
]
  where
    below : (c : ℕ) → (c ≢ k) → nat_lt c k ≡ nat_lt c (k + 1)
    below c d = grind (arith, nat_tests)

    here : (b e : Bool) → ((b || (e && (nat_le low k && nat_lt k k))) || e) ≡ (b || (e && (nat_le low k && nat_lt k (k + 1))))
    here b e = grind (arith, nat_tests)

-- ---- a template put in from `first` on, by its bytes below i

pub takes_at_here : (t : List ℕ) (i c : ℕ) → i < length t → takes_at t i c ≡ takes_byte (slice_index t i) c
takes_at_here [] i c l = absurd (omega arith)
takes_at_here (b ∷ t) zero c l = refl
takes_at_here (b ∷ t) (suc i) c l = takes_at_here t i c (omega arith)

pub takes_at_past : (t : List ℕ) (i c : ℕ) → length t ≤ i → takes_at t i c ≡ false
takes_at_past [] i c l = refl
takes_at_past (b ∷ t) zero c l = absurd (omega arith)
takes_at_past (b ∷ t) (suc i) c l = takes_at_past t i c (omega arith)

abbrev pub Placed : List State → List State → ℕ → List ℕ → ℕ → Type 0
Placed old new first t i = (c p : ℕ) → at new c p ≡ (at old c p || (nat_le first p && (nat_lt (p - first) i && takes_at t (p - first) c)))

pub place_none : (ts : List State) (first : ℕ) (t : List ℕ) → Placed ts ts first t 0
place_none ts first t c p = grind (arith, nat_tests)

pub place_more : (old new more : List State) (first : ℕ) (t : List ℕ) (i byte low end : ℕ) → Placed old new first t i
    → i < length t → byte ≡ slice_index t i → ((c : ℕ) → takes_byte byte c ≡ (nat_le low c && nat_lt c end))
    → ((c p : ℕ) → at more c p ≡ (at new c p || (p == first + i && (nat_le low c && nat_lt c end)))) → Placed old more first t (i + 1)
place_more old new more first t i byte low end inv l is codes put c p = elim (cases_eq p (first + i)) [
  | inl e ↦ (
      let same : takes_at t i c ≡ (nat_le low c && nat_lt c end) = takes_at_here t i c l ∙ ap (λ (b : ℕ). takes_byte b c) (sym is) ∙ codes c in
      let j : p - first ≡ i = omega arith in
      let le : leb first p ≡ true = le-leb first p (omega arith) in
      let no_more : ltb (p - first) i ≡ false = le-ltb (p - first) i (omega arith) in
      let more_now : ltb (p - first) (i + 1) ≡ true = lt-ltb (p - first) (i + 1) (omega arith) in
      put c p
      ∙ ap₂ (λ (a b : Bool). a || (b && (nat_le low c && nat_lt c end))) (inv c p ∙ ap (λ (b : Bool). at old c p || (nat_le first p && (b && takes_at t (p - first) c))) no_more
      ∙ ap (λ (b : Bool). at old c p || (b && false)) le ∙ or-false (at old c p)) (eq-eqb p (first + i) e)
      ∙ ap (λ (b : Bool). at old c p || b) (sym (ap₂ (λ (a b : Bool). a && (b && takes_at t (p - first) c)) le more_now ∙ ap (λ (j : ℕ). takes_at t j c) j ∙ same)))
  | inr d ↦ put c p ∙ ap₂ (λ (a b : Bool). a || (b && (nat_le low c && nat_lt c end))) (inv c p) (ne_eqb p (first + i) d)
      ∙ or-false (at old c p || (nat_le first p && (nat_lt (p - first) i && takes_at t (p - first) c)))
      ∙ ap (λ (b : Bool). at old c p || b) (elsewhere (takes_at t (p - first) c) d)
]
  where
    below : (j : ℕ) → (j ≢ i) → nat_lt j i ≡ nat_lt j (i + 1)
    below j d = grind (arith, nat_tests)

    elsewhere : (x : Bool) → (p ≢ first + i) → (nat_le first p && (nat_lt (p - first) i && x)) ≡ (nat_le first p && (nat_lt (p - first) (i + 1) && x))
    elsewhere x d = elim (cases_lt p first) [
      | inl l ↦ ap (λ (b : Bool). b && (nat_lt (p - first) i && x)) (lt-leb first p l) ∙ sym (ap (λ (b : Bool). b && (nat_lt (p - first) (i + 1) && x)) (lt-leb first p l))
      | inr l ↦ ap (λ (b : Bool). nat_le first p && (b && x)) (below (p - first) (λ e. d (omega arith)))
    ]

pub place_all : (old new : List State) (first : ℕ) (t : List ℕ) → Placed old new first t (length t)
    → (c p : ℕ) → at new c p ≡ (at old c p || (nat_le first p && takes_at t (p - first) c))
place_all old new first t inv c p = inv c p ∙ ap (λ (b : Bool). at old c p || (nat_le first p && b)) (whole (p - first))
  where
    whole : (j : ℕ) → (nat_lt j (length t) && takes_at t j c) ≡ takes_at t j c
    whole j = elim (cases_lt j (length t)) [
      | inl l ↦ ap (λ (b : Bool). b && takes_at t j c) (lt-ltb j (length t) l)
      | inr l ↦ ap (λ (b : Bool). b && takes_at t j c) (le-ltb j (length t) l) ∙ sym (takes_at_past t j c l)
    ]
