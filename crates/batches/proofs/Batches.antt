-- Batches are read in one way, and grow at their end.
use Rattle.std.proofs.Common.{◌≡◌, ℕ, ◌+◌, ◌/◌, ◌%◌, ◌≤◌, List, [], ◌∷◌, ◌++◌, length, get_or, sym, refl, ap, ◌∙◌, append_assoc, append-nil, arith, length-append, ◌≢◌}
use Rattle.std.proofs.lemmas.Grind.{common_steps}
use Rattle.batches.specs.Records.{Ask, sized, written, batch, lines_of, lines_in}
use Rattle.batches.specs.Records.Ask.{add, delete, line}

pub batch_more : (asks : List Ask) (a : Ask) → batch (asks ++ a ∷ []) ≡ batch asks ++ written a
batch_more [] a = append-nil (written a)
batch_more (b ∷ asks) a = ap (λ w. written b ++ w) (batch_more asks a) ∙ sym (append_assoc (written b) (batch asks) (written a))

pub lines_more : (asks : List Ask) (a : Ask) → lines_in (asks ++ a ∷ []) ≡ lines_in asks + lines_of a
lines_more [] a = omega arith
lines_more (b ∷ asks) a = omega (arith, lines_more asks a)

-- lists of one length that are the fronts of one list
fronts : (u v x y : List ℕ) → length u ≡ length v → u ++ x ≡ v ++ y → (u ≡ v) × (x ≡ y)
fronts [] [] x y l e = (refl, e)
fronts [] (b ∷ v) x y l e = absurd (omega (arith, l))
fronts (a ∷ u) [] x y l e = absurd (omega (arith, l))
fronts (a ∷ u) (b ∷ v) x y l e =
    let lengths : length u ≡ length v = omega (arith, l) in
    let tails : u ++ x ≡ v ++ y = cc in
    let heads : a ≡ b = cc in
    let r = fronts u v x y lengths tails in (cc (r.0, heads), r.1)

-- a number by its two bytes
number : (n m : ℕ) → n / 256 ≡ m / 256 → n % 256 ≡ m % 256 → n ≡ m
number n m d r = omega arith

sized_one : (u v x y : List ℕ) → sized u ++ x ≡ sized v ++ y → (u ≡ v) × (x ≡ y)
sized_one u v x y e =
    let high : length u / 256 ≡ length v / 256 = cc in
    let low : length u % 256 ≡ length v % 256 = cc in
    let tails : u ++ x ≡ v ++ y = cc in
    fronts u v x y (number (length u) (length v) high low) tails

other_letter : {a b : ℕ} {x y : List ℕ} {Z : Type 0} → a ∷ x ≡ b ∷ y → a ≢ b → Z
other_letter e n = absurd (n (ap (λ w. get_or w 0 0) e))

-- bytes begin with one record at most
pub one_record : (a b : Ask) (x y : List ℕ) → written a ++ x ≡ written b ++ y → (a ≡ b) × (x ≡ y)
one_record (add r k u) (add s l v) x y e =
    let rule : r ≡ s = cc in
    let high : k / 256 ≡ l / 256 = cc in
    let low : k % 256 ≡ l % 256 = cc in
    let kind = number k l high low in
    let tails : sized u ++ x ≡ sized v ++ y = cc in
    let z = sized_one u v x y tails in
    (cc (rule, kind, z.0), z.1)
one_record (delete r) (delete s) x y e =
    let rule : r ≡ s = cc in
    let tails : x ≡ y = cc in
    (cc rule, tails)
one_record (line u) (line v) x y e =
    let tails : sized u ++ x ≡ sized v ++ y = cc in
    let z = sized_one u v x y tails in
    (cc (z.0), z.1)
one_record (add r k u) (delete s) x y e = other_letter e (omega arith)
one_record (add r k u) (line v) x y e = other_letter e (omega arith)
one_record (delete r) (add s l v) x y e = other_letter e (omega arith)
one_record (delete r) (line v) x y e = other_letter e (omega arith)
one_record (line u) (add s l v) x y e = other_letter e (omega arith)
one_record (line u) (delete s) x y e = other_letter e (omega arith)

-- a record has bytes
pub some_bytes : (a : Ask) → 2 ≤ length (written a)
some_bytes (add r k u) = grind (arith, common_steps)
some_bytes (delete r) = grind (arith, common_steps)
some_bytes (line u) = grind (arith, common_steps)

-- the first record of a batch, and what is behind it
pub record Next (a : Ask) (behind : List ℕ) (asks : List Ask) : Type 0 where
  pub others : List Ask
  pub front : asks ≡ a ∷ others
  pub batched : behind ≡ batch others

pub next_record : (a : Ask) (behind : List ℕ) (asks : List Ask) → written a ++ behind ≡ batch asks → Next a behind asks
next_record a behind [] e = absurd (omega (arith, some_bytes a, simp length-append at (ap length e)))
next_record a behind (b ∷ asks) e =
    let z = one_record a b behind (batch asks) e in
    record { others = asks; front = cc (z.0); batched = z.1 }

-- a batch that begins with no record is empty
pub no_record : (asks : List Ask) → ((a : Ask) (more : List ℕ) → batch asks ≢ written a ++ more) → asks ≡ []
no_record [] none = refl
no_record (a ∷ asks) none = absurd (none a (batch asks) refl)

-- one record more
pub onward : {w rest : List ℕ} (behind : List ℕ) (asks : List Ask) (a : Ask) → w ≡ batch asks ++ rest → rest ≡ written a ++ behind → w ≡ batch (asks ++ a ∷ []) ++ behind
onward behind asks a all front =
    all ∙ ap (λ w. batch asks ++ w) front ∙ sym (append_assoc (batch asks) (written a) behind) ∙ ap (λ w. w ++ behind) (sym (batch_more asks a))

-- fewer bytes are left
pub fewer : (rest behind : List ℕ) (a : Ask) → rest ≡ written a ++ behind → 2 + length behind ≤ length rest
fewer rest behind a front = omega (arith, some_bytes a, simp length-append at (ap length front))

pub at_most_one : (a : Ask) → lines_of a ≤ 1
at_most_one (add r k u) = omega arith
at_most_one (delete r) = omega arith
at_most_one (line u) = omega arith
