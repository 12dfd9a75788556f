-- The members of a set, from its words. Assumes nothing.
use Rattle.std.proofs.Common.{◌≡◌, ℕ, zero, suc, ◌+◌, ◌-◌, ◌*◌, ◌/◌, ◌%◌, ◌^◌, ◌<◌, ◌≤◌, Bool, true, false, cond, not, ◌&&◌, ◌||◌, List, [], ◌∷◌, eqb, ltb, Decides, length, get_or, sym, refl, ap, ◌∙◌, subst, ap₂, inl, inr, arith, add-one, add-zero, add-suc, add_assoc, lit<}
use mathlib.Core.HLevel.{is_prop→PathP}
use lib.Bits.{bit_or, or_lt}
use lib.Count.{ones, count_trailing_zeros}
use Rattle.std.specs.List.{list_all}
use Rattle.std.specs.Cmp.Lexicographic.{pointwise, bytes_decides}
use Rattle.std.proofs.Props.{props}
use Rattle.std.proofs.lemmas.List.{get_or_past, get_or-set_same, get_or-set_other, length-set}
use lib.ListN.{set, replicate}
use Rattle.std.proofs.lemmas.Grind.{same_number_lists}
use Rattle.std.proofs.lemmas.Bool.{cases_lt, cases_eq, cases_Bool, both_ways, and_parts, and_from, and_left, and_right, eqb-true, eq-eqb, ne_eqb, lt-ltb, le-ltb}
use Rattle.std.proofs.lemmas.Bool.Decides.{Decides-below_or, same_from_decides}
use Rattle.std.proofs.Math.Bool.{and-false, and-true}
use Rattle.states.specs.declared.set.Set.{Set}
use Rattle.states.specs.Sets.{State, Rules, has, words_of, with_members, set_of, rules_of, same, is_empty, nothing, shares}
use Rattle.states.specs.Words.{bit, tally, some, Least, Gathers}
use Rattle.states.proofs.Digits.{bit_ext, bit_above, bit_zero, bit_ones, bit_single, bit_digits_of, bit_or_digit, bit_mod, bit_first, bit_half, lowest_digit, ones_tally, tally_same}

-- ---- one number, if it is below k

pub alone_below : (k m n : ℕ) → m < k → (eqb n m && ltb n k) ≡ eqb n m
alone_below k m n l = elim (cases_eq n m) [
  | inl e ↦ and_from _ _ (eq-eqb n m e) (lt-ltb n k (omega arith)) ∙ sym (eq-eqb n m e)
  | inr e ↦ and_left _ _ (ne_eqb n m e) ∙ sym (ne_eqb n m e)
]

pub alone_above : (k m n : ℕ) → k ≤ m → (eqb n m && ltb n k) ≡ false
alone_above k m n l = elim (cases_eq n m) [
  | inl e ↦ and_right _ _ (le-ltb n k (omega arith))
  | inr e ↦ and_left _ _ (ne_eqb n m e)
]

-- ---- one word at a time

-- number r of word k
pub has_at : {n : ℕ} (s : Set n) (k r : ℕ) → r < 64 → has s (64 * k + r) ≡ bit (get_or s.words k 0) r
unfolding has
has_at s k r l =
    let d : (64 * k + r) / 64 ≡ k = omega arith in
    let m : (64 * k + r) % 64 ≡ r = omega arith in
    ap₂ (λ (x y : ℕ). bit (get_or s.words x 0) y) d m

pub has_word : {n : ℕ} (s : Set n) (p : ℕ) → has s p ≡ bit (get_or s.words (p / 64) 0) (p % 64)
unfolding has
has_word s p = refl

pub word_above : {n : ℕ} (s : Set n) (k : ℕ) → n ≤ k → get_or s.words k 0 ≡ 0
word_above s k l = get_or_past s.words k 0 (let e = s.long in omega arith)

-- no number past the words is a member
pub has_above : {n : ℕ} (s : Set n) (p : ℕ) → 64 * n ≤ p → has s p ≡ false
has_above s p l = has_word s p ∙ ap (λ (w : ℕ). bit w (p % 64)) (word_above s (p / 64) (omega arith)) ∙ bit_zero (p % 64)

pub member_below : {n : ℕ} (s : Set n) (p : ℕ) → has s p ≡ true → p < 64 * n
member_below {n} s p h = elim (cases_lt p (64 * n)) [ inl l ↦ l | inr l ↦ absurd (both_ways _ (has_above s p l) h) ]

-- ---- equal sets

pub same_words : {n : ℕ} (a b : Set n) → a.words ≡ b.words → a ≡ b
same_words {n} a b e = λ i. record {
  words = e i;
  long = is_prop→PathP (λ j. length (e j) ≡ n) (λ j. hlevel props) a.long b.long i;
  fits = is_prop→PathP (λ j. (k : ℕ) → get_or (e j) k 0 < 2 ^ 64) (λ j. hlevel props) a.fits b.fits i;
}

-- two sets with the same members are equal
pub same_members : {n : ℕ} (a b : Set n) → ((p : ℕ) → p < 64 * n → has a p ≡ has b p) → a ≡ b
same_members {n} a b h =
    same_words a b (same_number_lists a.words b.words (a.long ∙ sym b.long) (λ k l.
    let below : k < n = (let e = a.long in omega arith) in
    bit_ext 64 (get_or a.words k 0) (get_or b.words k 0) (a.fits k) (b.fits k)
    (λ r small. sym (has_at a k r small) ∙ h (64 * k + r) (omega arith) ∙ has_at b k r small)))

pub same_true : {n : ℕ} (a b : Set n) → same a b ≡ true → a ≡ b
unfolding same
same_true a b e = same_words a b ((bytes_decides a.words b.words).0 e)

pub same_self : {n : ℕ} (s : Set n) → same s s ≡ true
unfolding same
same_self s = (bytes_decides s.words s.words).1 refl

-- what `==` is to say, by its answer on the words
pub same_decides : {n : ℕ} (a b : Set n) (r : Bool) → r ≡ same a b → Decides r (a ≡ b) × Decides r ((p : ℕ) → has a p ≡ has b p)
same_decides {n} a b r e =
    let yes : a ≡ b → r ≡ true = λ x. e ∙ ap (same a) (sym x) ∙ same_self a in
    ((λ t. same_true a b (sym e ∙ t), yes), (λ t p. ap (λ (s : Set n). has s p) (same_true a b (sym e ∙ t)), λ h. yes (same_members a b (λ p l. h p))))

-- ---- an operation on two sets, word by word

-- `on_digits` is what `op` does to each digit
pub has_op : {n : ℕ} (op : ℕ → ℕ → ℕ) (on_digits : Bool → Bool → Bool)
    → ((x y p : ℕ) → x < 2 ^ 64 → y < 2 ^ 64 → p < 64 → bit (op x y) p ≡ on_digits (bit x p) (bit y p)) → on_digits false false ≡ false
    → (a b s : Set n) → ((k : ℕ) → k < n → get_or s.words k 0 ≡ op (get_or a.words k 0) (get_or b.words k 0))
    → (p : ℕ) → has s p ≡ on_digits (has a p) (has b p)
has_op {n} op on_digits digit none a b s is p = elim (cases_lt p (64 * n)) [
  | inl l ↦ (let k = p / 64 in let r = p % 64 in
      has_word s p ∙ ap (λ (w : ℕ). bit w r) (is k (omega arith))
      ∙ digit (get_or a.words k 0) (get_or b.words k 0) r (a.fits k) (b.fits k) (omega arith)
      ∙ sym (ap₂ on_digits (has_word a p) (has_word b p)))
  | inr l ↦ has_above s p l ∙ sym none ∙ sym (ap₂ on_digits (has_above a p l) (has_above b p l))
]

-- ---- no member, and every number

-- each word of s is w, and so each number that is not past the words is a member where w has its digit
pub has_each : {n : ℕ} (s : Set n) (w : ℕ) (here : Bool) → ((k : ℕ) → k < n → get_or s.words k 0 ≡ w) → ((r : ℕ) → r < 64 → bit w r ≡ here)
    → (p : ℕ) → has s p ≡ (ltb p (64 * n) && here)
has_each {n} s w here is digits p = elim (cases_lt p (64 * n)) [
  | inl l ↦ has_word s p ∙ ap (λ (x : ℕ). bit x (p % 64)) (is (p / 64) (omega arith)) ∙ digits (p % 64) (omega arith)
      ∙ ap (λ (t : Bool). t && here) (sym (lt-ltb p (64 * n) l))
  | inr l ↦ has_above s p l ∙ ap (λ (t : Bool). t && here) (sym (le-ltb p (64 * n) l))
]

pub has_none : {n : ℕ} (s : Set n) → ((k : ℕ) → k < n → get_or s.words k 0 ≡ 0) → (p : ℕ) → has s p ≡ false
has_none {n} s is p = has_each s 0 false is (λ r l. bit_zero r) p ∙ and-false (ltb p (64 * n))

pub has_all : {n : ℕ} (s : Set n) → ((k : ℕ) → k < n → get_or s.words k 0 ≡ 2 ^ 64 - 1) → (p : ℕ) → has s p ≡ ltb p (64 * n)
has_all {n} s is p = has_each s (2 ^ 64 - 1) true is (λ r l. bit_ones 64 r ∙ lt-ltb r 64 l) p ∙ and-true (ltb p (64 * n))

-- ---- one number

same_place : (p q : ℕ) → p / 64 ≡ q / 64 → eqb (p % 64) (q % 64) ≡ eqb p q
same_place p q e = elim (cases_eq p q) [
  | inl h ↦ eq-eqb (p % 64) (q % 64) (ap (λ (x : ℕ). x % 64) h) ∙ sym (eq-eqb p q h)
  | inr h ↦ ne_eqb (p % 64) (q % 64) (λ g. h (omega arith)) ∙ sym (ne_eqb p q h)
]

-- word at / 64 has digit at % 64 alone, and the other words are 0
pub has_single : {n : ℕ} (s : Set n) (at : ℕ) → ((k : ℕ) → k < n → get_or s.words k 0 ≡ cond (eqb k (at / 64)) (2 ^ (at % 64)) 0)
    → (p : ℕ) → has s p ≡ (eqb p at && ltb p (64 * n))
has_single {n} s at is p = elim (cases_lt p (64 * n)) [
  | inr l ↦ has_above s p l ∙ sym (and_right _ _ (le-ltb p (64 * n) l))
  | inl l ↦ has_word s p ∙ ap (λ (w : ℕ). bit w (p % 64)) (is (p / 64) (omega arith)) ∙ inside ∙ sym (and-true (eqb p at)) ∙ ap (λ (t : Bool). eqb p at && t) (sym (lt-ltb p (64 * n) l))
]
  where
    inside : bit (cond (eqb (p / 64) (at / 64)) (2 ^ (at % 64)) 0) (p % 64) ≡ eqb p at
    inside = elim (cases_eq (p / 64) (at / 64)) [
      | inl e ↦ ap (λ (t : Bool). bit (cond t (2 ^ (at % 64)) 0) (p % 64)) (eq-eqb _ _ e) ∙ bit_single (at % 64) (p % 64) ∙ same_place p at e
      | inr e ↦ ap (λ (t : Bool). bit (cond t (2 ^ (at % 64)) 0) (p % 64)) (ne_eqb _ _ e) ∙ bit_zero (p % 64) ∙ sym (ne_eqb p at (λ g. e (ap (λ (x : ℕ). x / 64) g)))
    ]

pub alone : {n : ℕ} (s : Set n) (at : ℕ) → at < 64 * n → ((p : ℕ) → has s p ≡ (eqb p at && ltb p (64 * n))) → (p : ℕ) → has s p ≡ eqb p at
alone {n} s at l is p = is p ∙ alone_below (64 * n) at p l

-- a set whose other words are 0
pub first_word : {n : ℕ} (s : Set n) (w : ℕ) → w < 2 ^ 64 → get_or s.words 0 0 ≡ w → ((k : ℕ) → get_or s.words (suc k) 0 ≡ 0) → (p : ℕ) → has s p ≡ bit w p
first_word s w fits is others p = has_word s p ∙ at (p / 64) refl
  where
    at : (k : ℕ) → p / 64 ≡ k → bit (get_or s.words k 0) (p % 64) ≡ bit w p
    at zero e = let small : p % 64 ≡ p = omega arith in ap₂ bit is small
    at (suc k) e = ap (λ (x : ℕ). bit x (p % 64)) (others k) ∙ bit_zero (p % 64) ∙ sym (bit_above 64 w p fits (omega arith))

-- ---- how many members

tally_parts : (f : ℕ → Bool) (a b : ℕ) → tally f (a + b) ≡ tally f a + tally (λ p. f (a + p)) b
unfolding tally
tally_parts f a zero = ap (tally f) (add-zero a) ∙ sym (add-zero (tally f a))
tally_parts f a (suc b) =
    ap (tally f) (add-suc a b) ∙ ap (λ (x : ℕ). x + cond (f (a + b)) 1 0) (tally_parts f a b)
    ∙ add_assoc (tally f a) (tally (λ p. f (a + p)) b) (cond (f (a + b)) 1 0)

-- the digits of word k are what it adds
pub count_word : {n : ℕ} (s : Set n) (k : ℕ) → tally (has s) (64 * k) + ones (get_or s.words k 0) ≡ tally (has s) (64 * (k + 1))
count_word s k =
    let e : 64 * k + 64 ≡ 64 * (k + 1) = omega arith in
    ap (λ (x : ℕ). tally (has s) (64 * k) + x) (ones_tally 64 (get_or s.words k 0) (s.fits k) ∙ tally_same (bit (get_or s.words k 0)) (λ r. has s (64 * k + r)) 64 (λ r l. sym (has_at s k r l)))
    ∙ sym (tally_parts (has s) (64 * k) 64) ∙ ap (tally (has s)) e

-- ---- the least member

-- the lowest digit of the first word that is not 0
pub lowest_word : {n : ℕ} (s : Set n) (k : ℕ) → ((j : ℕ) → j < k → get_or s.words j 0 ≡ 0) → 0 < get_or s.words k 0
    → Least (has s) (64 * k + count_trailing_zeros 64 (get_or s.words k 0))
lowest_word s k none some =
    let w = get_or s.words k 0 in
    let t = count_trailing_zeros 64 w in
    let low = lowest_digit w some (s.fits k) in
    record {
      member = has_at s k t low.0 ∙ low.1.member;
      first = λ p l. has_word s p ∙ (elim (cases_lt (p / 64) k) [
        | inl before ↦ ap (λ (x : ℕ). bit x (p % 64)) (none (p / 64) before) ∙ bit_zero (p % 64)
        | inr here ↦ (let small = low.0 in let e : p / 64 ≡ k = omega arith in
            ap (λ (x : ℕ). bit (get_or s.words x 0) (p % 64)) e ∙ low.1.first (p % 64) (omega arith))
      ]);
    }

-- ---- one number up

-- what word k takes from the word below it
abbrev pub carried : List ℕ → ℕ → ℕ
carried ws zero = 0
carried ws (suc k) = get_or ws k 0 / 2 ^ 63

-- word k, moved up by one digit
abbrev pub moved : List ℕ → ℕ → ℕ
moved ws k = bit_or (get_or ws k 0 * 2 % 2 ^ 64) (carried ws k)

carried_lt : (ws : List ℕ) (k : ℕ) → ((j : ℕ) → get_or ws j 0 < 2 ^ 64) → carried ws k < 2
carried_lt ws zero fits = lit< tt
carried_lt ws (suc k) fits = let f = fits k in omega arith

moved_first : (ws : List ℕ) (k : ℕ) → ((j : ℕ) → get_or ws j 0 < 2 ^ 64) → bit (moved ws k) 0 ≡ bit (carried ws k) 0
moved_first ws k fits =
    bit_or_digit (get_or ws k 0 * 2 % 2 ^ 64) (carried ws k) 0
    ∙ ap (λ (t : Bool). t || bit (carried ws k) 0) (bit_mod 64 (get_or ws k 0 * 2) 0 (lit< tt) ∙ bit_first (get_or ws k 0 * 2) ∙ (let e : get_or ws k 0 * 2 % 2 ≡ 0 = omega arith in ap (λ (x : ℕ). eqb x 1) e))

moved_next : (ws : List ℕ) (k r : ℕ) → ((j : ℕ) → get_or ws j 0 < 2 ^ 64) → r < 63 → bit (moved ws k) (suc r) ≡ bit (get_or ws k 0) r
moved_next ws k r fits l =
    let w = get_or ws k 0 in
    let half : w * 2 / 2 ≡ w = omega arith in
    let c = carried_lt ws k fits in
    let none : carried ws k / 2 ≡ 0 = omega arith in
    bit_or_digit (w * 2 % 2 ^ 64) (carried ws k) (suc r)
    ∙ ap₂ (λ (x y : Bool). x || y)
    (bit_mod 64 (w * 2) (suc r) (omega arith) ∙ bit_half (w * 2) r ∙ ap (λ (x : ℕ). bit x r) half)
    (bit_half (carried ws k) r ∙ ap (λ (x : ℕ). bit x r) none ∙ bit_zero r)
    ∙ or_none (bit w r)
  where
    or_none : (t : Bool) → (t || false) ≡ t
    or_none true = refl
    or_none false = refl

-- the words below i of ws are moved up, and the others are as they were
pub record Moving (n : ℕ) (ws items : List ℕ) (i carry : ℕ) : Type 0 where
  pub long : length items ≡ n
  pub fits : (j : ℕ) → get_or items j 0 < 2 ^ 64
  pub carries : carry ≡ carried ws i
  pub made : (j : ℕ) → j < i → get_or items j 0 ≡ moved ws j
  pub left : (j : ℕ) → i ≤ j → get_or items j 0 ≡ get_or ws j 0

pub moving_none : {n : ℕ} (s : Set n) → Moving n s.words s.words 0 0
moving_none s = record { long = s.long; fits = s.fits; carries = refl; made = λ j l. absurd (omega arith); left = λ j l. refl }

pub moving_more : {n : ℕ} (s : Set n) (items : List ℕ) (i carry : ℕ) → Moving n s.words items i carry → i < n
    → Moving n s.words (set items i (bit_or (get_or items i 0 * 2 % 2 ^ 64) carry)) (i + 1) (get_or items i 0 / 2 ^ 63)
moving_more s items i carry m l =
    let ws = s.words in
    let w = bit_or (get_or items i 0 * 2 % 2 ^ 64) carry in
    let long = m.long in
    let inside : i < length items = omega arith in
    let here : get_or (set items i w) i 0 ≡ w = get_or-set_same items i w 0 inside in
    let is : w ≡ moved ws i = ap₂ (λ (x y : ℕ). bit_or (x * 2 % 2 ^ 64) y) (m.left i (omega arith)) m.carries in
    let last = m.fits i in
    let small : carry < 2 = omega (arith, m.carries, carried_lt ws i s.fits) in
    record {
      long = length-set items i w ∙ long;
      fits = λ j. elim (cases_eq j i) [
        | inl e ↦ subst (λ (x : ℕ). x < 2 ^ 64) (sym (ap (λ (x : ℕ). get_or (set items i w) x 0) e ∙ here)) (or_lt 64 (get_or items i 0 * 2 % 2 ^ 64) carry (omega arith) (omega arith))
        | inr e ↦ subst (λ (x : ℕ). x < 2 ^ 64) (sym (get_or-set_other items i j w 0 e)) (m.fits j)
      ];
      carries = ap (λ (x : ℕ). x / 2 ^ 63) (m.left i (omega arith)) ∙ sym (ap (carried ws) (add-one i));
      made = λ j b. elim (cases_eq j i) [
        | inl e ↦ ap (λ (x : ℕ). get_or (set items i w) x 0) e ∙ here ∙ is ∙ ap (moved ws) (sym e)
        | inr e ↦ get_or-set_other items i j w 0 e ∙ m.made j (omega arith)
      ];
      left = λ j b. get_or-set_other items i j w 0 (λ e. absurd (omega arith)) ∙ m.left j (omega arith);
    }

pub raised_first : {n : ℕ} (s t : Set n) → ((k : ℕ) → k < n → get_or t.words k 0 ≡ moved s.words k) → has t 0 ≡ false
raised_first {n} s t is = elim (cases_lt 0 (64 * n)) [
  | inl l ↦ has_at t 0 0 (lit< tt) ∙ ap (λ (w : ℕ). bit w 0) (is 0 (omega arith)) ∙ moved_first s.words 0 s.fits ∙ bit_zero 0
  | inr l ↦ has_above t 0 l
]

pub raised_next : {n : ℕ} (s t : Set n) → ((k : ℕ) → k < n → get_or t.words k 0 ≡ moved s.words k)
    → (p : ℕ) → has t (p + 1) ≡ (ltb p (64 * n - 1) && has s p)
raised_next {n} s t is p = elim (cases_lt (p + 1) (64 * n)) [
  | inr l ↦ has_above t (p + 1) l ∙ sym (and_left _ _ (le-ltb p (64 * n - 1) (omega arith)))
  | inl l ↦ inside l ∙ ap (λ (b : Bool). b && has s p) (sym (lt-ltb p (64 * n - 1) (omega arith)))
]
  where
    inside : p + 1 < 64 * n → has t (p + 1) ≡ has s p
    inside l = elim (cases_lt (p % 64) 63) [
      | inl small ↦ (let e : 64 * (p / 64) + suc (p % 64) ≡ p + 1 = omega arith in
          ap (has t) (sym e) ∙ has_at t (p / 64) (suc (p % 64)) (omega arith) ∙ ap (λ (w : ℕ). bit w (suc (p % 64))) (is (p / 64) (omega arith))
          ∙ moved_next s.words (p / 64) (p % 64) s.fits small ∙ sym (has_word s p))
      | inr last ↦ (let e : 64 * suc (p / 64) + 0 ≡ p + 1 = omega arith in
          let top : p % 64 ≡ 63 = omega arith in
          ap (has t) (sym e) ∙ has_at t (suc (p / 64)) 0 (lit< tt) ∙ ap (λ (w : ℕ). bit w 0) (is (suc (p / 64)) (omega arith))
          ∙ moved_first s.words (suc (p / 64)) s.fits ∙ bit_first (get_or s.words (p / 64) 0 / 2 ^ 63)
          ∙ ap (λ (r : ℕ). bit (get_or s.words (p / 64) 0) r) (sym top) ∙ sym (has_word s p))
    ]

-- ---- whether there is a member

all_zero : (ws : List ℕ) → list_all (λ w. eqb w 0) ws ≡ true → (k : ℕ) → get_or ws k 0 ≡ 0
all_zero [] e k = refl
all_zero (w ∷ ws) e zero = eqb-true w 0 (and_parts (eqb w 0) (list_all (λ x. eqb x 0) ws) e).0
all_zero (w ∷ ws) e (suc k) = all_zero ws (and_parts (eqb w 0) (list_all (λ x. eqb x 0) ws) e).1 k

-- `ws == [0; n]`
pub zeroes : (n : ℕ) (ws : List ℕ) → length ws ≡ n → pointwise eqb ws (replicate n 0) ≡ list_all (λ w. eqb w 0) ws
zeroes zero [] e = refl
zeroes zero (w ∷ ws) e = absurd (omega arith)
zeroes (suc n) [] e = absurd (omega arith)
zeroes (suc n) (w ∷ ws) e = ap (λ (t : Bool). eqb w 0 && t) (zeroes n ws (omega arith))

zero_all : (ws : List ℕ) → ((k : ℕ) → get_or ws k 0 ≡ 0) → list_all (λ w. eqb w 0) ws ≡ true
zero_all [] h = refl
zero_all (w ∷ ws) h = and_from _ _ (eq-eqb w 0 (h 0)) (zero_all ws (λ k. h (suc k)))

pub is_empty_decides : {n : ℕ} (s : Set n) (r : Bool) → r ≡ is_empty s → Decides r ((p : ℕ) → has s p ≡ false)
unfolding is_empty
is_empty_decides {n} s r q = (
  λ e p. has_word s p ∙ ap (λ (w : ℕ). bit w (p % 64)) (all_zero s.words (sym q ∙ e) (p / 64)) ∙ bit_zero (p % 64),
  λ h. q ∙ zero_all s.words (λ k. bit_ext 64 (get_or s.words k 0) 0 (s.fits k) (omega arith)
      (λ r small. sym (has_at s k r small) ∙ h (64 * k + r) ∙ sym (bit_zero r))),
)

-- some member of s passes f
pub some_member : {n : ℕ} (s : Set n) (f : ℕ → Bool) → Decides (some (λ p. has s p && f p) (64 * n)) ((p : ℕ) × (has s p ≡ true) × (f p ≡ true))
unfolding some
some_member {n} s f =
    let d = Decides-below_or (λ p. has s p && f p) (λ p. (has s p ≡ true) × (f p ≡ true)) (some (λ p. has s p && f p))
    (λ p. (and_parts (has s p) (f p), λ h. and_from (has s p) (f p) h.0 h.1)) refl (λ k. refl) (64 * n) in
    (λ e. let w = d.0 e in (w.0, w.2.0, w.2.1), λ w. d.1 (w.0, member_below s w.0 w.1, (w.1, w.2)))

pub shares_is : {n : ℕ} (s t u : Set n) (r : Bool) → ((p : ℕ) → has u p ≡ (has s p && has t p)) → Decides r ((p : ℕ) → has u p ≡ false) → not r ≡ shares s t
shares_is s t u r is d =
    let both = some_member s (has t) in
    elim (cases_Bool (shares s t)) [
      | inl e ↦ (let w = both.0 e in
          elim (cases_Bool r) [
            | inl f ↦ absurd (both_ways _ (d.0 f w.0) (is w.0 ∙ and_from _ _ w.1 w.2))
            | inr f ↦ ap not f ∙ sym e
          ])
      | inr e ↦ ap not (d.1 (λ p. elim (cases_Bool (has u p)) [
        | inl h ↦ (let w = and_parts (has s p) (has t p) (sym (is p) ∙ h) in absurd (both_ways _ e (both.1 (p, w.0, w.1))))
        | inr h ↦ h
      ])) ∙ sym e
    ]

-- ---- a set made by a test

words_of_at : (f : ℕ → Bool) (n k r : ℕ) → k < n → r < 64 → bit (get_or (words_of f n) k 0) r ≡ f (64 * k + r)
unfolding words_of
words_of_at f zero k r l small = absurd (omega arith)
words_of_at f (suc n) zero r l small = bit_digits_of f 64 r small ∙ (let e : r ≡ 64 * 0 + r = omega arith in ap f e)
words_of_at f (suc n) (suc k) r l small =
    words_of_at (λ p. f (64 + p)) n k r (omega arith) small ∙ (let e : 64 + (64 * k + r) ≡ 64 * suc k + r = omega arith in ap f e)

pub has_made : (n : ℕ) (f : ℕ → Bool) (p : ℕ) → p < 64 * n → has (with_members n f) p ≡ f p
unfolding with_members
has_made n f p l =
    has_word (with_members n f) p ∙ words_of_at f n (p / 64) (p % 64) (omega arith) (omega arith)
    ∙ (let e : 64 * (p / 64) + p % 64 ≡ p = omega arith in ap f e)

pub has_set_of : (f : ℕ → Bool) (p : ℕ) → p < 256 → has (set_of f) p ≡ f p
has_set_of f p l = has_made 4 f p l

pub has_rule_rules_of : (f : ℕ → Bool) (p : ℕ) → p < 64 → has (rules_of f) p ≡ f p
has_rule_rules_of f p l = has_made 1 f p l

-- a set is known by its members
pub is_made : {n : ℕ} (s : Set n) (f : ℕ → Bool) → ((p : ℕ) → p < 64 * n → has s p ≡ f p) → s ≡ with_members n f
is_made {n} s f h = same_members s (with_members n f) (λ p l. h p l ∙ sym (has_made n f p l))

pub is_set_of : (s : State) (f : ℕ → Bool) → ((p : ℕ) → p < 256 → has s p ≡ f p) → s ≡ set_of f
is_set_of s f h = is_made s f h

-- the union of the sets T p over the members p of s
pub gathers_set : (T : ℕ → ℕ → Bool) (s r : State) → Gathers T (has s) (has r) → r ≡ set_of (λ q. some (λ p. has s p && T p q) 256)
gathers_set T s r g = is_set_of r _ (λ q l. same_from_decides (has r q) _ (g q) (some_member s (λ p. T p q)))

pub is_rules_of : (s : Rules) (f : ℕ → Bool) → ((p : ℕ) → p < 64 → has s p ≡ f p) → s ≡ rules_of f
is_rules_of s f h = is_made s f h

pub has_nothing : (p : ℕ) → has nothing p ≡ false
has_nothing p = elim (cases_lt p 256) [ inl l ↦ has_set_of (λ q. false) p l | inr l ↦ has_above nothing p l ]

-- a state with no member is the empty state
pub no_members : (s : State) → ((p : ℕ) → has s p ≡ false) → s ≡ nothing
no_members s h = same_members s nothing (λ p l. h p ∙ sym (has_nothing p))

pub empty_is : (s : State) → is_empty s ≡ true → s ≡ nothing
empty_is s e = no_members s ((is_empty_decides s (is_empty s) refl).0 e)

-- sets of rules with the same members are equal
pub same_rules : (a b : Rules) → ((n : ℕ) → n < 64 → has a n ≡ has b n) → a ≡ b
same_rules a b h = same_members a b h

pub rules_above : (r : Rules) (n : ℕ) → 64 ≤ n → has r n ≡ false
rules_above r n l = has_above r n l
