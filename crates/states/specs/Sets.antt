-- A set holds numbers below 64 times the number of its words: number p is digit p % 64 of word p / 64.
-- A state is a set of positions from 0 to 255, in four words, and a set of rules one of numbers from 0 to 63, in one word.
use Rattle.std.specs.Prelude.{◌≡◌, ℕ, zero, suc, ◌+◌, ◌*◌, ◌/◌, ◌%◌, ◌^◌, ◌<◌, Bool, false, ◌&&◌, ◌==◌, List, [], ◌∷◌, length, slice_index, filter, nat_eq, refl}
use Rattle.std.specs.List.{list_all, range_with_len}
use Rattle.std.specs.Cmp.Lexicographic.{pointwise}
use Rattle.std.proofs.Common.{ap, lit<}
use Rattle.states.specs.declared.set.Set.{Set}
use Rattle.states.specs.Words.{bit, tally, some, digits_of, digits_of_below}

abbrev pub State : Type 0
State = Set 4

abbrev pub Rules : Type 0
Rules = Set 1

-- number p is a member of s
unfoldable pub has : {n : ℕ} → Set n → ℕ → Bool
has s p = bit (slice_index s.words (p / 64)) (p % 64)

-- n words whose digits are the numbers that pass f
unfoldable pub words_of : (ℕ → Bool) → ℕ → List ℕ
words_of f zero = []
words_of f (suc n) = digits_of f 64 ∷ words_of (λ p. f (64 + p)) n

pub words_of_long : (f : ℕ → Bool) (n : ℕ) → length (words_of f n) ≡ n
unfolding words_of
words_of_long f zero = refl
words_of_long f (suc n) = ap suc (words_of_long (λ p. f (64 + p)) n)

pub words_of_fit : (f : ℕ → Bool) (n k : ℕ) → slice_index (words_of f n) k < 2 ^ 64
unfolding words_of
words_of_fit f zero k = lit< tt
words_of_fit f (suc n) zero = digits_of_below f 64
words_of_fit f (suc n) (suc k) = words_of_fit (λ p. f (64 + p)) n k

-- the set of n words whose members are the numbers that pass f
unfoldable pub with_members : (n : ℕ) → (ℕ → Bool) → Set n
with_members n f = record { words = words_of f n; long = words_of_long f n; fits = words_of_fit f n }

-- the state, and the set of rules, whose members are the numbers that pass f
abbrev pub set_of : (ℕ → Bool) → State
set_of = with_members 4

abbrev pub rules_of : (ℕ → Bool) → Rules
rules_of = with_members 1

-- the state with no member
abbrev pub nothing : State
nothing = set_of (λ p. false)

-- whether s and t have the same members
unfoldable pub same : {n : ℕ} → Set n → Set n → Bool
same s t = pointwise nat_eq s.words t.words

-- whether s has no member
unfoldable pub is_empty : {n : ℕ} → Set n → Bool
is_empty s = list_all (λ w. w == 0) s.words

-- how many members s has
abbrev pub size : {n : ℕ} → Set n → ℕ
size {n} s = tally (has s) (64 * n)

-- s and t have a member in common
abbrev pub shares : {n : ℕ} → Set n → Set n → Bool
shares {n} s t = some (λ p. has s p && has t p) (64 * n)

-- the members of s, in rising order
unfoldable pub members : {n : ℕ} → Set n → List ℕ
members {n} s = filter (has s) (range_with_len 0 (64 * n))

-- the same words of a set of rules
abbrev pub has_rule : Rules → ℕ → Bool
has_rule = has

abbrev pub no_rule : Rules → Bool
no_rule = is_empty
