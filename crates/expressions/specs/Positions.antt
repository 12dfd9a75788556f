-- The positions of a labelled expression: which can come first, which last, and which can follow which.
use Rattle.std.specs.Prelude.{◌≡◌, ℕ, ◌≤◌, ◌⊎◌, ◌↔◌}
use Rattle.expressions.specs.Expression.{empty, symbol, join, either, star, plus, optional, Labelled}

-- a set of positions
abbrev pub Positions : Type 1
Positions = ℕ → Type 0

-- the positions that the symbols carry
abbrev pub Owns : Labelled → Positions
Owns empty p = ⊥
Owns (symbol l low high) p = l ≡ p
Owns (join a b) p = Owns a p ⊎ Owns b p
Owns (either a b) p = Owns a p ⊎ Owns b p
Owns (star a) p = Owns a p
Owns (plus a) p = Owns a p
Owns (optional a) p = Owns a p

abbrev pub Disjoint : Positions → Positions → Type 0
Disjoint P Q = (p : ℕ) → P p → Q p → ⊥

-- no position stands at two symbols
abbrev pub Distinct : Labelled → Type 0
Distinct empty = Unit {0}
Distinct (symbol l low high) = Unit {0}
Distinct (join a b) = Distinct a × Distinct b × Disjoint (Owns a) (Owns b)
Distinct (either a b) = Distinct a × Distinct b × Disjoint (Owns a) (Owns b)
Distinct (star a) = Distinct a
Distinct (plus a) = Distinct a
Distinct (optional a) = Distinct a

-- the symbol at position p takes the code c
abbrev pub Takes : Labelled → ℕ → ℕ → Type 0
Takes empty p c = ⊥
Takes (symbol l low high) p c = (l ≡ p) × (low ≤ c) × (c ≤ high)
Takes (join a b) p c = Takes a p c ⊎ Takes b p c
Takes (either a b) p c = Takes a p c ⊎ Takes b p c
Takes (star a) p c = Takes a p c
Takes (plus a) p c = Takes a p c
Takes (optional a) p c = Takes a p c

-- the empty text is denoted
abbrev pub Nullable : Labelled → Type 0
Nullable empty = Unit {0}
Nullable (symbol l low high) = ⊥
Nullable (join a b) = Nullable a × Nullable b
Nullable (either a b) = Nullable a ⊎ Nullable b
Nullable (star a) = Unit {0}
Nullable (plus a) = Nullable a
Nullable (optional a) = Unit {0}

-- the positions that can take the first code of a text
abbrev pub First : Labelled → Positions
First empty p = ⊥
First (symbol l low high) p = l ≡ p
First (join a b) p = First a p ⊎ (Nullable a × First b p)
First (either a b) p = First a p ⊎ First b p
First (star a) p = First a p
First (plus a) p = First a p
First (optional a) p = First a p

-- the positions that can take the last code of a text
abbrev pub Last : Labelled → Positions
Last empty p = ⊥
Last (symbol l low high) p = l ≡ p
Last (join a b) p = Last b p ⊎ (Nullable b × Last a p)
Last (either a b) p = Last a p ⊎ Last b p
Last (star a) p = Last a p
Last (plus a) p = Last a p
Last (optional a) p = Last a p

-- q can take the code behind the one that p took
abbrev pub Follow : Labelled → ℕ → Positions
Follow empty p q = ⊥
Follow (symbol l low high) p q = ⊥
Follow (join a b) p q = Follow a p q ⊎ (Follow b p q ⊎ (Last a p × First b q))
Follow (either a b) p q = Follow a p q ⊎ Follow b p q
Follow (star a) p q = Follow a p q ⊎ (Last a p × First a q)
Follow (plus a) p q = Follow a p q ⊎ (Last a p × First a q)
Follow (optional a) p q = Follow a p q

-- an expression followed by its end position, which no code meets: from 1 to 0 there is none
abbrev pub followed_by : Labelled → ℕ → Labelled
followed_by body end = join body (symbol end 1 0)

-- ---- followers by parts of the expression

-- a is a part of e, or e itself
abbrev pub Inside : Labelled → Labelled → Type 0
Inside a empty = a ≡ empty
Inside a (symbol l low high) = a ≡ symbol l low high
Inside a (join b c) = (a ≡ join b c) ⊎ (Inside a b ⊎ Inside a c)
Inside a (either b c) = (a ≡ either b c) ⊎ (Inside a b ⊎ Inside a c)
Inside a (star b) = (a ≡ star b) ⊎ Inside a b
Inside a (plus b) = (a ≡ plus b) ⊎ Inside a b
Inside a (optional b) = (a ≡ optional b) ⊎ Inside a b

-- at some join inside e, p is a last of the left part and q a first of the right one; or they are a last and a first of one repeated part
abbrev pub Beside : Labelled → ℕ → Positions
Beside e p q =
    ((a : Labelled) × (b : Labelled) × Inside (join a b) e × Last a p × First b q)
    ⊎ ((a : Labelled) × (Inside (star a) e ⊎ Inside (plus a) e) × Last a p × First a q)

-- followers are exactly those
abbrev pub FollowsBeside : Type 0
FollowsBeside = (e : Labelled) (p q : ℕ) → Follow e p q ↔ Beside e p q
