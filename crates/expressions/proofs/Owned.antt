-- First, last, followers and takers are positions of the expression; what is nullable denotes the empty text. Assumes nothing.
use Rattle.std.proofs.Common.{◌≡◌, ℕ, [], refl, ap, ap₂, inl, inr}
use Rattle.expressions.specs.Expression.{Expr, empty, symbol, join, either, star, plus, optional, Labelled, plain, Language, Nothing, Concatenation, Union, Repetition, none, Denotes}
use Rattle.expressions.specs.Positions.{Owns, Takes, Nullable, First, Last, Follow}

pub first_owned : (e : Labelled) (p : ℕ) → First e p → Owns e p
first_owned empty p h = h
first_owned (symbol l low high) p h = h
first_owned (join a b) p (inl h) = inl (first_owned a p h)
first_owned (join a b) p (inr h) = inr (first_owned b p h.1)
first_owned (either a b) p (inl h) = inl (first_owned a p h)
first_owned (either a b) p (inr h) = inr (first_owned b p h)
first_owned (star a) p h = first_owned a p h
first_owned (plus a) p h = first_owned a p h
first_owned (optional a) p h = first_owned a p h

pub last_owned : (e : Labelled) (p : ℕ) → Last e p → Owns e p
last_owned empty p h = h
last_owned (symbol l low high) p h = h
last_owned (join a b) p (inl h) = inr (last_owned b p h)
last_owned (join a b) p (inr h) = inl (last_owned a p h.1)
last_owned (either a b) p (inl h) = inl (last_owned a p h)
last_owned (either a b) p (inr h) = inr (last_owned b p h)
last_owned (star a) p h = last_owned a p h
last_owned (plus a) p h = last_owned a p h
last_owned (optional a) p h = last_owned a p h

pub takes_owned : (e : Labelled) (p c : ℕ) → Takes e p c → Owns e p
takes_owned empty p c h = h
takes_owned (symbol l low high) p c h = h.0
takes_owned (join a b) p c (inl h) = inl (takes_owned a p c h)
takes_owned (join a b) p c (inr h) = inr (takes_owned b p c h)
takes_owned (either a b) p c (inl h) = inl (takes_owned a p c h)
takes_owned (either a b) p c (inr h) = inr (takes_owned b p c h)
takes_owned (star a) p c h = takes_owned a p c h
takes_owned (plus a) p c h = takes_owned a p c h
takes_owned (optional a) p c h = takes_owned a p c h

-- both ends of a step
pub follow_owned : (e : Labelled) (p q : ℕ) → Follow e p q → Owns e p × Owns e q
follow_owned empty p q h = absurd h
follow_owned (symbol l low high) p q h = absurd h
follow_owned (join a b) p q (inl h) = let o = follow_owned a p q h in (inl o.0, inl o.1)
follow_owned (join a b) p q (inr (inl h)) = let o = follow_owned b p q h in (inr o.0, inr o.1)
follow_owned (join a b) p q (inr (inr h)) = (inl (last_owned a p h.0), inr (first_owned b q h.1))
follow_owned (either a b) p q (inl h) = let o = follow_owned a p q h in (inl o.0, inl o.1)
follow_owned (either a b) p q (inr h) = let o = follow_owned b p q h in (inr o.0, inr o.1)
follow_owned (star a) p q (inl h) = follow_owned a p q h
follow_owned (star a) p q (inr h) = (last_owned a p h.0, first_owned a q h.1)
follow_owned (plus a) p q (inl h) = follow_owned a p q h
follow_owned (plus a) p q (inr h) = (last_owned a p h.0, first_owned a q h.1)
follow_owned (optional a) p q h = follow_owned a p q h

pub nullable_denotes : (e : Labelled) → Nullable e → Denotes e []
nullable_denotes empty n = refl
nullable_denotes (symbol l low high) n = absurd n
nullable_denotes (join a b) n = ([], [], refl, nullable_denotes a n.0, nullable_denotes b n.1)
nullable_denotes (either a b) (inl n) = inl (nullable_denotes a n)
nullable_denotes (either a b) (inr n) = inr (nullable_denotes b n)
nullable_denotes (star a) n = none refl
nullable_denotes (plus a) n = ([], [], refl, nullable_denotes a n, none refl)
nullable_denotes (optional a) n = inl refl

-- labels do not matter to what an expression denotes
pub plain_denotes : {L : Type 0} (e : Expr L) → Denotes (plain e) ≡ Denotes e
plain_denotes empty = refl
plain_denotes (symbol l low high) = refl
plain_denotes (join a b) = ap₂ Concatenation (plain_denotes a) (plain_denotes b)
plain_denotes (either a b) = ap₂ Union (plain_denotes a) (plain_denotes b)
plain_denotes (star a) = ap Repetition (plain_denotes a)
plain_denotes (plus a) = ap (λ (R : Language). Concatenation R (Repetition R)) (plain_denotes a)
plain_denotes (optional a) = ap (Union Nothing) (plain_denotes a)
