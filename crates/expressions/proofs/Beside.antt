-- Followers stand beside each other at some join, or go round in some repeated part. Assumes nothing.
use Rattle.std.proofs.Common.{◌≡◌, ℕ, refl, subst, inl, inr, arith}
use Rattle.expressions.specs.Expression.{empty, symbol, join, either, star, plus, optional, Labelled}
use Rattle.expressions.specs.Positions.{First, Last, Follow, Inside, Beside, FollowsBeside}

wider : (a e : Labelled) → ((x : Labelled) → Inside x a → Inside x e) → (p q : ℕ) → Beside a p q → Beside e p q
wider a e f p q (inl (x, y, i, l, h)) = inl (x, y, f _ i, l, h)
wider a e f p q (inr (x, inl i, l, h)) = inr (x, inl (f _ i), l, h)
wider a e f p q (inr (x, inr i, l, h)) = inr (x, inr (f _ i), l, h)

to : (e : Labelled) (p q : ℕ) → Follow e p q → Beside e p q
to empty p q f = absurd f
to (symbol l low high) p q f = absurd f
to (join a b) p q (inl f) = wider a (join a b) (λ x i. inr (inl i)) p q (to a p q f)
to (join a b) p q (inr (inl f)) = wider b (join a b) (λ x i. inr (inr i)) p q (to b p q f)
to (join a b) p q (inr (inr f)) = inl (a, b, inl refl, f.0, f.1)
to (either a b) p q (inl f) = wider a (either a b) (λ x i. inr (inl i)) p q (to a p q f)
to (either a b) p q (inr f) = wider b (either a b) (λ x i. inr (inr i)) p q (to b p q f)
to (star a) p q (inl f) = wider a (star a) (λ x i. inr i) p q (to a p q f)
to (star a) p q (inr f) = inr (a, inl (inl refl), f.0, f.1)
to (plus a) p q (inl f) = wider a (plus a) (λ x i. inr i) p q (to a p q f)
to (plus a) p q (inr f) = inr (a, inr (inl refl), f.0, f.1)
to (optional a) p q f = wider a (optional a) (λ x i. inr i) p q (to a p q f)

from : (e : Labelled) (p q : ℕ) → Beside e p q → Follow e p q
from empty p q (inl (x, y, e, l, h)) = let z : ◌≡◌ {A = ℕ} 0 1 = cc in absurd (omega arith)
from empty p q (inr (x, inl e, l, h)) = let z : ◌≡◌ {A = ℕ} 0 1 = cc in absurd (omega arith)
from empty p q (inr (x, inr e, l, h)) = let z : ◌≡◌ {A = ℕ} 0 1 = cc in absurd (omega arith)
from (symbol n low high) p q (inl (x, y, e, l, h)) = let z : ◌≡◌ {A = ℕ} 0 1 = cc in absurd (omega arith)
from (symbol n low high) p q (inr (x, inl e, l, h)) = let z : ◌≡◌ {A = ℕ} 0 1 = cc in absurd (omega arith)
from (symbol n low high) p q (inr (x, inr e, l, h)) = let z : ◌≡◌ {A = ℕ} 0 1 = cc in absurd (omega arith)
from (join a b) p q (inl (x, y, inl e, l, h)) = let s : x ≡ a = cc in let t : y ≡ b = cc in inr (inr (subst (λ z. Last z p) s l, subst (λ z. First z q) t h))
from (join a b) p q (inl (x, y, inr (inl i), l, h)) = inl (from a p q (inl (x, y, i, l, h)))
from (join a b) p q (inl (x, y, inr (inr i), l, h)) = inr (inl (from b p q (inl (x, y, i, l, h))))
from (join a b) p q (inr (x, inl (inl e), l, h)) = let z : ◌≡◌ {A = ℕ} 0 1 = cc in absurd (omega arith)
from (join a b) p q (inr (x, inl (inr (inl i)), l, h)) = inl (from a p q (inr (x, inl i, l, h)))
from (join a b) p q (inr (x, inl (inr (inr i)), l, h)) = inr (inl (from b p q (inr (x, inl i, l, h))))
from (join a b) p q (inr (x, inr (inl e), l, h)) = let z : ◌≡◌ {A = ℕ} 0 1 = cc in absurd (omega arith)
from (join a b) p q (inr (x, inr (inr (inl i)), l, h)) = inl (from a p q (inr (x, inr i, l, h)))
from (join a b) p q (inr (x, inr (inr (inr i)), l, h)) = inr (inl (from b p q (inr (x, inr i, l, h))))
from (either a b) p q (inl (x, y, inl e, l, h)) = let z : ◌≡◌ {A = ℕ} 0 1 = cc in absurd (omega arith)
from (either a b) p q (inl (x, y, inr (inl i), l, h)) = inl (from a p q (inl (x, y, i, l, h)))
from (either a b) p q (inl (x, y, inr (inr i), l, h)) = inr (from b p q (inl (x, y, i, l, h)))
from (either a b) p q (inr (x, inl (inl e), l, h)) = let z : ◌≡◌ {A = ℕ} 0 1 = cc in absurd (omega arith)
from (either a b) p q (inr (x, inl (inr (inl i)), l, h)) = inl (from a p q (inr (x, inl i, l, h)))
from (either a b) p q (inr (x, inl (inr (inr i)), l, h)) = inr (from b p q (inr (x, inl i, l, h)))
from (either a b) p q (inr (x, inr (inl e), l, h)) = let z : ◌≡◌ {A = ℕ} 0 1 = cc in absurd (omega arith)
from (either a b) p q (inr (x, inr (inr (inl i)), l, h)) = inl (from a p q (inr (x, inr i, l, h)))
from (either a b) p q (inr (x, inr (inr (inr i)), l, h)) = inr (from b p q (inr (x, inr i, l, h)))
from (star a) p q (inl (x, y, inl e, l, h)) = let z : ◌≡◌ {A = ℕ} 0 1 = cc in absurd (omega arith)
from (star a) p q (inl (x, y, inr i, l, h)) = inl (from a p q (inl (x, y, i, l, h)))
from (star a) p q (inr (x, inl (inl e), l, h)) = let s : x ≡ a = cc in inr (subst (λ z. Last z p) s l, subst (λ z. First z q) s h)
from (star a) p q (inr (x, inl (inr i), l, h)) = inl (from a p q (inr (x, inl i, l, h)))
from (star a) p q (inr (x, inr (inl e), l, h)) = let z : ◌≡◌ {A = ℕ} 0 1 = cc in absurd (omega arith)
from (star a) p q (inr (x, inr (inr i), l, h)) = inl (from a p q (inr (x, inr i, l, h)))
from (plus a) p q (inl (x, y, inl e, l, h)) = let z : ◌≡◌ {A = ℕ} 0 1 = cc in absurd (omega arith)
from (plus a) p q (inl (x, y, inr i, l, h)) = inl (from a p q (inl (x, y, i, l, h)))
from (plus a) p q (inr (x, inl (inl e), l, h)) = let z : ◌≡◌ {A = ℕ} 0 1 = cc in absurd (omega arith)
from (plus a) p q (inr (x, inl (inr i), l, h)) = inl (from a p q (inr (x, inl i, l, h)))
from (plus a) p q (inr (x, inr (inl e), l, h)) = let s : x ≡ a = cc in inr (subst (λ z. Last z p) s l, subst (λ z. First z q) s h)
from (plus a) p q (inr (x, inr (inr i), l, h)) = inl (from a p q (inr (x, inr i, l, h)))
from (optional a) p q (inl (x, y, inl e, l, h)) = let z : ◌≡◌ {A = ℕ} 0 1 = cc in absurd (omega arith)
from (optional a) p q (inl (x, y, inr i, l, h)) = from a p q (inl (x, y, i, l, h))
from (optional a) p q (inr (x, inl (inl e), l, h)) = let z : ◌≡◌ {A = ℕ} 0 1 = cc in absurd (omega arith)
from (optional a) p q (inr (x, inl (inr i), l, h)) = from a p q (inr (x, inl i, l, h))
from (optional a) p q (inr (x, inr (inl e), l, h)) = let z : ◌≡◌ {A = ℕ} 0 1 = cc in absurd (omega arith)
from (optional a) p q (inr (x, inr (inr i), l, h)) = from a p q (inr (x, inr i, l, h))

pub follows_beside : FollowsBeside
follows_beside e p q = (to e p q, from e p q)
