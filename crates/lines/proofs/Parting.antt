-- Bytes are parted at a mark in one way only.
use Rattle.std.proofs.Common.{◌≡◌, ℕ, List, [], ◌∷◌, ◌++◌, Some, None, Option, sym, refl, ap, ◌∙◌, arith}
use Rattle.lines.specs.Parts.{Lacks, Parts}
use Rattle.lines.specs.Lines.{joined}

module _ (mark : ℕ) where
  -- bytes without a mark are not parted
  whole : (v w q : List ℕ) → Lacks mark v → v ≡ w ++ (mark ∷ q) → ⊥
  whole [] [] q h e = let z : ◌≡◌ {A = ℕ} 0 1 = cc in omega arith
  whole [] (b ∷ w) q h e = let z : ◌≡◌ {A = ℕ} 0 1 = cc in omega arith
  whole (a ∷ v) [] q h e = h.0 (cc)
  whole (a ∷ v) (b ∷ w) q h e = whole v w q h.1 (cc)

  -- the first mark is where the bytes are parted
  same_parts : (v w p q : List ℕ) → Lacks mark v → Lacks mark w → v ++ (mark ∷ p) ≡ w ++ (mark ∷ q) → (v ≡ w) × (p ≡ q)
  same_parts [] [] p q h k e = (refl, cc)
  same_parts [] (b ∷ w) p q h k e = absurd (k.0 (cc))
  same_parts (a ∷ v) [] p q h k e = absurd (h.0 (cc))
  same_parts (a ∷ v) (b ∷ w) p q h k e =
      let s = same_parts v w p q h.1 k.1 (cc) in
      let f = s.0 in
      (cc, s.1)

-- two partings of the same bytes are one
pub one_parting : (mark : ℕ) (t v w : List ℕ) (p q : Option (List ℕ)) → Parts mark t v p → Parts mark t w q → (v ≡ w) × (p ≡ q)
one_parting mark t v w None None h k = (sym h.1 ∙ k.1, refl)
one_parting mark t v w None (Some q) h k = absurd (whole mark v w q h.0 (sym h.1 ∙ k.1))
one_parting mark t v w (Some p) None h k = absurd (whole mark w v p k.0 (sym k.1 ∙ h.1))
one_parting mark t v w (Some p) (Some q) h k = let s = same_parts mark v w p q h.0 k.0 (sym h.1 ∙ k.1) in (s.0, ap Some s.1)

-- a word without a space is parted from what stands behind it
pub joined_parts : (first : List ℕ) (rest : Option (List ℕ)) → Lacks 32 first → Parts 32 (joined first rest) first rest
joined_parts first None h = (h, refl)
joined_parts first (Some rest) h = (h, refl)

pub parts_joined : (text first : List ℕ) (rest : Option (List ℕ)) → Parts 32 text first rest → text ≡ joined first rest
parts_joined text first None h = h.1
parts_joined text first (Some rest) h = h.1
