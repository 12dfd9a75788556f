-- An expression followed by its end: its positions read exactly the texts that it denotes. Assumes nothing.
use Rattle.std.proofs.Common.{◌≡◌, ℕ, ◌≤◌, ◌⊎◌, ◌↔◌, List, [], ◌∷◌, ◌++◌, sym, refl, ap, ◌∙◌, subst, inl, inr, append-nil, arith}
use Rattle.expressions.specs.Expression.{Labelled, plain, Language, Denotes}
use Rattle.expressions.specs.Positions.{Positions, Distinct, Takes, First, Follow, followed_by}
use Rattle.expressions.proofs.Owned.{takes_owned, plain_denotes}
use Rattle.expressions.proofs.Reading.{only_left, Ahead, Fits, sound, complete, onward_sound}

-- no code is from 1 to 0
no_code : (c : ℕ) → 1 ≤ c → c ≤ 0 → ⊥
no_code c l h = omega arith

-- without the part that a symbol behind it adds to nothing
behind : (A B : Type 0) → (A ⊎ (⊥ ⊎ B)) ↔ (A ⊎ B)
behind A B = (to, from)
  where
    to : A ⊎ (⊥ ⊎ B) → A ⊎ B
    to (inl a) = inl a
    to (inr (inl x)) = absurd x
    to (inr (inr b)) = inr b

    from : A ⊎ B → A ⊎ (⊥ ⊎ B)
    from (inl a) = inl a
    from (inr b) = inr (inr b)

module _ (body : Labelled) (end : ℕ) (distinct : Distinct (followed_by body end)) where
  -- the end alone
  abbrev End : Positions
  End q = end ≡ q

  -- a text that leads from these positions to the end
  abbrev pub Ahead_of : Positions → Language
  Ahead_of = Ahead (Follow (followed_by body end)) (Takes (followed_by body end)) end

  body_fits : Fits (Follow (followed_by body end)) (Takes (followed_by body end)) end body End
  body_fits = (
    λ p q o. behind _ _,
    λ p c o. only_left (λ x. no_code c x.1 x.2),
    λ p o e. distinct.2 p o (sym e),
  )

  -- no code is taken at the end
  end_reads : (v : List ℕ) → Ahead_of End v → v ≡ []
  end_reads [] k = refl
  end_reads (c ∷ v) (q, e, (t, k)) = elim t [
    | inl x ↦ absurd (distinct.2 q (takes_owned body q c x) e)
    | inr x ↦ absurd (no_code c x.1 x.2)
  ]

  -- the firsts read exactly what the expression denotes
  pub firsts_read : (w : List ℕ) → Ahead_of (First (followed_by body end)) w ↔ Denotes (plain body) w
  firsts_read w = (to, from)
    where
      F : ℕ → ℕ → Type 0
      F = Follow (followed_by body end)

      T : ℕ → ℕ → Type 0
      T = Takes (followed_by body end)

      to : Ahead_of (First (followed_by body end)) w → Denotes (plain body) w
      to x =
          let (u, v, e, y, k) = onward_sound F T end body End (sound F T end body End distinct.0 body_fits) w x in
          let whole : w ≡ u = e ∙ ap (λ z. u ++ z) (end_reads v k) ∙ append-nil u in
          subst (λ (D : Language). D w) (sym (plain_denotes body)) (subst (Denotes body) (sym whole) y)

      from : Denotes (plain body) w → Ahead_of (First (followed_by body end)) w
      from x =
          subst (Ahead_of (First (followed_by body end))) (append-nil w)
          (complete F T end body End distinct.0 body_fits w [] (subst (λ (D : Language). D w) (plain_denotes body) x) (end, refl, refl))
