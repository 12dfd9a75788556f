-- The end put behind the expression that waits alone. Assumes nothing.
use Rattle.std.proofs.Common.{◌≡◌, ℕ, true, ◌||◌, ◌⊎◌, List, [], ◌∷◌, map, Decides, sym, ap, ◌∙◌, inl, inr}
use Rattle.std.proofs.lemmas.Bool.{both_ways, and_parts}
use Rattle.std.proofs.lemmas.Bool.Decides.{Decides-at, Decides-or}
use Rattle.states.specs.Sets.{State, has}
use Rattle.expressions.specs.Expression.{symbol, join, Labelled, Plain, plain}
use Rattle.expressions.specs.CodeRange.{none}
use Rattle.expressions.specs.Positions.{Owns, Distinct, First, followed_by}
use Rattle.expressions.proofs.Owned.{first_owned, last_owned}
use Rattle.expression_book.specs.declared.part.Part.{Part}
use Rattle.expression_book.specs.declared.table.Table.{Table}
use Rattle.expression_book.specs.Parts.{Shows}
use Rattle.expression_book.specs.Building.{Gives, Links, AllShow, Separate, taken, Beside, Building}
use Rattle.expression_book.specs.Laws.{rule_at}
use Rattle.expression_book.proofs.Pieces.{tabled_join, separate_symbol, separate_two}
use Rattle.expression_book.proofs.Built.{Rows, follows_new, codes_new, link_rows, link_beside, not_taken, give_rows, give_beside}

module _ (a : Table) (r : ℕ) (t₁ t₂ : Table) (at : ℕ) (e : Plain) (part kend : Part) (b : Building a r (e ∷ []) (part ∷ []) t₁)
    (gives : Gives r none at t₁ t₂) (shows-end : (lo hi : ℕ) → Shows kend (symbol at lo hi)) where
  alone : (x : Labelled) × Shows part x × (plain x ≡ e) × Separate (x ∷ []) × Rows a t₁ (x ∷ [])
  alone = go b.waiting b.named b.shown b.separate b.rows
    where
      go : (es : List Labelled) → map plain es ≡ e ∷ [] → AllShow (part ∷ []) es → Separate es → Rows a t₁ es
          → (x : Labelled) × Shows part x × (plain x ≡ e) × Separate (x ∷ []) × Rows a t₁ (x ∷ [])
      go [] n s p u = absurd s
      go (x ∷ []) n s p u = (x, s.0, cc, p, u)
      go (x ∷ y ∷ es) n s p u = absurd s.1

  pub body : Labelled
  body = alone.0

  pub body_copy : plain body ≡ e
  unfolding body
  body_copy = alone.2

  pub shows_body : Shows part body
  unfolding body
  shows_body = alone.1

  separate : Separate (symbol at 1 0 ∷ body ∷ [])
  unfolding body
  separate = separate_symbol at 1 0 (body ∷ []) (λ x. both_ways _ (not_taken a r none at t₁ t₂ gives b.beside) ((alone.4.used at).1 x)) alone.3

  pub distinct : Distinct (followed_by body at)
  distinct = (separate_two body (symbol at 1 0) [] separate).0

  rows₂ : Rows a t₂ (symbol at 1 0 ∷ body ∷ [])
  unfolding body
  rows₂ = give_rows a r none at t₁ t₂ gives b.beside (body ∷ []) alone.4

  beside₂ : Beside a r t₂
  beside₂ = give_beside a r none at t₁ t₂ gives b.beside

  last_inside : (p : ℕ) → has part.last p ≡ true → taken a t₂ p ≡ true
  last_inside p h = (rows₂.used p).1 (inr (inl (last_owned body p ((shows_body.last p).0 h))))

  end_inside : (q : ℕ) → has kend.first q ≡ true → taken a t₂ q ≡ true
  end_inside q h = (rows₂.used q).1 (inl (((shows-end 1 0).first q).0 h))

  -- what the link asks

  pub link_live : (p q : ℕ) → has part.last p ≡ true → has kend.first q ≡ true → has t₂.live p ≡ true
  link_live p q h i = (and_parts (has t₂.live p) _ (last_inside p h)).0

  pub link_follows : (p q : ℕ) → has part.last p ≡ true → has kend.first q ≡ true → has t₂.live q ≡ true
  link_follows p q h i = (and_parts (has t₂.live q) _ (end_inside q i)).0

  pub link_together : (p q : ℕ) → has part.last p ≡ true → has kend.first q ≡ true → rule_at t₂ q ≡ rule_at t₂ p
  link_together p q h i = beside₂.rule q (end_inside q i) ∙ sym (beside₂.rule p (last_inside p h))

  -- what the link gives

  module _ (t₃ : Table) (links : Links part.last kend.first t₂ t₃) where
    pub end_rows : Rows a t₃ (followed_by body at ∷ [])
    end_rows =
        link_rows a r t₂ t₃ part.last kend.first links last_inside (followed_by body at ∷ [])
        (tabled_join (taken a t₂) (follows_new a t₂) (codes_new a t₂) [] body (symbol at 1 0) (has part.last) (has kend.first) shows_body.last (shows-end 1 0).first rows₂)

    pub end_beside : Beside a r t₃
    end_beside = link_beside a r t₂ t₃ part.last kend.first links last_inside beside₂

    owned_live : (p : ℕ) → Owns (followed_by body at) p → has t₃.live p ≡ true
    owned_live p o = (and_parts (has t₃.live p) _ ((end_rows.used p).1 (inl o))).0

    module _ (whole : Part) (shows-join : (x y : Labelled) → Shows part x → Shows kend y → Shows whole (join x y)) where
      shows_whole : Shows whole (followed_by body at)
      shows_whole = shows-join body (symbol at 1 0) shows_body (shows-end 1 0)

      pub first_live : (p : ℕ) → has whole.first p ≡ true → has t₃.live p ≡ true
      first_live p h = owned_live p (first_owned (followed_by body at) p ((shows_whole.first p).0 h))

      pub end_live : (p : ℕ) → has kend.first p ≡ true → has t₃.live p ≡ true
      end_live p h = owned_live p (inr (((shows-end 1 0).first p).0 h))

      pub started : (s : State) → ((p : ℕ) → has s p ≡ (has t₃.start p || has whole.first p))
          → (p : ℕ) → Decides (has s p) ((has a.start p ≡ true) ⊎ First (followed_by body at) p)
      started s is p =
          Decides-at (has s p) _ (is p ∙ ap (λ (x : State). has x p || has whole.first p) end_beside.holds.start)
          (Decides-or (has a.start p) (has whole.first p) (λ h. h, λ h. h) (shows_whole.first p))

      pub ended_with : (s : State) → ((p : ℕ) → has s p ≡ (has t₃.ends p || has kend.first p))
          → (p : ℕ) → Decides (has s p) ((has a.ends p ≡ true) ⊎ (at ≡ p))
      ended_with s is p =
          Decides-at (has s p) _ (is p ∙ ap (λ (x : State). has x p || has kend.first p) end_beside.holds.ends)
          (Decides-or (has a.ends p) (has kend.first p) (λ h. h, λ h. h) ((shows-end 1 0).first p))
