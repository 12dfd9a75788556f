-- What one more kept step does to a table. Assumes nothing.
use Rattle.std.proofs.Common.{◌≡◌, ℕ, Bool, true, false, cond, ◌&&◌, ◌||◌, eqb, leb, List, [], ◌∷◌, ◌++◌, length, is_some, Some, None, unwrap_or, refl, ◌∙◌, ap₂}
use Rattle.std.proofs.lemmas.Bool.{and_parts, or_left, eqb-true, cond-true, cond_both}
use Rattle.states.specs.Sets.{State}
use Rattle.states.specs.Sets.{same}
use Rattle.states.proofs.Members.{same_true}
use Rattle.books.specs.Meaning.{Meaning}
use Rattle.kept.specs.Steps.{Step, most, found, keep}
use Rattle.readings.specs.Runs.{Pair, meant, is_kept, keep_all}

-- the pair's own step leads where the book says
same_next : (m : Meaning) (p : Pair) (s : State) (c : ℕ) (b : Bool) → (same p.0 s && eqb p.1 c) ≡ b
    → unwrap_or (cond b (Some (m.next p.0 p.1)) None) (m.next s c) ≡ m.next s c
same_next m p s c true e =
    let h = and_parts (same p.0 s) (eqb p.1 c) e in
    ap₂ m.next (same_true p.0 s h.0) (eqb-true p.1 c h.1)
same_next m p s c false e = refl

-- a kept step of the book changes no way that the book does not change
push_next : (m : Meaning) (ks : List Step) (p : Pair) (s : State) (c : ℕ)
    → unwrap_or (found (ks ++ meant m p ∷ []) s c) (m.next s c) ≡ unwrap_or (found ks s c) (m.next s c)
unfolding found
push_next m [] p s c = same_next m p s c (same p.0 s && eqb p.1 c) refl
push_next m (k ∷ ks) p s c = first (same k.state s && eqb k.code c) (push_next m ks p s c)
  where
    first : (b : Bool) → unwrap_or (found (ks ++ meant m p ∷ []) s c) (m.next s c) ≡ unwrap_or (found ks s c) (m.next s c)
        → unwrap_or (cond b (Some k.next) (found (ks ++ meant m p ∷ []) s c)) (m.next s c) ≡ unwrap_or (cond b (Some k.next) (found ks s c)) (m.next s c)
    first true more = refl
    first false more = more

-- keeping a step leaves the table, or puts the step behind it
pub keep_both : (ks : List Step) (k : Step) (P : List Step → Type 0) → P ks → P (ks ++ k ∷ []) → P (keep ks k)
unfolding keep
keep_both ks k P old new = cond_both (is_some (found ks k.state k.code) || leb most (length ks)) ks (ks ++ k ∷ []) P (λ e. old) (λ e. new)

keep_next : (m : Meaning) (ks : List Step) (p : Pair) (s : State) (c : ℕ)
    → unwrap_or (found (keep ks (meant m p)) s c) (m.next s c) ≡ unwrap_or (found ks s c) (m.next s c)
keep_next m ks p s c =
    keep_both ks (meant m p) (λ t. unwrap_or (found t s c) (m.next s c) ≡ unwrap_or (found ks s c) (m.next s c)) refl (push_next m ks p s c)

-- what was kept on the way does not change where a reader goes
pub keep_all_next : (m : Meaning) (ks : List Step) (ps : List Pair) (s : State) (c : ℕ)
    → unwrap_or (found (keep_all m ks ps) s c) (m.next s c) ≡ unwrap_or (found ks s c) (m.next s c)
keep_all_next m ks [] s c = refl
keep_all_next m ks (p ∷ ps) s c = keep_all_next m (keep ks (meant m p)) ps s c ∙ keep_next m ks p s c

-- a step that is kept is not kept again
pub keep_kept : (m : Meaning) (ks : List Step) (p : Pair) → is_kept ks p ≡ true → keep ks (meant m p) ≡ ks
unfolding keep
keep_kept m ks p e = cond-true (is_kept ks p || leb most (length ks)) ks _ (or_left (is_kept ks p) (leb most (length ks)) e)

pub keep_all_append : (m : Meaning) (ks : List Step) (ps qs : List Pair) → keep_all m ks (ps ++ qs) ≡ keep_all m (keep_all m ks ps) qs
keep_all_append m ks [] qs = refl
keep_all_append m ks (p ∷ ps) qs = keep_all_append m (keep ks (meant m p)) ps qs
