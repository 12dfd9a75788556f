-- The pairs that kept steps are from, and what more of them changes. Assumes nothing.
use Rattle.std.proofs.Common.{◌≡◌, ℕ, suc, ◌+◌, ◌≤◌, Bool, true, false, cond, not, ◌&&◌, ◌||◌, eqb, ltb, leb, List, [], ◌∷◌, ◌++◌, map, length, is_some, Some, filter, sym, refl, ap, ◌∙◌, subst, inl, inr, append_assoc, append-nil, arith, length-append}
use Rattle.std.specs.List.{AllByRecursion}
use Rattle.std.proofs.lemmas.List.{map_push, length-map}
use Rattle.std.proofs.lemmas.Bool.{and_parts, or_cases, or_left, or_right, cond-true, cond-false, cond_both, cases_Bool, both_ways, not_from_false, lt-ltb, le-ltb, leb-true, leb-false}
use Rattle.states.specs.Sets.{same}
use Rattle.states.proofs.Members.{same_true}
use Rattle.books.specs.Meaning.{Meaning, touches}
use Rattle.kept.specs.Steps.{Step, most, found, keep}
use Rattle.readings.specs.Runs.{Pair, meant, is_kept, keep_all, worked}
use Rattle.readings.specs.Calls.{without}
use Rattle.readings.specs.Entries.{among, distinct_from, keep_pair, keep_pairs}
use Rattle.readings.proofs.Tables.{keep_kept}

-- the pair that a step is from
abbrev pub pair : Step → Pair
pair k = (k.state, k.code)

abbrev pub pairs : List Step → List Pair
pairs ks = map pair ks

-- ---- a step is kept where its pair is among the pairs

pub kept_among : (ks : List Step) (p : Pair) → is_kept ks p ≡ among (pairs ks) p
unfolding found
kept_among [] p = refl
kept_among (k ∷ ks) p = first (same k.state p.0 && eqb k.code p.1) (kept_among ks p)
  where
    first : (b : Bool) → is_kept ks p ≡ among (pairs ks) p → is_some (cond b (Some k.next) (found ks p.0 p.1)) ≡ (b || among (pairs ks) p)
    first true more = refl
    first false more = more

pairs_keep : (m : Meaning) (ks : List Step) (p : Pair) → pairs (keep ks (meant m p)) ≡ keep_pair (pairs ks) p
unfolding keep
pairs_keep m ks p =
    subst (λ (n : ℕ). pairs (keep ks (meant m p)) ≡ cond (among (pairs ks) p) (pairs ks) (cond (ltb n most) (pairs ks ++ p ∷ []) (pairs ks)))
    (sym (length-map ks pair))
    (subst (λ (b : Bool). pairs (keep ks (meant m p)) ≡ cond b (pairs ks) (cond (ltb (length ks) most) (pairs ks ++ p ∷ []) (pairs ks)))
    (kept_among ks p) (go (is_kept ks p)))
  where
    go : (b : Bool) → pairs (cond (b || leb most (length ks)) ks (ks ++ meant m p ∷ [])) ≡ cond b (pairs ks) (cond (ltb (length ks) most) (pairs ks ++ p ∷ []) (pairs ks))
    go true = refl
    go false = cond_both (leb most (length ks)) ks (ks ++ meant m p ∷ []) (λ t. pairs t ≡ cond (ltb (length ks) most) (pairs ks ++ p ∷ []) (pairs ks))
        (λ e. sym (cond-false (ltb (length ks) most) _ _ (le-ltb (length ks) most (leb-true most (length ks) e))))
        (λ e. map_push pair ks (meant m p) ∙ sym (cond-true (ltb (length ks) most) _ _ (lt-ltb (length ks) most (leb-false most (length ks) e))))

pub pairs_keep_all : (m : Meaning) (ks : List Step) (ps : List Pair) → pairs (keep_all m ks ps) ≡ keep_pairs (pairs ks) ps
pairs_keep_all m ks [] = refl
pairs_keep_all m ks (p ∷ ps) = pairs_keep_all m (keep ks (meant m p)) ps ∙ ap (λ (K : List Pair). keep_pairs K ps) (pairs_keep m ks p)

pub pairs_without : (m : Meaning) (r : ℕ) (ks : List Step) → pairs (without m r ks) ≡ filter (λ (p : Pair). not (touches m r p.0)) (pairs ks)
pairs_without m r [] = refl
pairs_without m r (k ∷ ks) = first (not (touches m r k.state)) (pairs_without m r ks)
  where
    first : (b : Bool) → pairs (without m r ks) ≡ filter (λ (p : Pair). not (touches m r p.0)) (pairs ks)
        → pairs (cond b (k ∷ without m r ks) (without m r ks))
        ≡ cond b (pair k ∷ filter (λ (p : Pair). not (touches m r p.0)) (pairs ks)) (filter (λ (p : Pair). not (touches m r p.0)) (pairs ks))
    first true more = ap (λ (K : List Pair). pair k ∷ K) more
    first false more = more

-- ---- a kept pair stays kept

among_append : (K L : List Pair) (p : Pair) → among K p ≡ true → among (K ++ L) p ≡ true
among_append [] L p e = absurd (both_ways false refl e)
among_append (q ∷ K) L p e = first (same q.0 p.0 && eqb q.1 p.1) (among_append K L p) e
  where
    first : (b : Bool) → (among K p ≡ true → among (K ++ L) p ≡ true) → (b || among K p) ≡ true → (b || among (K ++ L) p) ≡ true
    first true more f = refl
    first false more f = more f

among_keep : (K : List Pair) (q p : Pair) → among K p ≡ true → among (keep_pair K q) p ≡ true
among_keep K q p e =
    cond_both (among K q) K _ (λ t. among t p ≡ true) (λ f. e)
    (λ f. cond_both (ltb (length K) most) (K ++ q ∷ []) K (λ t. among t p ≡ true) (λ g. among_append K (q ∷ []) p e) (λ g. e))

-- whatever is met
pub among_keep_pairs : (K ps : List Pair) (p : Pair) → among K p ≡ true → among (keep_pairs K ps) p ≡ true
among_keep_pairs K [] p e = e
among_keep_pairs K (q ∷ ps) p e = among_keep_pairs (keep_pair K q) ps p (among_keep K q p e)

-- whichever rule is deleted of which its state holds no position
pub among_without : (m : Meaning) (r : ℕ) (K : List Pair) (p : Pair) → touches m r p.0 ≡ false → among K p ≡ true
    → among (filter (λ (q : Pair). not (touches m r q.0)) K) p ≡ true
among_without m r [] p h e = e
among_without m r (q ∷ K) p h e = elim (or_cases (same q.0 p.0 && eqb q.1 p.1) (among K p) e) [
  | inl f ↦ (let s = same_true q.0 p.0 (and_parts (same q.0 p.0) (eqb q.1 p.1) f).0 in
      ap (λ (t : List Pair). among t p) (cond-true (not (touches m r q.0)) _ _ (not_from_false _ (ap (touches m r) s ∙ h)))
      ∙ or_left (same q.0 p.0 && eqb q.1 p.1) _ f)
  | inr f ↦ (let more = among_without m r K p h f in
      cond_both (not (touches m r q.0)) _ _ (λ t. among t p ≡ true) (λ g. or_right (same q.0 p.0 && eqb q.1 p.1) _ more) (λ g. more))
]

-- ---- what is worked out

-- nothing, where all is kept
pub worked_none : (m : Meaning) (ks : List Step) (ps : List Pair) → AllByRecursion (λ p. among (pairs ks) p ≡ true) ps → worked m ks ps ≡ []
worked_none m ks [] a = refl
worked_none m ks (p ∷ ps) a = cond-true (is_kept ks p) _ _ (kept_among ks p ∙ a.0) ∙ worked_none m ks ps a.1

-- the pairs not kept before, each once, where there is room, and they are kept
pub worked_distinct : (m : Meaning) (ks : List Step) (ps : List Pair) → length (pairs ks) + length (distinct_from (pairs ks) ps) ≤ most
    → (worked m ks ps ≡ distinct_from (pairs ks) ps) × (pairs (keep_all m ks ps) ≡ pairs ks ++ distinct_from (pairs ks) ps)
worked_distinct m ks [] l = (refl, sym (append-nil (pairs ks)))
worked_distinct m ks (p ∷ ps) l = elim (cases_Bool (among (pairs ks) p)) [
  | inl e ↦ (let i = kept_among ks p ∙ e in
      let d = cond-true (among (pairs ks) p) (distinct_from (pairs ks) ps) (p ∷ distinct_from (pairs ks ++ p ∷ []) ps) e in
      let h = worked_distinct m ks ps (subst (λ (t : List Pair). length (pairs ks) + length t ≤ most) d l) in (
        cond-true (is_kept ks p) _ _ i ∙ h.0 ∙ sym d,
        ap (λ (t : List Step). pairs (keep_all m t ps)) (keep_kept m ks p i) ∙ h.1 ∙ ap (λ (t : List Pair). pairs ks ++ t) (sym d),
      ))
  | inr e ↦ (let i = kept_among ks p ∙ e in
      let D = distinct_from (pairs ks ++ p ∷ []) ps in
      let d = cond-false (among (pairs ks) p) (distinct_from (pairs ks) ps) (p ∷ D) e in
      let l' : length (pairs ks) + suc (length D) ≤ most = subst (λ (t : List Pair). length (pairs ks) + length t ≤ most) d l in
      let n = length-append (pairs ks) (p ∷ []) in
      let K : pairs (keep ks (meant m p)) ≡ pairs ks ++ p ∷ [] =
      pairs_keep m ks p ∙ cond-false (among (pairs ks) p) _ _ e ∙ cond-true (ltb (length (pairs ks)) most) _ _ (lt-ltb _ most (omega arith)) in
      let h = subst (λ (t : List Pair). length t + length (distinct_from t ps) ≤ most
      → (worked m (keep ks (meant m p)) ps ≡ distinct_from t ps) × (pairs (keep_all m (keep ks (meant m p)) ps) ≡ t ++ distinct_from t ps)) K
      (worked_distinct m (keep ks (meant m p)) ps) (omega arith) in (
        cond-false (is_kept ks p) _ _ i ∙ ap (λ (t : List Pair). p ∷ t) h.0 ∙ sym d,
        h.1 ∙ append_assoc (pairs ks) (p ∷ []) D ∙ ap (λ (t : List Pair). pairs ks ++ t) (sym d),
      ))
]

pub distinct_append : (K ps qs : List Pair) → distinct_from K (ps ++ qs) ≡ distinct_from K ps ++ distinct_from (K ++ distinct_from K ps) qs
distinct_append K [] qs = ap (λ (t : List Pair). distinct_from t qs) (sym (append-nil K))
distinct_append K (p ∷ ps) qs = first (among K p) (λ t. distinct_append t ps qs)
  where
    first : (b : Bool) → ((t : List Pair) → distinct_from t (ps ++ qs) ≡ distinct_from t ps ++ distinct_from (t ++ distinct_from t ps) qs)
        → cond b (distinct_from K (ps ++ qs)) (p ∷ distinct_from (K ++ p ∷ []) (ps ++ qs))
        ≡ cond b (distinct_from K ps) (p ∷ distinct_from (K ++ p ∷ []) ps) ++ distinct_from (K ++ cond b (distinct_from K ps) (p ∷ distinct_from (K ++ p ∷ []) ps)) qs
    first true more = more K
    first false more =
        ap (λ (t : List Pair). p ∷ t)
        (more (K ++ p ∷ []) ∙ ap (λ (t : List Pair). distinct_from (K ++ p ∷ []) ps ++ distinct_from t qs) (append_assoc K (p ∷ []) (distinct_from (K ++ p ∷ []) ps)))
