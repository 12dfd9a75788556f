-- The pairs that a text meets, and which of them are new. Assumes nothing.
use Rattle.std.proofs.Common.{◌≡◌, ℕ, Bool, true, false, ◌&&◌, ◌||◌, eqb, List, [], ◌∷◌, ◌++◌, refl, sym, ap, ◌∙◌, inl, inr, append_assoc, append-nil}
use Rattle.std.specs.List.{AllByRecursion}
use Rattle.std.proofs.lemmas.Bool.{and_from, and_right, or_left, or_right, both_ways, cases_Bool, cond-true, cond-false, eq-eqb}
use Rattle.states.specs.Sets.{State, has, has_rule, same, is_empty}
use Rattle.states.proofs.Members.{same_true, same_self, is_empty_decides}
use Rattle.books.specs.Meaning.{Meaning, Lawful, touches}
use Rattle.books.specs.Texts.{after}
use Rattle.readings.specs.Runs.{Pair, met}
use Rattle.readings.specs.Entries.{among, distinct_from}
use Rattle.readings.proofs.Pairs.{distinct_append}
use Rattle.expressions.proofs.Members.{touched}

-- ---- the way of a text

-- the state before each code, and that code
abbrev pub way : (State → ℕ → State) → State → List ℕ → List Pair
way next s [] = []
way next s (c ∷ cs) = (s, c) ∷ way next (next s c) cs

module _ (m : Meaning) (law : Lawful m) (r : ℕ) where
  -- a state with a position of the rule is not empty
  pub some_position : (s : State) → touches m r s ≡ true → is_empty s ≡ false
  some_position s t = elim (cases_Bool (is_empty s)) [
    | inl e ↦ (let w = touched m r s t in absurd (both_ways (has s w.0) ((is_empty_decides s (is_empty s) refl).0 e w.0) w.1))
    | inr e ↦ e
  ]

  -- what leads to a position of rule r holds one
  pub touched_before : (s : State) (text : List ℕ) → touches m r (after m.next s text) ≡ true → touches m r s ≡ true
  touched_before s [] t = t
  touched_before s (c ∷ cs) t = elim (cases_Bool (touches m r s)) [
    | inl x ↦ x
    | inr x ↦ absurd (both_ways _ (law.apart r s c x) (touched_before (m.next s c) cs t))
  ]

  pub all_touched : (s : State) (text : List ℕ) → touches m r (after m.next s text) ≡ true → AllByRecursion (λ p. touches m r p.0 ≡ true) (way m.next s text)
  all_touched s [] t = tt
  all_touched s (c ∷ cs) t = (touched_before s (c ∷ cs) t, all_touched (m.next s c) cs t)

  -- so the way is met, and the rest from there on
  pub way_met : (s : State) (text rest : List ℕ) → touches m r (after m.next s text) ≡ true
      → met m.next s (text ++ rest) ≡ way m.next s text ++ met m.next (after m.next s text) rest
  way_met s [] rest t = refl
  way_met s (c ∷ cs) rest t =
      cond-false (is_empty s) [] _ (some_position s (touched_before s (c ∷ cs) t)) ∙ ap (λ (ps : List Pair). (s, c) ∷ ps) (way_met (m.next s c) cs rest t)

  pub met_way : (s : State) (text : List ℕ) → touches m r (after m.next s text) ≡ true → met m.next s text ≡ way m.next s text
  met_way s text t =
      ap (met m.next s) (sym (append-nil text)) ∙ way_met s text [] t ∙ append-nil (way m.next s text)

  -- a text that meets the rule leads to a position of it
  pub meets_touched : (s : State) → has_rule (m.ended s) r ≡ true → touches m r s ≡ true
  meets_touched s h = elim (cases_Bool (touches m r s)) [ inl x ↦ x | inr x ↦ absurd (both_ways _ (law.ends r s x) h) ]

-- ---- pairs that differ

pub record Differ (q p : Pair) : Type 0 where
  pub apart : (same q.0 p.0 && eqb q.1 p.1) ≡ false

-- by their codes
pub other_code : {q p : Pair} → eqb q.1 p.1 ≡ false → Differ q p
other_code {q} {p} e = record { apart = and_right (same q.0 p.0) _ e }

-- by their states
pub other_state : {q p : Pair} → (q.0 ≡ p.0 → ⊥) → Differ q p
other_state {q} {p} d = record {
  apart = elim (cases_Bool (same q.0 p.0)) [
    | inl e ↦ absurd (d (same_true q.0 p.0 e))
    | inr e ↦ ap (λ (b : Bool). b && eqb q.1 p.1) e
  ];
}

not_among : (K : List Pair) (p : Pair) → AllByRecursion (λ q. Differ q p) K → among K p ≡ false
not_among [] p a = refl
not_among (q ∷ K) p a = ap (λ (b : Bool). b || among K p) a.0.apart ∙ not_among K p a.1

-- each of the pairs differs from those of K and from those before it
abbrev pub AllNew : List Pair → List Pair → Type 0
AllNew K [] = Unit {0}
AllNew K (p ∷ ps) = AllByRecursion (λ q. Differ q p) K × AllNew (K ++ p ∷ []) ps

pub all_new : (K ps : List Pair) → AllNew K ps → distinct_from K ps ≡ ps
all_new K [] a = refl
all_new K (p ∷ ps) a = cond-false (among K p) _ _ (not_among K p a.0) ∙ ap (λ (qs : List Pair). p ∷ qs) (all_new (K ++ p ∷ []) ps a.1)

-- ---- pairs that are kept

is_among : (K ps : List Pair) (p : Pair) → among (K ++ p ∷ ps) p ≡ true
is_among [] ps p = or_left _ _ (and_from _ _ (same_self p.0) (eq-eqb p.1 p.1 refl))
is_among (q ∷ K) ps p = or_right _ _ (is_among K ps p)

pub none_new : (K ps : List Pair) → distinct_from (K ++ ps) ps ≡ []
none_new K [] = refl
none_new K (p ∷ ps) =
    cond-true (among (K ++ p ∷ ps) p) _ _ (is_among K ps p)
    ∙ ap (λ (L : List Pair). distinct_from L ps) (sym (append_assoc K (p ∷ []) ps)) ∙ none_new (K ++ p ∷ []) ps

-- a text that goes on where the pairs are kept
pub new_behind : (ps qs : List Pair) → AllNew ps qs → distinct_from ps (ps ++ qs) ≡ qs
new_behind ps qs a =
    distinct_append ps ps qs
    ∙ ap (λ (D : List Pair). D ++ distinct_from (ps ++ D) qs) (none_new [] ps)
    ∙ ap (λ (K : List Pair). distinct_from K qs) (append-nil ps) ∙ all_new ps qs a
