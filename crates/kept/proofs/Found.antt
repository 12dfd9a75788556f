-- Which step is found in a list, and lists in which no state and code come twice. Assumes nothing.
use Rattle.std.proofs.Common.{◌≡◌, ℕ, Bool, true, false, cond, not, eqb, List, [], ◌∷◌, ◌++◌, is_some, Some, None, filter, Option, sym, refl, ap, ◌∙◌, subst, inl, inr}
use Rattle.std.specs.Option.{option_or}
use Rattle.std.specs.List.{AllByRecursion}
use Rattle.std.proofs.ByRecursion.{All-weaker}
use Rattle.std.proofs.lemmas.Bool.{both_ways, cases_Bool, and_parts, and_from, not-true, cond-true, cond-false, cond_both, eqb-true, eq-eqb}
use Rattle.states.specs.Sets.{State}
use Rattle.states.specs.Sets.{same}
use Rattle.states.proofs.Members.{same_true, same_self}
use Rattle.kept.specs.Steps.{Step, step, from, found, distinct}

-- ---- an answer of a search

pub none_from_is_some : {X : Type 0} (o : Option X) → is_some o ≡ false → o ≡ None
none_from_is_some None e = refl
none_from_is_some (Some x) e = absurd (both_ways _ e refl)

-- ---- the first step

pub from_self : (k : Step) → from k k.state k.code ≡ true
from_self k = and_from _ _ (same_self k.state) (eq-eqb k.code k.code refl)

pub from_true : (k : Step) (s : State) (c : ℕ) → from k s c ≡ true → (k.state ≡ s) × (k.code ≡ c)
from_true k s c e =
    let h = and_parts (same k.state s) (eqb k.code c) e in
    (same_true k.state s h.0, eqb-true k.code c h.1)

pub from_sym : (j k : Step) → from k j.state j.code ≡ true → from j k.state k.code ≡ true
from_sym j k e =
    let h = from_true k j.state j.code e in
    (λ i. from j (h.0 i) (h.1 i)) ∙ from_self j

pub found_here : (k : Step) (ks : List Step) (s : State) (c : ℕ) → from k s c ≡ true → found (k ∷ ks) s c ≡ Some k.next
unfolding found
found_here k ks s c e = cond-true _ _ _ e

pub found_past : (k : Step) (ks : List Step) (s : State) (c : ℕ) → from k s c ≡ false → found (k ∷ ks) s c ≡ found ks s c
unfolding found
found_past k ks s c e = cond-false _ _ _ e

-- where nothing is found, the first step is not from there
pub first_apart : (k : Step) (ks : List Step) (s : State) (c : ℕ) → found (k ∷ ks) s c ≡ None → (from k s c ≡ false) × (found ks s c ≡ None)
first_apart k ks s c e = elim (cases_Bool (from k s c)) [
  | inl h ↦ absurd (both_ways true (sym (ap is_some (found_here k ks s c h)) ∙ ap is_some e) refl)
  | inr h ↦ (h, sym (found_past k ks s c h) ∙ e)
]

-- a second list counts where the first has none
pub found_append : (ks js : List Step) (s : State) (c : ℕ) → found (ks ++ js) s c ≡ option_or (found ks s c) (found js s c)
unfolding found
found_append [] js s c = refl
found_append (k ∷ ks) js s c = elim (cases_Bool (from k s c)) [
  | inl h ↦ rw h
  | inr h ↦ rw h (found_append ks js s c)
]

pub found_append_some : (ks js : List Step) (s : State) (c : ℕ) (n : State) → found ks s c ≡ Some n → found (ks ++ js) s c ≡ Some n
found_append_some ks js s c n e = found_append ks js s c ∙ ap (λ (o : Option State). option_or o (found js s c)) e

pub found_append_none : (ks js : List Step) (s : State) (c : ℕ) → found ks s c ≡ None → found (ks ++ js) s c ≡ found js s c
found_append_none ks js s c e = found_append ks js s c ∙ ap (λ (o : Option State). option_or o (found js s c)) e

-- a step from elsewhere, or by another code, at the end changes nothing
pub found_push_other : (ks : List Step) (k : Step) (s : State) (c : ℕ) → from k s c ≡ false → found (ks ++ k ∷ []) s c ≡ found ks s c
unfolding found
found_push_other ks k s c f = found_append ks (k ∷ []) s c ∙ ap (option_or (found ks s c)) (found_past k [] s c f) ∙ alone (found ks s c)
  where
    alone : (o : Option State) → option_or o None ≡ o
    alone None = refl
    alone (Some n) = refl

-- what holds of every step holds of the one that is found
pub found_holds : (P : Step → Type 0) (ks : List Step) (s : State) (c : ℕ) (n : State) → AllByRecursion P ks → found ks s c ≡ Some n → P (step s c n)
unfolding found
found_holds P [] s c n a e = absurd (both_ways true (sym (ap is_some e)) refl)
found_holds P (k ∷ ks) s c n a e = elim (cases_Bool (from k s c)) [
  | inl h ↦ (let w = from_true k s c h in
      let same_next : k.next ≡ n = cc (found_here k ks s c h, e) in
      subst P (λ i. step (w.0 i) (w.1 i) (same_next i)) a.0)
  | inr h ↦ found_holds P ks s c n a.1 (sym (found_past k ks s c h) ∙ e)
]

-- ---- no two from the same state by the same code

pub distinct_parts : (k : Step) (ks : List Step) → distinct (k ∷ ks) ≡ true → (found ks k.state k.code ≡ None) × (distinct ks ≡ true)
unfolding distinct
distinct_parts k ks e =
    let h = and_parts (not (is_some (found ks k.state k.code))) (distinct ks) e in
    (none_from_is_some _ (not-true _ h.0), h.1)

pub distinct_cons : (k : Step) (ks : List Step) → found ks k.state k.code ≡ None → distinct ks ≡ true → distinct (k ∷ ks) ≡ true
unfolding distinct
distinct_cons k ks e d = and_from (not (is_some (found ks k.state k.code))) (distinct ks) (ap (λ (o : Option State). not (is_some o)) e) d

-- each step is the one that is found from its state by its code
pub distinct_found : (ks : List Step) → distinct ks ≡ true → AllByRecursion (λ k. found ks k.state k.code ≡ Some k.next) ks
distinct_found [] d = tt
distinct_found (k ∷ ks) d =
    let h = distinct_parts k ks d in (
      found_here k ks k.state k.code (from_self k),
      All-weaker (λ j. found ks j.state j.code ≡ Some j.next) (λ j. found (k ∷ ks) j.state j.code ≡ Some j.next) (λ j e. elim (cases_Bool (from k j.state j.code)) [
        | inl f ↦ (let w = from_true k j.state j.code f in
            let none : found ks j.state j.code ≡ None = (λ i. found ks (sym w.0 i) (sym w.1 i)) ∙ h.0 in
            absurd (both_ways true (sym (ap is_some e) ∙ ap is_some none) refl))
        | inr f ↦ found_past k ks j.state j.code f ∙ e
      ]) ks (distinct_found ks h.1),
    )

-- one more at the end
pub distinct_push : (ks : List Step) (k : Step) → distinct ks ≡ true → found ks k.state k.code ≡ None → distinct (ks ++ k ∷ []) ≡ true
unfolding found
distinct_push [] k d e = distinct_cons k [] refl d
distinct_push (j ∷ ks) k d e =
    let h = distinct_parts j ks d in
    let past = first_apart j ks k.state k.code e in
    let apart : from k j.state j.code ≡ false = elim (cases_Bool (from k j.state j.code)) [
      | inl f ↦ absurd (both_ways _ past.0 (from_sym j k f))
      | inr f ↦ f
    ] in
    distinct_cons j (ks ++ k ∷ []) (found_append_none ks (k ∷ []) j.state j.code h.0 ∙ found_past k [] j.state j.code apart)
    (distinct_push ks k h.1 past.1)

-- ---- some of the steps

-- a filter finds no more
pub found_kept_by_none : (q : Step → Bool) (ks : List Step) (s : State) (c : ℕ) → found ks s c ≡ None → found (filter q ks) s c ≡ None
found_kept_by_none q [] s c e = e
found_kept_by_none q (k ∷ ks) s c e =
    let h = first_apart k ks s c e in
    let rest = found_kept_by_none q ks s c h.1 in
    cond_both (q k) (k ∷ filter q ks) (filter q ks) (λ js. found js s c ≡ None) (λ _. found_past k (filter q ks) s c h.0 ∙ rest) (λ _. rest)

pub distinct_kept_by : (q : Step → Bool) (ks : List Step) → distinct ks ≡ true → distinct (filter q ks) ≡ true
distinct_kept_by q [] d = d
distinct_kept_by q (k ∷ ks) d =
    let h = distinct_parts k ks d in
    let rest = distinct_kept_by q ks h.1 in
    cond_both (q k) (k ∷ filter q ks) (filter q ks) (λ js. distinct js ≡ true)
    (λ _. distinct_cons k (filter q ks) (found_kept_by_none q ks k.state k.code h.0) rest) (λ _. rest)

-- by a test of the state: from a state that passes, the same is found
pub found_kept_by : (q : State → Bool) (ks : List Step) (s : State) (c : ℕ) → q s ≡ true → found (filter (λ x. q x.state) ks) s c ≡ found ks s c
found_kept_by q [] s c p = refl
found_kept_by q (k ∷ ks) s c p = elim (cases_Bool (from k s c)) [
  | inl h ↦ ap (λ (b : Bool). found (cond b (k ∷ filter (λ x. q x.state) ks) (filter (λ x. q x.state) ks)) s c) (ap q (from_true k s c h).0 ∙ p)
      ∙ found_here k (filter (λ x. q x.state) ks) s c h ∙ sym (found_here k ks s c h)
  | inr h ↦ by_test (q k.state) h (found_kept_by q ks s c p) ∙ sym (found_past k ks s c h)
]
  where
    by_test : (b : Bool) → from k s c ≡ false → found (filter (λ x. q x.state) ks) s c ≡ found ks s c
        → found (cond b (k ∷ filter (λ x. q x.state) ks) (filter (λ x. q x.state) ks)) s c ≡ found ks s c
    by_test true f r = found_past k (filter (λ x. q x.state) ks) s c f ∙ r
    by_test false f r = r

-- and from one that does not, nothing
pub found_dropped : (q : State → Bool) (ks : List Step) (s : State) (c : ℕ) → q s ≡ false → found (filter (λ x. q x.state) ks) s c ≡ None
unfolding found
found_dropped q [] s c p = refl
found_dropped q (k ∷ ks) s c p = by_test (q k.state) refl (found_dropped q ks s c p)
  where
    by_test : (b : Bool) → q k.state ≡ b → found (filter (λ x. q x.state) ks) s c ≡ None
        → found (cond b (k ∷ filter (λ x. q x.state) ks) (filter (λ x. q x.state) ks)) s c ≡ None
    by_test true f r = elim (cases_Bool (from k s c)) [
      | inl h ↦ absurd (both_ways _ p (ap q (sym (from_true k s c h).0) ∙ f))
      | inr h ↦ found_past k (filter (λ x. q x.state) ks) s c h ∙ r
    ]
    by_test false f r = r
