-- A list of steps with one more kept. Assumes nothing.
use Rattle.std.proofs.Common.{◌≡◌, ℕ, ◌<◌, ◌≤◌, true, false, leb, ◌⊎◌, List, [], ◌∷◌, ◌++◌, length, is_some, Some, None, sym, refl, ap, ◌∙◌, subst, inl, inr, arith}
use Rattle.std.specs.List.{AllByRecursion}
use Rattle.std.proofs.ByRecursion.{All-push}
use Rattle.std.proofs.lemmas.List.{length_push}
use Rattle.std.proofs.lemmas.Bool.{both_ways, cases_Bool, cases_lt, or_left, or_right, or_from, cond-true, cond-false, le-leb, lt-leb}
use Rattle.states.specs.Sets.{State}
use Rattle.kept.specs.Steps.{Step, from, found, distinct, most, keep}
use Rattle.kept.proofs.Found.{none_from_is_some, from_self, found_here, found_append_some, found_append_none, found_push_other, distinct_push}

-- ---- the three cases

pub keep_full : (ks : List Step) (k : Step) → most ≤ length ks → keep ks k ≡ ks
unfolding keep
keep_full ks k h = cond-true _ _ _ (or_right (is_some (found ks k.state k.code)) _ (le-leb most (length ks) h))

pub keep_there : (ks : List Step) (k : Step) → is_some (found ks k.state k.code) ≡ true → keep ks k ≡ ks
unfolding keep
keep_there ks k e = cond-true _ _ _ (or_left _ (leb most (length ks)) e)

pub keep_new : (ks : List Step) (k : Step) → found ks k.state k.code ≡ None → length ks < most → keep ks k ≡ ks ++ k ∷ []
unfolding keep
keep_new ks k e h = cond-false _ _ _ (or_from _ _ (ap is_some e) (lt-leb most (length ks) h))

-- what holds of the list as it was, and of one with the step at its end where it was new and there was room
pub keep_either : (P : List Step → Type 0) (ks : List Step) (k : Step) → P ks
    → (found ks k.state k.code ≡ None → length ks < most → P (ks ++ k ∷ [])) → P (keep ks k)
keep_either P ks k old new = elim (cases_Bool (is_some (found ks k.state k.code))) [
  | inl e ↦ subst P (sym (keep_there ks k e)) old
  | inr e ↦ (let none = none_from_is_some _ e in
      elim (cases_lt (length ks) most) [
        | inl h ↦ subst P (sym (keep_new ks k none h)) (new none h)
        | inr h ↦ subst P (sym (keep_full ks k h)) old
      ])
]

-- ---- what stays true

pub length_keep : (ks : List Step) (k : Step) → length ks ≤ most → length (keep ks k) ≤ most
length_keep ks k h = keep_either (λ js. length js ≤ most) ks k h (λ _ l. omega (arith, length_push ks k))

pub distinct_keep : (ks : List Step) (k : Step) → distinct ks ≡ true → distinct (keep ks k) ≡ true
distinct_keep ks k d = keep_either (λ js. distinct js ≡ true) ks k d (λ e _. distinct_push ks k d e)

pub all_keep : (P : Step → Type 0) (ks : List Step) (k : Step) → AllByRecursion P ks → P k → AllByRecursion P (keep ks k)
all_keep P ks k a p = keep_either (AllByRecursion P) ks k a (λ _ _. All-push P ks k a p)

-- ---- what is found after it

-- what was found is found as before
pub found_keep_old : (ks : List Step) (k : Step) (s : State) (c : ℕ) (n : State) → found ks s c ≡ Some n → found (keep ks k) s c ≡ Some n
found_keep_old ks k s c n e = keep_either (λ js. found js s c ≡ Some n) ks k e (λ _ _. found_append_some ks (k ∷ []) s c n e)

-- and so is what is from another state or by another code
pub found_keep_other : (ks : List Step) (k : Step) (s : State) (c : ℕ) → from k s c ≡ false → found (keep ks k) s c ≡ found ks s c
found_keep_other ks k s c f = keep_either (λ js. found js s c ≡ found ks s c) ks k refl (λ _ _. found_push_other ks k s c f)

pub found_keep_new : (ks : List Step) (k : Step) → found ks k.state k.code ≡ None → length ks < most
    → found (keep ks k) k.state k.code ≡ Some k.next
found_keep_new ks k e h =
    ap (λ (js : List Step). found js k.state k.code) (keep_new ks k e h)
    ∙ found_append_none ks (k ∷ []) k.state k.code e ∙ found_here k [] k.state k.code (from_self k)

-- a step from there by that code is kept then, if one was or there was room
pub found_keep : (ks : List Step) (k : Step) → (is_some (found ks k.state k.code) ≡ true) ⊎ (length ks < most)
    → is_some (found (keep ks k) k.state k.code) ≡ true
found_keep ks k h = elim (cases_Bool (is_some (found ks k.state k.code))) [
  | inl e ↦ ap (λ (js : List Step). is_some (found js k.state k.code)) (keep_there ks k e) ∙ e
  | inr e ↦ elim h [
    | inl was ↦ absurd (both_ways _ e was)
    | inr room ↦ ap is_some (found_keep_new ks k (none_from_is_some _ e) room)
  ]
]
