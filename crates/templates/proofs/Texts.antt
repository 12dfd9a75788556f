-- A rule that is a template is met by the texts that fit it. Assumes nothing.
use Rattle.std.proofs.Common.{◌≡◌, ℕ, zero, suc, ◌+◌, ◌*◌, ◌<◌, ◌≤◌, true, false, ◌↔◌, List, [], ◌∷◌, length, drop, Decides, sym, refl, ap, ◌∙◌, subst, inl, inr, add-zero, add-one, arith}
use Rattle.std.proofs.lemmas.List.{drop_all}
use Rattle.std.proofs.lemmas.Bool.{both_ways, and_parts, and_from, cases_lt, eqb-true}
use Rattle.states.specs.Sets.{State, has, has_rule}
use Rattle.books.specs.Meaning.{Meaning}
use Rattle.books.specs.Texts.{after, meets}
use Rattle.templates.specs.Templates.{takes_at, Fits, Template}
use Rattle.templates.specs.Tables.{takes_at_past}

-- ---- the rest of a template from byte i on

fits_end : (t : List ℕ) (i : ℕ) → Fits (drop i t) [] → length t ≤ i
fits_end [] i f = omega arith
fits_end (b ∷ t) zero f = absurd f
fits_end (b ∷ t) (suc i) f = let h = fits_end t i f in omega arith

fits_more : (t : List ℕ) (i c : ℕ) (cs : List ℕ) → Fits (drop i t) (c ∷ cs) → (takes_at t i c ≡ true) × Fits (drop (suc i) t) cs
fits_more [] zero c cs f = absurd f
fits_more [] (suc i) c cs f = absurd f
fits_more (b ∷ t) zero c cs f = f
fits_more (b ∷ t) (suc i) c cs f = fits_more t i c cs f

more_fits : (t : List ℕ) (i c : ℕ) (cs : List ℕ) → takes_at t i c ≡ true → Fits (drop (suc i) t) cs → Fits (drop i t) (c ∷ cs)
more_fits [] i c cs e f = absurd (both_ways false refl e)
more_fits (b ∷ t) zero c cs e f = (e, f)
more_fits (b ∷ t) (suc i) c cs e f = more_fits t i c cs e f

-- only a byte of the template takes a code
takes_below : (t : List ℕ) (i c : ℕ) → takes_at t i c ≡ true → i < length t
takes_below t i c e = elim (cases_lt i (length t)) [ inl l ↦ l | inr l ↦ absurd (both_ways _ (takes_at_past t i c l) e) ]

module _ (r : ℕ) (t : List ℕ) (m : Meaning) (is : Template r t m) (short : length t < 32) where
  -- the text leads to the end from the position behind i bytes, if it fits the rest
  leads_to_end : (text : List ℕ) (s : State)
      → Decides (has (after m.next s text) (32 * r + length t)) ((i : ℕ) × (i ≤ length t) × (has s (32 * r + i) ≡ true) × Fits (drop i t) text)
  leads_to_end [] s = (
    λ e. (length t, omega arith, e, subst (λ (x : List ℕ). Fits x []) (sym (drop_all (length t) t (omega arith))) tt),
    λ w. let l = fits_end t w.0 w.3 in
        let h = w.1 in
        let all : w.0 ≡ length t = omega arith in
        subst (λ (i : ℕ). has s (32 * r + i) ≡ true) all w.2,
  )
  leads_to_end (c ∷ cs) s =
      let rest = leads_to_end cs (m.next s c) in (
        λ e. back (rest.0 e),
        λ w. let f = fits_more t w.0 c cs w.3 in
            let l = takes_below t w.0 c f.0 in
            rest.1 (w.0 + 1, omega arith, is.steps s c w.0 (omega arith) ∙ and_from _ _ w.2 f.0, subst (λ (i : ℕ). Fits (drop i t) cs) (sym (add-one w.0)) f.1),
      )
    where
      back : (i : ℕ) × (i ≤ length t) × (has (m.next s c) (32 * r + i) ≡ true) × Fits (drop i t) cs
          → (i : ℕ) × (i ≤ length t) × (has s (32 * r + i) ≡ true) × Fits (drop i t) (c ∷ cs)
      back (zero, l, h, f) = absurd (both_ways _ (is.first s c) (subst (λ (p : ℕ). has (m.next s c) p ≡ true) (add-zero (32 * r)) h))
      back (suc i, l, h, f) =
          let w = and_parts (has s (32 * r + i)) (takes_at t i c) (sym (is.steps s c i (omega arith)) ∙ ap (λ (j : ℕ). has (m.next s c) (32 * r + j)) (add-one i) ∙ h) in
          (i, omega arith, w.0, more_fits t i c cs w.1 f)

  pub template_texts : (text : List ℕ) → has_rule (meets m text) r ≡ true ↔ Fits t text
  template_texts text =
      let d = leads_to_end text m.start in (
        λ e. (let w = d.0 (sym (is.ends (after m.next m.start text)) ∙ e) in
            let l = w.1 in
            let first : w.0 ≡ 0 = eqb-true w.0 0 (sym (is.starts w.0 (omega arith)) ∙ w.2) in
            subst (λ (i : ℕ). Fits (drop i t) text) first w.3),
        λ f. is.ends (after m.next m.start text) ∙ d.1 (0, omega arith, is.starts 0 (omega arith), f),
      )
