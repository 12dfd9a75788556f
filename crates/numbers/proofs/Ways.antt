-- The texts that lead from a position to the end, and that the book reads those of its first position. Assumes nothing.
use Rattle.std.proofs.Common.{◌≡◌, ℕ, zero, suc, ◌<◌, Bool, true, false, ◌&&◌, eqb, List, [], ◌∷◌, Decides, sym, refl, ◌∙◌, subst, inl, inr, arith}
use Rattle.std.specs.List.{AllByRecursion}
use Rattle.std.proofs.lemmas.Bool.{both_ways, and_parts, and_from, or_cases, eqb-true}
use Rattle.std.proofs.lemmas.Bool.Decides.{same_from_decides}
use Rattle.states.specs.Sets.{State, has, has_rule}
use Rattle.states.specs.Words.{some}
use Rattle.states.proofs.Members.{has_set_of}
use Rattle.books.specs.Texts.{after, meets}
use Rattle.numbers.specs.Number.{takes, among, followers, follows, number_next, number_meaning}
use Rattle.numbers.specs.Laws.{some_below, follows_below, next_led, starts_at, ended_end}

-- the text leads from position p to the end
abbrev pub reads : ℕ → List ℕ → Bool
reads p [] = eqb p 5
reads p (c ∷ t) = takes p c && some (λ q. follows p q && reads q t) 6

-- ---- one code

-- only a position before the end takes a code
takes_below : (p c : ℕ) → takes p c ≡ true → p < 6
takes_below zero c e = omega arith
takes_below (suc zero) c e = omega arith
takes_below (suc (suc zero)) c e = omega arith
takes_below (suc (suc (suc zero))) c e = omega arith
takes_below (suc (suc (suc (suc zero)))) c e = omega arith
takes_below (suc (suc (suc (suc (suc p))))) c e = absurd (both_ways false refl e)

-- what holds of each of the list holds of any of them
one_of : (P : ℕ → Type 0) (ns : List ℕ) (q : ℕ) → among ns q ≡ true → AllByRecursion P ns → P q
one_of P [] q e all = absurd (both_ways false refl e)
one_of P (n ∷ ns) q e all = elim (or_cases (eqb q n) (among ns q) e) [
  | inl i ↦ subst P (sym (eqb-true q n i)) all.0
  | inr r ↦ one_of P ns q r all.1
]

module _ (p c : ℕ) (t : List ℕ) where
  pub reads_step : (q : ℕ) → takes p c ≡ true → follows p q ≡ true → reads q t ≡ true → reads p (c ∷ t) ≡ true
  reads_step q taken follow rest =
      and_from _ _ taken ((some_below (λ q. follows p q && reads q t) 6).1 (q, follows_below p q follow, and_from _ _ follow rest))

  reads_on : reads p (c ∷ t) ≡ true → (q : ℕ) × (takes p c ≡ true) × (follows p q ≡ true) × (reads q t ≡ true)
  reads_on e =
      let h = and_parts (takes p c) (some (λ q. follows p q && reads q t) 6) e in
      let w = (some_below (λ q. follows p q && reads q t) 6).0 h.1 in
      let f = and_parts (follows p w.0) (reads w.0 t) w.2 in
      (w.0, h.0, f.0, f.1)

  -- what holds whichever position follows
  pub reads_ways : (P : Type 0) → reads p (c ∷ t) ≡ true → (takes p c ≡ true → AllByRecursion (λ q. reads q t ≡ true → P) (followers p)) → P
  reads_ways P e ways = let w = reads_on e in one_of (λ q. reads q t ≡ true → P) (followers p) w.0 w.2 (ways w.1) w.3

-- ---- whole texts

-- a state reads what one of its positions reads
after_reads : (t : List ℕ) (s : State) → Decides (has (after number_next s t) 5) ((p : ℕ) × (has s p ≡ true) × (reads p t ≡ true))
after_reads [] s = (λ e. (5, e, refl), λ w. subst (λ (p : ℕ). has s p ≡ true) (eqb-true w.0 5 w.2) w.1)
after_reads (c ∷ t) s =
    let rest = after_reads t (number_next s c) in (
      λ e. let w = rest.0 e in
          let l = (next_led s c w.0).0 w.1 in
          (l.from, l.held, reads_step l.from c t w.0 l.taken l.follow w.2),
      λ w. let n = reads_on w.0 c t w.2 in
          rest.1 (n.0, (next_led s c n.0).1 (record { from = w.0; below = takes_below w.0 c n.1; held = w.1; taken = n.1; follow = n.2 }), n.3),
    )

-- a whole text meets the rule exactly if it leads from the first position to the end
pub meets_reads : (t : List ℕ) → has_rule (meets number_meaning t) 0 ≡ reads 0 t
meets_reads t =
    ended_end (after number_next number_meaning.start t)
    ∙ same_from_decides _ (reads 0 t) (after_reads t number_meaning.start) (
      λ e. (0, has_set_of (λ q. eqb q 0) 0 (omega arith), e),
      λ w. subst (λ (p : ℕ). reads p t ≡ true) (starts_at w.0 w.1) w.2,
    )
