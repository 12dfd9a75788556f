-- Adding a template and deleting one keep what a template book holds together. Assumes nothing.
use Rattle.std.proofs.Common.{◌≡◌, ℕ, zero, suc, ◌+◌, ◌-◌, ◌*◌, ◌/◌, ◌%◌, ◌<◌, ◌≤◌, Bool, true, false, not, ◌&&◌, ◌||◌, eqb, ltb, leb, ◌⊎◌, List, length, get_or, set, replicate, is_some, Some, None, Option, sym, refl, ap, ◌∙◌, inl, inr, arith, get_or-set_other, get_or-set_same}
use Rattle.std.proofs.lemmas.Bool.{cases_eq, cases_lt, cases_Bool, both_ways, and_parts, and_from, or_cases, eqb-true, eq-eqb, ne_eqb, leb-true, lt-ltb}
use Rattle.std.proofs.lemmas.Bool.Decides.{nat_tests}
use Rattle.std.proofs.Math.Bool.{and-true, or-false}
use Rattle.states.specs.Sets.{State, has, has_rule, rules_of}
use Rattle.states.specs.Words.{some}
use Rattle.states.proofs.Members.{has_nothing}
use Rattle.templates.specs.declared.book.TemplateBook.{TemplateBook}
use Rattle.templates.specs.Templates.{owned, takes_at}
use Rattle.templates.specs.Tables.{at, takes_at_past}
use Rattle.templates.specs.Laws.{in_force, takes_inside, ends_by}

-- ---- the empty book

module _ (none : State) (is : (p : ℕ) → has none p ≡ false) where
  pub takes_none : (n c p : ℕ) → at (replicate n none) c p ≡ false
  takes_none zero c p = has_nothing p
  takes_none (suc n) zero p = is p
  takes_none (suc n) (suc c) p = takes_none n c p

  pub ends_none : (s : State) (q : ℕ) → has_rule (rules_of (λ r. some (λ p. has s p && (has none p && eqb (p / 32) r)) 256)) q ≡ false
  ends_none s q = elim (cases_Bool (has_rule (rules_of (λ r. some (λ p. has s p && (has none p && eqb (p / 32) r)) 256)) q)) [
    | inl e ↦ (let w = (ends_by none s q).0 e in absurd (both_ways _ (is w.0) w.2))
    | inr e ↦ e
  ]

-- ---- one kind written

module _ (a : TemplateBook) (r : ℕ) (o : Option ℕ) (low : r < 8) where
  pub kind_written : get_or (set a.kinds.by_rule r o) r None ≡ o
  kind_written = let long = a.kinds.size.0 in get_or-set_same a.kinds.by_rule r o None (omega arith)

  owned_here : (p : ℕ) → p / 32 ≡ r → owned (set a.kinds.by_rule r o) p ≡ is_some o
  owned_here p e = ap (λ (q : ℕ). is_some (get_or (set a.kinds.by_rule r o) q None)) e ∙ ap is_some kind_written

  owned_other : (p : ℕ) → (p / 32 ≡ r → ⊥) → owned (set a.kinds.by_rule r o) p ≡ owned a.kinds.by_rule p
  owned_other p d = ap is_some (get_or-set_other a.kinds.by_rule r (p / 32) o None d)

-- ---- a template put in

module _ (a : TemplateBook) (r k : ℕ) (low : r < 8) where
  abbrev after_put : List (Option ℕ)
  after_put = set a.kinds.by_rule r (Some k)

  -- what was owned stays owned
  pub put_owned : (p : ℕ) → owned a.kinds.by_rule p ≡ true → owned after_put p ≡ true
  put_owned p h = elim (cases_eq (p / 32) r) [
    | inl e ↦ owned_here a r (Some k) low p e
    | inr d ↦ owned_other a r (Some k) low p d ∙ h
  ]

  pub put_lives : (p : ℕ) → (has a.live p || eqb (p / 32) r) ≡ owned after_put p
  put_lives p = elim (cases_eq (p / 32) r) [
    | inl e ↦ ap (λ (x : Bool). has a.live p || x) (eq-eqb (p / 32) r e) ∙ or_true (has a.live p) ∙ sym (owned_here a r (Some k) low p e)
    | inr d ↦ ap (λ (x : Bool). has a.live p || x) (ne_eqb (p / 32) r d) ∙ or-false (has a.live p) ∙ a.lives p ∙ sym (owned_other a r (Some k) low p d)
  ]
    where
      or_true : (x : Bool) → (x || true) ≡ true
      or_true true = refl
      or_true false = refl

  pub put_starts : get_or a.kinds.by_rule r None ≡ None → (p : ℕ) → (has a.start p || eqb p (32 * r)) ≡ (owned after_put p && eqb (p % 32) 0)
  put_starts free p = elim (cases_eq (p / 32) r) [
    | inl e ↦ ap (λ (x : Bool). x || eqb p (32 * r)) (a.starts p ∙ ap (λ (x : Bool). x && eqb (p % 32) 0) (ap (in_force a) e ∙ ap is_some free))
        ∙ first e ∙ ap (λ (x : Bool). x && eqb (p % 32) 0) (sym (owned_here a r (Some k) low p e))
    | inr d ↦ ap (λ (x : Bool). has a.start p || x) (ne_eqb p (32 * r) (λ e. d (omega arith))) ∙ or-false (has a.start p) ∙ a.starts p
        ∙ ap (λ (x : Bool). x && eqb (p % 32) 0) (sym (owned_other a r (Some k) low p d))
  ]
    where
      first : p / 32 ≡ r → eqb p (32 * r) ≡ eqb (p % 32) 0
      first e = grind (arith, nat_tests)

  module _ (t : List ℕ) (short : length t < 32) where
    pub put_ending : (p : ℕ) → (has a.ends p || eqb p (32 * r + length t)) ≡ true → owned after_put p ≡ true
    put_ending p h = elim (or_cases (has a.ends p) (eqb p (32 * r + length t)) h) [
      | inl e ↦ put_owned p (a.ending p e)
      | inr e ↦ (let i = eqb-true p (32 * r + length t) e in owned_here a r (Some k) low p (omega arith))
    ]

    pub put_taking : (c p : ℕ) → (at a.takes c p || (leb (32 * r) p && takes_at t (p - 32 * r) c)) ≡ true
        → (owned after_put p && ltb (p % 32) 31) ≡ true
    put_taking c p h = elim (or_cases (at a.takes c p) (leb (32 * r) p && takes_at t (p - 32 * r) c) h) [
      | inl e ↦ (let w = takes_inside a c p e in and_from _ _ (put_owned p w.0) (lt-ltb (p % 32) 31 w.1))
      | inr e ↦ (let w = and_parts (leb (32 * r) p) (takes_at t (p - 32 * r) c) e in
          let l = leb-true (32 * r) p w.0 in
          let i : p - 32 * r < length t = byte (cases_lt (p - 32 * r) (length t)) w.1 in
          and_from _ _ (owned_here a r (Some k) low p (omega arith)) (lt-ltb (p % 32) 31 (omega arith)))
    ]
      where
        byte : (p - 32 * r < length t) ⊎ (length t ≤ p - 32 * r) → takes_at t (p - 32 * r) c ≡ true → p - 32 * r < length t
        byte (inl l) e = l
        byte (inr l) e = absurd (both_ways _ (takes_at_past t (p - 32 * r) c l) e)

-- ---- a rule taken out

module _ (a : TemplateBook) (r : ℕ) (low : r < 8) where
  abbrev after_removal : List (Option ℕ)
  after_removal = set a.kinds.by_rule r None

  pub removal_owned : (p : ℕ) → (owned a.kinds.by_rule p && not (eqb (p / 32) r)) ≡ owned after_removal p
  removal_owned p = elim (cases_eq (p / 32) r) [
    | inl e ↦ ap (λ (x : Bool). owned a.kinds.by_rule p && not x) (eq-eqb (p / 32) r e) ∙ and_false (owned a.kinds.by_rule p) ∙ sym (owned_here a r None low p e)
    | inr d ↦ ap (λ (x : Bool). owned a.kinds.by_rule p && not x) (ne_eqb (p / 32) r d) ∙ and-true (owned a.kinds.by_rule p) ∙ sym (owned_other a r None low p d)
  ]
    where
      and_false : (x : Bool) → (x && false) ≡ false
      and_false true = refl
      and_false false = refl

  pub removal_taking : (c p : ℕ) → (at a.takes c p && not (eqb (p / 32) r)) ≡ true → (owned after_removal p && ltb (p % 32) 31) ≡ true
  removal_taking c p h =
      let w = and_parts (at a.takes c p) (not (eqb (p / 32) r)) h in
      let i = takes_inside a c p w.0 in
      and_from _ _ (sym (removal_owned p) ∙ and_from _ _ i.0 w.1) (lt-ltb (p % 32) 31 i.1)
