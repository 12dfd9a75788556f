-- What the states of a template book hold, and that it keeps the laws of every book. Assumes nothing.
use Rattle.std.specs.Prelude.{◌≡◌, ℕ, zero, suc, ◌/◌, ◌%◌, ◌<◌, ◌≤◌, Bool, true, false, cond, ◌&&◌, ◌⊎◌, length, is_some, Some, None, Decides, ◌==◌, nat_lt, slice_index_or, refl}
use Rattle.std.proofs.Common.{sym, ap, ◌∙◌, inl, inr, arith}
use Rattle.std.proofs.lemmas.List.{get_or_past}
use Rattle.std.proofs.lemmas.Bool.{cases_lt, cases_Bool, both_ways, and_parts, and_from, and_right, ltb-true, eqb-true, eq-eqb}
use Rattle.states.specs.Sets.{State, has, has_rule, set_of, rules_of}
use Rattle.states.specs.Words.{some}
use Rattle.states.proofs.Members.{has_set_of, has_above, has_rule_rules_of, member_below, some_member, rules_above}
use Rattle.books.specs.Meaning.{Meaning, Lawful, Live, touches, is}
use Rattle.books.proofs.Touching.{touched, fails}
use Rattle.templates.specs.declared.book.TemplateBook.{TemplateBook}
use Rattle.templates.specs.Templates.{owned, leads, template_meaning}
use Rattle.templates.specs.Tables.{at}

abbrev pub meaning : TemplateBook → Meaning
meaning b = template_meaning b.kinds.by_rule b.takes b.ends

abbrev pub in_force : TemplateBook → ℕ → Bool
in_force b r = is_some (slice_index_or b.kinds.by_rule r None)

-- ---- states made by a test, at any position

module _ (f : ℕ → Bool) (p : ℕ) where
  pub passes : has (set_of f) p ≡ true → f p ≡ true
  passes h = sym (has_set_of f p (member_below (set_of f) p h)) ∙ h

  pub same_set : (g : ℕ → Bool) → f p ≡ g p → has (set_of f) p ≡ has (set_of g) p
  same_set g e = elim (cases_lt p 256) [
    | inl l ↦ has_set_of f p l ∙ e ∙ sym (has_set_of g p l)
    | inr l ↦ has_above (set_of f) p l ∙ sym (has_above (set_of g) p l)
  ]

  pub fails_set : f p ≡ false → has (set_of f) p ≡ false
  fails_set e = elim (cases_lt p 256) [ inl l ↦ has_set_of f p l ∙ e | inr l ↦ has_above (set_of f) p l ]

-- ---- owners

module _ (b : TemplateBook) (p : ℕ) where
  pub owner_is : (r : ℕ) → is ((meaning b).owner p) r ≡ (owned b.kinds.by_rule p && p / 32 == r)
  owner_is r = of_test (owned b.kinds.by_rule p)
    where
      of_test : (t : Bool) → is (cond t (Some (p / 32)) None) r ≡ (t && p / 32 == r)
      of_test true = refl
      of_test false = refl

  pub owner_from : (r : ℕ) → (meaning b).owner p ≡ Some r → (owned b.kinds.by_rule p ≡ true) × (p / 32 ≡ r)
  owner_from r = of_test (owned b.kinds.by_rule p)
    where
      of_test : (t : Bool) → cond t (Some (p / 32)) None ≡ Some r → (t ≡ true) × (p / 32 ≡ r)
      of_test true e = (refl, cc)
      of_test false e = let z : ◌≡◌ {A = ℕ} 0 1 = cc in absurd (omega arith)

  pub live_is : is_some ((meaning b).owner p) ≡ owned b.kinds.by_rule p
  live_is = of_test (owned b.kinds.by_rule p)
    where
      of_test : (t : Bool) → is_some {T = ℕ} (cond t (Some (p / 32)) None) ≡ t
      of_test true = refl
      of_test false = refl

pub rule_below : (b : TemplateBook) (r : ℕ) → in_force b r ≡ true → r < 8
rule_below b r e = elim (cases_lt r 8) [
  | inl l ↦ l
  | inr l ↦ (let long = b.kinds.size.0 in
      let out : length b.kinds.by_rule ≤ r = omega arith in
      absurd (both_ways (in_force b r) (ap is_some (get_or_past b.kinds.by_rule r None out)) e))
]

-- ---- steps

-- a position that takes a code is not the last of its rule
pub takes_inside : (b : TemplateBook) (c p : ℕ) → at b.takes c p ≡ true → (owned b.kinds.by_rule p ≡ true) × (p % 32 < 31)
takes_inside b c p h =
    let w = and_parts (owned b.kinds.by_rule p) (nat_lt (p % 32) 31) (b.taking c p h) in
    (w.0, ltb-true (p % 32) 31 w.1)

module _ (b : TemplateBook) (s : State) (c : ℕ) where
  pub next_zero : has ((meaning b).next s c) zero ≡ false
  next_zero = fails_set (leads b.takes s c) zero refl

  pub next_is : (p : ℕ) → has ((meaning b).next s c) (suc p) ≡ (has s p && at b.takes c p)
  next_is p = elim (cases_lt p 255) [
    | inl l ↦ has_set_of (leads b.takes s c) (suc p) (omega arith)
    | inr l ↦ has_above ((meaning b).next s c) (suc p) (omega arith) ∙ sym (and_right (has s p) _ (none (cases_Bool (at b.takes c p)) l))
  ]
    where
      none : (at b.takes c p ≡ true) ⊎ (at b.takes c p ≡ false) → 255 ≤ p → at b.takes c p ≡ false
      none (inr e) l = e
      none (inl e) l = let below = member_below _ p e in let w = (takes_inside b c p e).1 in absurd (omega arith)

  pub next_from : (q : ℕ) → has ((meaning b).next s c) q ≡ true → (p : ℕ) × (q ≡ suc p) × (has s p ≡ true) × (at b.takes c p ≡ true)
  next_from zero h = absurd (both_ways _ next_zero h)
  next_from (suc p) h = let w = and_parts (has s p) (at b.takes c p) (sym (next_is p) ∙ h) in (p, refl, w.0, w.1)

-- ---- ends

-- the rules whose positions s shares with `ends`
pub ends_by : (ends s : State) (r : ℕ)
    → Decides (has_rule (rules_of (λ r. some (λ p. has s p && (has ends p && p / 32 == r)) 256)) r) ((p : ℕ) × (has s p ≡ true) × (has ends p ≡ true) × (p / 32 ≡ r))
ends_by ends s r =
    let f : ℕ → Bool = λ r. some (λ p. has s p && (has ends p && p / 32 == r)) 256 in
    let d = some_member s (λ p. has ends p && p / 32 == r) in (
      λ e. elim (cases_lt r 64) [
        | inl l ↦ (let w = d.0 (sym (has_rule_rules_of f r l) ∙ e) in
            let h = and_parts (has ends w.0) (w.0 / 32 == r) w.2 in
            (w.0, w.1, h.0, eqb-true (w.0 / 32) r h.1))
        | inr l ↦ absurd (both_ways _ (rules_above (rules_of f) r l) e)
      ],
      λ w. let below = member_below s w.0 w.1 in
          let here = w.3 in
          has_rule_rules_of f r (omega arith) ∙ d.1 (w.0, w.1, and_from _ _ w.2 (eq-eqb (w.0 / 32) r here)),
    )

pub ended_by : (b : TemplateBook) (s : State) (r : ℕ)
    → Decides (has_rule ((meaning b).ended s) r) ((p : ℕ) × (has s p ≡ true) × (has b.ends p ≡ true) × (p / 32 ≡ r))
ended_by b s r = ends_by b.ends s r

-- ---- the laws

module _ (b : TemplateBook) where
  starts : (p : ℕ) → has (meaning b).start p ≡ true → Live (meaning b) p
  starts p h = live_is b p ∙ (and_parts (owned b.kinds.by_rule p) (p % 32 == 0) (passes (λ p. owned b.kinds.by_rule p && p % 32 == 0) p h)).0

  -- a step stays with its rule
  same_rule : (c p : ℕ) → at b.takes c p ≡ true → suc p / 32 ≡ p / 32
  same_rule c p h = let w = (takes_inside b c p h).1 in omega arith

  steps : (s : State) (c q : ℕ) → has ((meaning b).next s c) q ≡ true → Live (meaning b) q
  steps s c q h =
      let w = next_from b s c q h in
      live_is b q ∙ ap (in_force b) (ap (λ (x : ℕ). x / 32) w.1 ∙ same_rule c w.0 w.3) ∙ (takes_inside b c w.0 w.3).0

  apart : (r : ℕ) (s : State) (c : ℕ) → touches (meaning b) r ((meaning b).next s c) ≡ true → touches (meaning b) r s ≡ true
  apart r s c e =
      let t = (touched (meaning b) r ((meaning b).next s c)).0 e in
      let w = next_from b s c t.0 t.1 in
      let mine = eqb-true (t.0 / 32) r (and_parts (owned b.kinds.by_rule t.0) (t.0 / 32 == r) (sym (owner_is b t.0 r) ∙ t.2)).1 in
      let here : w.0 / 32 ≡ r = sym (same_rule c w.0 w.3) ∙ sym (ap (λ (x : ℕ). x / 32) w.1) ∙ mine in
      (touched (meaning b) r s).1 (w.0, w.2, owner_is b w.0 r ∙ and_from _ _ (takes_inside b c w.0 w.3).0 (eq-eqb (w.0 / 32) r here))

  ends : (r : ℕ) (s : State) → has_rule ((meaning b).ended s) r ≡ true → touches (meaning b) r s ≡ true
  ends r s e =
      let w = (ended_by b s r).0 e in
      (touched (meaning b) r s).1 (w.0, w.1, owner_is b w.0 r ∙ and_from _ _ (b.ending w.0 w.2) (eq-eqb (w.0 / 32) r w.3))

pub template_lawful : (b : TemplateBook) → Lawful (meaning b)
template_lawful b = record {
  rules = λ r k e. let l = rule_below b r (ap is_some e) in (omega arith, b.kinds.small r k e);
  owners = λ p r e. let w = owner_from b p r e in
      let l = rule_below b (p / 32) w.0 in
      (omega arith, ap (in_force b) (sym w.1) ∙ w.0);
  starts = starts b;
  steps = steps b;
  apart = λ r s c. fails _ _ (apart b r s c);
  ends = λ r s. fails _ _ (ends b r s);
}
