-- Adding a template and deleting one, by the parts of the book. Assumes nothing.
use Rattle.std.proofs.Common.{◌≡◌, ℕ, suc, ◌+◌, ◌-◌, ◌*◌, ◌/◌, ◌%◌, ◌<◌, ◌≤◌, Bool, true, false, cond, not, ◌&&◌, ◌||◌, eqb, leb, ◌⊎◌, List, length, get_or, set, is_some, Some, None, Option, sym, refl, ap, ◌∙◌, subst, ap₂, inl, inr, arith, get_or-set_other}
use Rattle.std.proofs.lemmas.Bool.{cases_eq, cases_lt, cases_Bool, both_ways, and_parts, and_from, and_left, and_right, eqb-true, eq-eqb, ne_eqb, le-leb, lt-leb}
use Rattle.std.proofs.lemmas.Bool.Decides.{same_from_decides}
use Rattle.std.proofs.Math.Bool.{and-true, or-false}
use Rattle.states.specs.Sets.{State, has, has_rule}
use Rattle.states.proofs.Members.{has_set_of}
use Rattle.books.specs.Meaning.{is}
use Rattle.books.specs.Changes.{Added, Deleted}
use Rattle.books.specs.Texts.{after, meets}
use Rattle.books.proofs.Touching.{fails}
use Rattle.templates.specs.declared.book.TemplateBook.{TemplateBook}
use Rattle.templates.specs.Templates.{owned, takes_at, Template}
use Rattle.templates.specs.Tables.{at, takes_at_past}
use Rattle.templates.specs.Laws.{meaning, in_force, passes, fails_set, owner_is, owner_from, rule_below, takes_inside, next_from, next_is, ended_by}
use Rattle.templates.proofs.Invariants.{kind_written}
use Rattle.templates.proofs.Alike.{Alike, untouched, start_same, elsewhere}

-- ---- one kind written

module _ (a b : TemplateBook) (r : ℕ) (o : Option ℕ) (low : r < 8) (kinds : b.kinds.by_rule ≡ set a.kinds.by_rule r o) where
  kind_here : get_or b.kinds.by_rule r None ≡ o
  kind_here = ap (λ (ks : List (Option ℕ)). get_or ks r None) kinds ∙ kind_written a r o low

  kind_other : (q : ℕ) → (q ≡ r → ⊥) → get_or b.kinds.by_rule q None ≡ get_or a.kinds.by_rule q None
  kind_other q d = ap (λ (ks : List (Option ℕ)). get_or ks q None) kinds ∙ get_or-set_other a.kinds.by_rule r q o None d

owner_none : (b : TemplateBook) (p : ℕ) → owned b.kinds.by_rule p ≡ false → (meaning b).owner p ≡ None
owner_none b p e = ap (λ (t : Bool). cond t (Some (p / 32)) None) e

-- ---- a template added

module _ (a b : TemplateBook) (r k : ℕ) (t : List ℕ) (low : r < 8) (free : get_or a.kinds.by_rule r None ≡ None) (short : length t < 32)
    (kinds : b.kinds.by_rule ≡ set a.kinds.by_rule r (Some k))
    (takes : (c p : ℕ) → at b.takes c p ≡ (at a.takes c p || (leb (32 * r) p && takes_at t (p - 32 * r) c)))
    (ends : (p : ℕ) → has b.ends p ≡ (has a.ends p || eqb p (32 * r + length t))) where
  not_owned : (p : ℕ) → p / 32 ≡ r → owned a.kinds.by_rule p ≡ false
  not_owned p e = ap (λ (q : ℕ). in_force a q) e ∙ ap is_some free

  put_force : in_force b r ≡ true
  put_force = ap is_some (kind_here a b r (Some k) low kinds)

  pub add_alike : Alike r a b
  add_alike = record {
    kinds = kind_other a b r (Some k) low kinds;
    takes = λ c p d. takes c p ∙ ap (λ (x : Bool). at a.takes c p || x) (outside c p d) ∙ or-false (at a.takes c p);
    ends = λ p d. ends p ∙ ap (λ (x : Bool). has a.ends p || x) (ne_eqb p (32 * r + length t) (λ e. d (omega arith))) ∙ or-false (has a.ends p);
  }
    where
      outside : (c p : ℕ) → (p / 32 ≡ r → ⊥) → (leb (32 * r) p && takes_at t (p - 32 * r) c) ≡ false
      outside c p d = elim (cases_lt p (32 * r)) [
        | inl l ↦ and_left _ _ (lt-leb (32 * r) p l)
        | inr l ↦ (let far : length t ≤ p - 32 * r = beyond (cases_lt p (32 * r + 32)) l in and_right (leb (32 * r) p) _ (takes_at_past t (p - 32 * r) c far))
      ]
        where
          beyond : (p < 32 * r + 32) ⊎ (32 * r + 32 ≤ p) → 32 * r ≤ p → length t ≤ p - 32 * r
          beyond (inl h) l = absurd (d (omega arith))
          beyond (inr h) l = omega arith

  pub added : Added r k (meaning a) (meaning b)
  added = record {
    elsewhere = elsewhere r a b add_alike (λ s x y. untouched b r s put_force y);
    before = free;
    after = kind_here a b r (Some k) low kinds;
    fresh = λ p e. owner_none a p (not_owned p (owner_from b p r e).1);
    keeps = λ p h. elim (cases_eq (p / 32) r) [
      | inl e ↦ absurd (both_ways _ (not_owned p e) (and_parts (owned a.kinds.by_rule p) (eqb (p % 32) 0) (passes (λ p. owned a.kinds.by_rule p && eqb (p % 32) 0) p h)).0)
      | inr d ↦ start_same r a b add_alike p d ∙ h
    ];
    gains = λ p n h. sym (start_same r a b add_alike p (λ e. both_ways _ n (owner_is b p r ∙ and_from _ _ (ap (λ (q : ℕ). in_force b q) e ∙ put_force) (eq-eqb (p / 32) r e)))) ∙ h;
  }

  -- ---- the rule is the template

  -- of its positions none took a code or ended a rule before
  takes_here : (c i : ℕ) → i < 32 → at b.takes c (32 * r + i) ≡ takes_at t i c
  takes_here c i l =
      let p = 32 * r + i in
      let here : p / 32 ≡ r = omega arith in
      let back : p - 32 * r ≡ i = omega arith in
      takes c p
      ∙ ap₂ (λ (x y : Bool). x || (y && takes_at t (p - 32 * r) c)) (fails (at a.takes c p) _ (λ h. (takes_inside a c p h).0) (not_owned p here)) (le-leb (32 * r) p (omega arith))
      ∙ ap (λ (j : ℕ). takes_at t j c) back

  ends_here : (p : ℕ) → p / 32 ≡ r → has b.ends p ≡ eqb p (32 * r + length t)
  ends_here p here = ends p ∙ ap (λ (x : Bool). x || eqb p (32 * r + length t)) (fails (has a.ends p) _ (a.ending p) (not_owned p here))

  owns : (p : ℕ) → is ((meaning b).owner p) r ≡ eqb (p / 32) r
  owns p = owner_is b p r ∙ (elim (cases_eq (p / 32) r) [
    | inl e ↦ ap (λ (x : Bool). x && eqb (p / 32) r) (ap (λ (q : ℕ). in_force b q) e ∙ put_force)
    | inr d ↦ and_right _ _ (ne_eqb (p / 32) r d) ∙ sym (ne_eqb (p / 32) r d)
  ])

  starts : (i : ℕ) → i < 32 → has (meaning b).start (32 * r + i) ≡ eqb i 0
  starts i l =
      let p = 32 * r + i in
      let here : p / 32 ≡ r = omega arith in
      let place : p % 32 ≡ i = omega arith in
      has_set_of (λ p. owned b.kinds.by_rule p && eqb (p % 32) 0) p (omega arith)
      ∙ ap₂ (λ (x : Bool) (j : ℕ). x && eqb j 0) (ap (λ (q : ℕ). in_force b q) here ∙ put_force) place

  first : (s : State) (c : ℕ) → has ((meaning b).next s c) (32 * r) ≡ false
  first s c = elim (cases_Bool (has ((meaning b).next s c) (32 * r))) [
    | inl h ↦ (let w = next_from b s c (32 * r) h in let e = w.1 in let l = (takes_inside b c w.0 w.3).1 in absurd (omega arith))
    | inr h ↦ h
  ]

  steps : (s : State) (c i : ℕ) → i < 31 → has ((meaning b).next s c) (32 * r + (i + 1)) ≡ (has s (32 * r + i) && takes_at t i c)
  steps s c i l =
      let e : 32 * r + (i + 1) ≡ suc (32 * r + i) = omega arith in
      ap (has ((meaning b).next s c)) e ∙ next_is b s c (32 * r + i) ∙ ap (λ (x : Bool). has s (32 * r + i) && x) (takes_here c i (omega arith))

  ended_here : (s : State) → has_rule ((meaning b).ended s) r ≡ has s (32 * r + length t)
  ended_here s =
      let last = 32 * r + length t in
      let here : last / 32 ≡ r = omega arith in
      same_from_decides _ _ (ended_by b s r) (
        λ h. (last, h, ends_here last here ∙ eq-eqb last last refl, here),
        λ w. subst (λ (p : ℕ). has s p ≡ true) (eqb-true w.0 last (sym (ends_here w.0 w.3) ∙ w.2)) w.1,
      )

  pub add_template : Template r t (meaning b)
  add_template = record { owns = owns; starts = starts; first = first; steps = steps; ends = ended_here }

-- ---- a rule deleted

module _ (a b : TemplateBook) (r : ℕ) (force : in_force a r ≡ true) (kinds : b.kinds.by_rule ≡ set a.kinds.by_rule r None)
    (takes : (c p : ℕ) → at b.takes c p ≡ (at a.takes c p && not (eqb (p / 32) r)))
    (ends : (p : ℕ) → has b.ends p ≡ (has a.ends p && not (eqb (p / 32) r))) where
  pub delete_alike : Alike r a b
  delete_alike = record {
    kinds = kind_other a b r None (rule_below a r force) kinds;
    takes = λ c p d. takes c p ∙ ap (λ (x : Bool). at a.takes c p && not x) (ne_eqb (p / 32) r d) ∙ and-true (at a.takes c p);
    ends = λ p d. ends p ∙ ap (λ (x : Bool). has a.ends p && not x) (ne_eqb (p / 32) r d) ∙ and-true (has a.ends p);
  }

  removed_kind : get_or b.kinds.by_rule r None ≡ None
  removed_kind = kind_here a b r None (rule_below a r force) kinds

  removed_owned : (p : ℕ) → p / 32 ≡ r → owned b.kinds.by_rule p ≡ false
  removed_owned p e = ap (λ (q : ℕ). in_force b q) e ∙ ap is_some removed_kind

  -- a position of the rule is owned by it
  mine : (p : ℕ) → is ((meaning a).owner p) r ≡ true → p / 32 ≡ r
  mine p e = eqb-true (p / 32) r (and_parts (owned a.kinds.by_rule p) (eqb (p / 32) r) (sym (owner_is a p r) ∙ e)).1

  pub deleted : Deleted r (meaning a) (meaning b)
  deleted = record {
    elsewhere = elsewhere r a b delete_alike (λ s x y. untouched a r s force x);
    before = force;
    after = removed_kind;
    freed = λ p e. owner_none b p (removed_owned p (owner_from a p r e).1);
    loses = λ p e. fails_set (λ p. owned b.kinds.by_rule p && eqb (p % 32) 0) p (and_left _ _ (removed_owned p (mine p e)));
    stays = λ p n. start_same r a b delete_alike p
        (λ e. both_ways _ n (owner_is a p r ∙ and_from _ _ (ap (λ (q : ℕ). in_force a q) e ∙ force) (eq-eqb (p / 32) r e)));
  }

  -- a rule that is not in force is never met
  pub delete_texts : (text : List ℕ) → has_rule (meets (meaning b) text) r ≡ false
  delete_texts text =
      let s = after (meaning b).next (meaning b).start text in
      fails _ (in_force b r) (λ e. let w = (ended_by b s r).0 e in ap (in_force b) (sym w.3) ∙ b.ending w.0 w.2) (ap is_some removed_kind)
