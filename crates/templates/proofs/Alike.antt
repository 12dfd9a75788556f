-- Two template books that differ in one rule alone. Assumes nothing.
use Rattle.std.proofs.Common.{◌≡◌, ℕ, zero, suc, ◌+◌, ◌*◌, ◌/◌, ◌%◌, ◌<◌, Bool, true, false, cond, ◌&&◌, eqb, ◌⊎◌, ◌↔◌, List, [], ◌∷◌, get_or, is_some, Some, None, Option, sym, refl, ap, ◌∙◌, ap₂, inl, inr, arith}
use Rattle.std.proofs.lemmas.Bool.{cases_eq, cases_Bool, both_ways, and_parts, and_from, and_left, and_right, eq-eqb, ne_eqb}
use Rattle.std.proofs.lemmas.Bool.Decides.{same_from_decides}
use Rattle.states.specs.Sets.{State, has, has_rule}
use Rattle.states.proofs.Members.{same_members, same_rules}
use Rattle.books.specs.Meaning.{touches, is}
use Rattle.books.specs.Changes.{Elsewhere}
use Rattle.books.specs.Texts.{after, meets}
use Rattle.books.proofs.Touching.{touched}
use Rattle.templates.specs.declared.book.TemplateBook.{TemplateBook}
use Rattle.templates.specs.Templates.{owned, Template, OthersStay}
use Rattle.templates.specs.Tables.{at}
use Rattle.templates.specs.Laws.{meaning, in_force, same_set, owner_is, owner_from, takes_inside, next_zero, next_is, ended_by}

-- but for rule r and its positions, the books hold the same
pub record Alike (r : ℕ) (a b : TemplateBook) : Type 0 where
  pub kinds : (q : ℕ) → (q ≡ r → ⊥) → get_or b.kinds.by_rule q None ≡ get_or a.kinds.by_rule q None
  pub takes : (c p : ℕ) → (p / 32 ≡ r → ⊥) → at b.takes c p ≡ at a.takes c p
  pub ends : (p : ℕ) → (p / 32 ≡ r → ⊥) → has b.ends p ≡ has a.ends p

-- a state that does not touch a rule in force holds none of its positions
pub untouched : (b : TemplateBook) (r : ℕ) (s : State) → in_force b r ≡ true → touches (meaning b) r s ≡ false
    → (p : ℕ) → has s p ≡ true → p / 32 ≡ r → ⊥
untouched b r s force none p h e =
    both_ways _ none ((touched (meaning b) r s).1 (p, h, owner_is b p r ∙ and_from _ _ (ap (in_force b) e ∙ force) (eq-eqb (p / 32) r e)))

-- the last position of a rule takes no code
last_takes_none : (b : TemplateBook) (c p : ℕ) → p % 32 ≡ 31 → at b.takes c p ≡ false
last_takes_none b c p e = elim (cases_Bool (at b.takes c p)) [
  | inl h ↦ (let w = (takes_inside b c p h).1 in absurd (omega arith))
  | inr h ↦ h
]

module _ (r : ℕ) (a b : TemplateBook) (alike : Alike r a b) where
  owned_same : (p : ℕ) → (p / 32 ≡ r → ⊥) → owned b.kinds.by_rule p ≡ owned a.kinds.by_rule p
  owned_same p d = ap is_some (alike.kinds (p / 32) d)

  pub start_same : (p : ℕ) → (p / 32 ≡ r → ⊥) → has (meaning b).start p ≡ has (meaning a).start p
  start_same p d =
      same_set (λ p. owned b.kinds.by_rule p && eqb (p % 32) 0) p (λ p. owned a.kinds.by_rule p && eqb (p % 32) 0) (ap (λ (x : Bool). x && eqb (p % 32) 0) (owned_same p d))

  -- ---- what the change leaves

  owner_same : (p : ℕ) → (p / 32 ≡ r → ⊥) → (meaning b).owner p ≡ (meaning a).owner p
  owner_same p d = ap (λ (o : Option ℕ). cond (is_some o) (Some (p / 32)) None) (alike.kinds (p / 32) d)

  places : (q p : ℕ) → (q ≡ r → ⊥) → (meaning b).owner p ≡ Some q ↔ (meaning a).owner p ≡ Some q
  places q p d = (
    λ e. sym (owner_same p (λ here. d (sym (owner_from b p q e).1 ∙ here))) ∙ e,
    λ e. owner_same p (λ here. d (sym (owner_from a p q e).1 ∙ here)) ∙ e,
  )

  -- rule q is ended alike by states that hold the same ends of it
  ended_same : (s t : State) (q : ℕ) → ((p : ℕ) → p / 32 ≡ q → (has t p && has b.ends p) ≡ (has s p && has a.ends p))
      → has_rule ((meaning b).ended t) q ≡ has_rule ((meaning a).ended s) q
  ended_same s t q same = same_from_decides _ _ (ended_by b t q) (
    λ e. let w = (ended_by a s q).0 e in
        let h = and_parts (has t w.0) (has b.ends w.0) (same w.0 w.3 ∙ and_from _ _ w.1 w.2) in
        (w.0, h.0, h.1, w.3),
    λ w. let h = and_parts (has s w.0) (has a.ends w.0) (sym (same w.0 w.3) ∙ and_from _ _ w.1 w.2) in
        (ended_by a s q).1 (w.0, h.0, h.1, w.3),
  )

  module _ (s : State) (off : (p : ℕ) → has s p ≡ true → p / 32 ≡ r → ⊥) where
    -- of the positions of s the books say the same
    held : (p : ℕ) (x y : Bool) → ((p / 32 ≡ r → ⊥) → x ≡ y) → (has s p && x) ≡ (has s p && y)
    held p x y same = elim (cases_Bool (has s p)) [
      | inl h ↦ ap (λ (z : Bool). has s p && z) (same (off p h))
      | inr h ↦ and_left (has s p) x h ∙ sym (and_left (has s p) y h)
    ]

    nexts : (c : ℕ) → (meaning b).next s c ≡ (meaning a).next s c
    nexts c = same_members ((meaning b).next s c) ((meaning a).next s c) (λ p l. at_place p)
      where
        at_place : (p : ℕ) → has ((meaning b).next s c) p ≡ has ((meaning a).next s c) p
        at_place zero = next_zero b s c ∙ sym (next_zero a s c)
        at_place (suc p) = next_is b s c p ∙ held p (at b.takes c p) (at a.takes c p) (alike.takes c p) ∙ sym (next_is a s c p)

    endings : (meaning b).ended s ≡ (meaning a).ended s
    endings = same_rules ((meaning b).ended s) ((meaning a).ended s)
        (λ q l. ended_same s s q (λ p e. held p (has b.ends p) (has a.ends p) (alike.ends p)))

  pub elsewhere : ((s : State) → touches (meaning a) r s ≡ false → touches (meaning b) r s ≡ false → (p : ℕ) → has s p ≡ true → p / 32 ≡ r → ⊥)
      → Elsewhere r (meaning a) (meaning b)
  elsewhere off = record {
    kinds = alike.kinds;
    places = places;
    nexts = λ s c x y. nexts s (off s x y) c;
    endings = λ s x y. endings s (off s x y);
  }

  -- ---- what texts meet

  -- the states hold the same positions of other rules
  Beside : State → State → Type 0
  Beside s t = (p : ℕ) → (p / 32 ≡ r → ⊥) → has t p ≡ has s p

  beside_next : (s t : State) (c : ℕ) → Beside s t → Beside ((meaning a).next s c) ((meaning b).next t c)
  unfolding Beside
  beside_next s t c same zero d = next_zero b t c ∙ sym (next_zero a s c)
  beside_next s t c same (suc p) d = next_is b t c p ∙ step (cases_eq (p / 32) r) ∙ sym (next_is a s c p)
    where
      step : (p / 32 ≡ r) ⊎ (p / 32 ≡ r → ⊥) → (has t p && at b.takes c p) ≡ (has s p && at a.takes c p)
      step (inl e) =
          let last : p % 32 ≡ 31 = at_the_end (cases_eq (p % 32) 31) e in
          and_right (has t p) _ (last_takes_none b c p last) ∙ sym (and_right (has s p) _ (last_takes_none a c p last))
        where
          at_the_end : (p % 32 ≡ 31) ⊎ (p % 32 ≡ 31 → ⊥) → p / 32 ≡ r → p % 32 ≡ 31
          at_the_end (inl l) e = l
          at_the_end (inr l) e = absurd (d (omega arith))
      step (inr e) = ap₂ (λ (x y : Bool). x && y) (same p e) (alike.takes c p e)

  beside_after : (text : List ℕ) (s t : State) → Beside s t → Beside (after (meaning a).next s text) (after (meaning b).next t text)
  beside_after [] s t same = same
  beside_after (c ∷ cs) s t same = beside_after cs ((meaning a).next s c) ((meaning b).next t c) (beside_next s t c same)

  texts_same : (q : ℕ) (text : List ℕ) → (q ≡ r → ⊥) → has_rule (meets (meaning b) text) q ≡ has_rule (meets (meaning a) text) q
  unfolding Beside
  texts_same q text d =
      let same = beside_after text (meaning a).start (meaning b).start start_same in
      ended_same (after (meaning a).next (meaning a).start text) (after (meaning b).next (meaning b).start text) q
      (λ p e. let off : p / 32 ≡ r → ⊥ = λ here. d (sym e ∙ here) in ap₂ (λ (x y : Bool). x && y) (same p off) (alike.ends p off))

  -- ---- what other rules are

  -- positions of another rule are none of r
  off_rule : (q i : ℕ) → (q ≡ r → ⊥) → i < 32 → (32 * q + i) / 32 ≡ r → ⊥
  off_rule q i d l e = d (omega arith)

  template_same : (q : ℕ) (t : List ℕ) → (q ≡ r → ⊥) → Template q t (meaning a) → Template q t (meaning b)
  unfolding Beside
  template_same q t d was =
      let next : (s : State) (c p : ℕ) → (p / 32 ≡ r → ⊥) → has ((meaning b).next s c) p ≡ has ((meaning a).next s c) p =
      λ s c. beside_next s s c (λ p e. refl) in
      record {
        owns = owns;
        starts = λ i l. start_same (32 * q + i) (off_rule q i d l) ∙ was.starts i l;
        first = λ s c. next s c (32 * q) (λ e. d (omega arith)) ∙ was.first s c;
        steps = λ s c i l. next s c (32 * q + (i + 1)) (off_rule q (i + 1) d (omega arith)) ∙ was.steps s c i l;
        ends = λ s. ended_same s s q (λ p e. ap (λ (x : Bool). has s p && x) (alike.ends p (λ here. d (sym e ∙ here)))) ∙ was.ends s;
      }
    where
      owns : (p : ℕ) → is ((meaning b).owner p) q ≡ eqb (p / 32) q
      owns p = elim (cases_eq (p / 32) r) [
        | inl e ↦ (let other : eqb (p / 32) q ≡ false = ne_eqb (p / 32) q (λ i. d (sym i ∙ e)) in
            owner_is b p q ∙ and_right (owned b.kinds.by_rule p) _ other ∙ sym other)
        | inr e ↦ ap (λ (o : Option ℕ). is o q) (owner_same p e) ∙ was.owns p
      ]

  pub others : OthersStay r (meaning a) (meaning b)
  others = record { templates = template_same; texts = texts_same }
