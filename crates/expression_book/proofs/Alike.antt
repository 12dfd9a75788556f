-- Two tables that differ in one rule alone. Assumes nothing.
use Rattle.std.proofs.Common.{◌≡◌, ℕ, Bool, true, false, cond, ◌&&◌, List, [], ◌∷◌, get_or, Some, None, sym, ap, ◌∙◌, ap₂, inl, inr}
use Rattle.std.proofs.lemmas.Bool.{cases_Bool, both_ways, and_parts}
use Rattle.std.proofs.lemmas.Bool.Decides.{same_from_decides}
use Rattle.states.specs.Sets.{State, has, has_rule}
use Rattle.states.proofs.Members.{same_members, same_rules}
use Rattle.books.specs.Meaning.{touches}
use Rattle.books.specs.Changes.{Elsewhere}
use Rattle.books.specs.Texts.{after, meets}
use Rattle.books.proofs.Touching.{touched}
use Rattle.expression_book.specs.declared.row.Row.{Row}
use Rattle.expression_book.specs.declared.table.Table.{Table}
use Rattle.expression_book.specs.Rows.{row, takes}
use Rattle.expression_book.specs.Tables.{table_meaning, owns}
use Rattle.expression_book.specs.Laws.{rule_at, follows_at, mine, owner_from, next_by, ended_by}

-- the tables hold the same at position p
pub record Same (a b : Table) (p : ℕ) : Type 0 where
  pub live : has b.live p ≡ has a.live p
  pub start : has b.start p ≡ has a.start p
  pub ends : has b.ends p ≡ has a.ends p
  pub row : row b.rows p ≡ row a.rows p

-- the tables hold the same but for rule r, whose positions in one are not live in the other, unless they are r's there too
pub record Alike (r : ℕ) (a b : Table) : Type 0 where
  pub kinds : (q : ℕ) → (q ≡ r → ⊥) → get_or b.kinds.by_rule q None ≡ get_or a.kinds.by_rule q None
  pub freed : (p : ℕ) → owns a r p ≡ true → owns b r p ≡ false → has b.live p ≡ false
  pub fresh : (p : ℕ) → owns b r p ≡ true → owns a r p ≡ false → has a.live p ≡ false
  pub same : (p : ℕ) → owns a r p ≡ false → owns b r p ≡ false → Same a b p

pub turned : (r : ℕ) (a b : Table) → Alike r a b → Alike r b a
turned r a b alike = record {
  kinds = λ q d. sym (alike.kinds q d);
  freed = alike.fresh;
  fresh = alike.freed;
  same = λ p x y. let s = alike.same p y x in record { live = sym s.live; start = sym s.start; ends = sym s.ends; row = sym s.row };
}

-- a state that does not touch a rule holds none of its positions
pub untouched : (t : Table) (r : ℕ) (s : State) → touches (table_meaning t) r s ≡ false → (p : ℕ) → has s p ≡ true → owns t r p ≡ false
untouched t r s none p h = elim (cases_Bool (owns t r p)) [
  | inl e ↦ absurd (both_ways _ none ((touched (table_meaning t) r s).1 (p, h, e)))
  | inr e ↦ e
]

-- what has one truth both ways is the same
pub either_way : (x y : Bool) → (x ≡ true → y ≡ true) → (y ≡ true → x ≡ true) → x ≡ y
either_way x y f g = same_from_decides x y (f, g) (λ h. h, λ h. h)

module _ (r : ℕ) (a b : Table) (alike : Alike r a b) where
  -- a live position of another rule is in both
  pub shared : (p : ℕ) → has b.live p ≡ true → (rule_at b p ≡ r → ⊥) → (owns a r p ≡ false) × (owns b r p ≡ false)
  shared p l d =
      let off : owns b r p ≡ false = elim (cases_Bool (owns b r p)) [ inl e ↦ absurd (d ((mine b p r).0 e).1) | inr e ↦ e ] in
      (elim (cases_Bool (owns a r p)) [ inl e ↦ absurd (both_ways _ (alike.freed p e off) l) | inr e ↦ e ], off)

  same_owner : (p q : ℕ) → (q ≡ r → ⊥) → (table_meaning b).owner p ≡ Some q → (table_meaning a).owner p ≡ Some q
  same_owner p q d e =
      let w = owner_from b p q e in
      let o = shared p w.0 (λ x. d (sym w.1 ∙ x)) in
      let s = alike.same p o.0 o.1 in
      sym (ap₂ (λ (l : Bool) (v : Row). cond l (Some v.rule) None) s.live s.row) ∙ e

  -- ---- states that hold no position of r

  module _ (s : State) (off-a : touches (table_meaning a) r s ≡ false) (off-b : touches (table_meaning b) r s ≡ false) where
    held : (p : ℕ) → has s p ≡ true → Same a b p
    held p h = alike.same p (untouched a r s off-a p h) (untouched b r s off-b p h)

    same_next : (c q : ℕ) → has ((table_meaning b).next s c) q ≡ true → has ((table_meaning a).next s c) q ≡ true
    same_next c q e =
        let w = (next_by b s c q).0 e in
        (next_by a s c q).1 (w.0, w.1, ap (λ (v : Row). takes v c && has v.follow q) (sym (held w.0 w.1).row) ∙ w.2)

    same_ended : (q : ℕ) → has_rule ((table_meaning b).ended s) q ≡ true → has_rule ((table_meaning a).ended s) q ≡ true
    same_ended q e =
        let w = (ended_by b s q).0 e in
        let h = held w.0 w.1 in
        (ended_by a s q).1 (w.0, w.1, sym h.ends ∙ w.2, ap (λ (v : Row). v.rule) (sym h.row) ∙ w.3)

  -- ---- what texts meet

  -- of the positions that are not r's, t holds none but those of s
  Into : State → State → Type 0
  Into s t = (p : ℕ) → owns a r p ≡ false → owns b r p ≡ false → has t p ≡ true → has s p ≡ true

  into_next : (s t : State) (c : ℕ) → Into s t → Into ((table_meaning a).next s c) ((table_meaning b).next t c)
  unfolding Into
  into_next s t c into q off-a off-b h =
      let w = (next_by b t c q).0 h in
      let p = w.0 in
      let f : follows_at b p q ≡ true = (and_parts (takes (row b.rows p) c) (follows_at b p q) w.2).1 in
      let other : rule_at b p ≡ r → ⊥ = λ e. both_ways _ off-b ((mine b q r).1 (b.follows p q f, b.together p q f ∙ e)) in
      let o = shared p (b.followed p q f) other in
      (next_by a s c q).1
      (p, into p o.0 o.1 w.1, ap (λ (v : Row). takes v c && has v.follow q) (sym (alike.same p o.0 o.1).row) ∙ w.2)

  into_after : (text : List ℕ) (s t : State) → Into s t → Into (after (table_meaning a).next s text) (after (table_meaning b).next t text)
  into_after [] s t into = into
  into_after (c ∷ cs) s t into = into_after cs ((table_meaning a).next s c) ((table_meaning b).next t c) (into_next s t c into)

  into_start : Into a.start b.start
  unfolding Into
  into_start p off-a off-b h = sym (alike.same p off-a off-b).start ∙ h

  pub same_met : (q : ℕ) (text : List ℕ) → (q ≡ r → ⊥) → has_rule (meets (table_meaning b) text) q ≡ true → has_rule (meets (table_meaning a) text) q ≡ true
  unfolding Into
  same_met q text d e =
      let s = after (table_meaning a).next a.start text in
      let t = after (table_meaning b).next b.start text in
      let w = (ended_by b t q).0 e in
      let p = w.0 in
      let o = shared p (b.ending p w.2) (λ x. d (sym w.3 ∙ x)) in
      let same = alike.same p o.0 o.1 in
      (ended_by a s q).1
      (p, into_after text a.start b.start into_start p o.0 o.1 w.1, sym same.ends ∙ w.2, ap (λ (v : Row). v.rule) (sym same.row) ∙ w.3)

module _ (r : ℕ) (a b : Table) (alike : Alike r a b) where
  back : Alike r b a
  back = turned r a b alike

  pub elsewhere : Elsewhere r (table_meaning a) (table_meaning b)
  elsewhere = record {
    kinds = alike.kinds;
    places = λ q p d. (same_owner r a b alike p q d, same_owner r b a back p q d);
    nexts = λ s c x y. same_members ((table_meaning b).next s c) ((table_meaning a).next s c)
        (λ q l. either_way _ _ (same_next r a b alike s x y c q) (same_next r b a back s y x c q));
    endings = λ s x y. same_rules ((table_meaning b).ended s) ((table_meaning a).ended s)
        (λ q l. either_way _ _ (same_ended r a b alike s x y q) (same_ended r b a back s y x q));
  }

  pub texts_same : (q : ℕ) (text : List ℕ) → (q ≡ r → ⊥) → has_rule (meets (table_meaning b) text) q ≡ has_rule (meets (table_meaning a) text) q
  texts_same q text d = either_way _ _ (same_met r a b alike q text d) (same_met r b a back q text d)
