-- An adding, as the book's contracts say it. Assumes nothing.
use Rattle.std.proofs.Common.{◌≡◌, ℕ, ◌<◌, Bool, true, false, cond, not, ◌⊎◌, ◌↔◌, List, [], ◌∷◌, get_or, is_some as option_is_some, Some, None, Decides, Option, sym, refl, ap, ◌∙◌, inl, inr}
use Rattle.std.proofs.lemmas.List.{get_or-set_other}
use Rattle.std.proofs.lemmas.Bool.{cases_Bool, both_ways, and_parts, and_from, and_cases, not-true, not-false}
use Rattle.states.specs.Sets.{State, has, has_rule, size}
use Rattle.states.proofs.Digits.{tally_same}
use Rattle.states.proofs.Members.{member_below}
use Rattle.books.specs.Changes.{Added}
use Rattle.books.proofs.Touching.{fails}
use Rattle.expressions.specs.Expression.{Plain, Labelled}
use Rattle.expressions.specs.Positions.{Owns, Takes, Follow, followed_by}
use Rattle.expressions.specs.Rules.{only, Means, Additive, live}
use Rattle.expressions.proofs.Owned.{first_owned}
use Rattle.expressions.proofs.Members.{only_holds, only_is, is_some, some_is}
use Rattle.expression_book.specs.declared.row.Row.{Row}
use Rattle.expression_book.specs.declared.table.Table.{Table}
use Rattle.expression_book.specs.Rows.{row, takes, leads}
use Rattle.expression_book.specs.Tables.{table_meaning, owns}
use Rattle.expression_book.specs.Building.{Any, taken, Puts}
use Rattle.expression_book.specs.Laws.{in_force, rule_at, follows_at, mine, live_is, next_by, ended_by}
use Rattle.expression_book.proofs.Removed.{kind_here}
use Rattle.expression_book.proofs.Alike.{Alike, elsewhere, either_way}

-- ---- every table

-- the next state of a state is the union of those of its members, and so are the rules that it ends
pub table_additive : (t : Table) → Additive (table_meaning t)
table_additive t = record {
  nexts = λ s c q. (
    λ e. let w = (next_by t s c q).0 e in (w.0, w.1, (next_by t (only w.0) c q).1 (w.0, itself s w.0 w.1, w.2)),
    λ w. let v = (next_by t (only w.0) c q).0 w.2 in (next_by t s c q).1 (v.0, ap (has s) (only_is w.0 v.0 v.1) ∙ w.1, v.2),
  );
  endings = λ s r. (
    λ e. let w = (ended_by t s r).0 e in (w.0, w.1, (ended_by t (only w.0) r).1 (w.0, itself s w.0 w.1, w.2, w.3)),
    λ w. let v = (ended_by t (only w.0) r).0 w.2 in (ended_by t s r).1 (v.0, ap (has s) (only_is w.0 v.0 v.1) ∙ w.1, v.2, v.3),
  );
}
  where
    itself : (s : State) (p : ℕ) → has s p ≡ true → has (only p) p ≡ true
    itself s p h = only_holds p (member_below s p h)

pub live_size : (t : Table) → live (table_meaning t) ≡ size t.live
live_size t = tally_same (λ p. option_is_some ((table_meaning t).owner p)) (has t.live) 256 (λ p l. live_is t p)

-- ---- a rule put in force

module _ (r k : ℕ) (e : Plain) (a b : Table) (low : r < 64) (free : get_or a.kinds.by_rule r None ≡ None) (puts : Puts r k e a b) where
  whole : Labelled
  whole = followed_by puts.body puts.end

  put_kind : get_or b.kinds.by_rule r None ≡ Some k
  put_kind = ap (λ (ks : List (Option ℕ)). get_or ks r None) puts.kinds ∙ kind_here a r (Some k) low

  -- r owned nothing before
  none_owned : (p : ℕ) → owns a r p ≡ false
  none_owned p = fails (owns a r p) (in_force a r) (λ h. let w = (mine a p r).0 h in ap (in_force a) (sym w.1) ∙ a.owned p w.0) (ap option_is_some free)

  taken_fresh : (p : ℕ) → taken a b p ≡ true → (has b.live p ≡ true) × (has a.live p ≡ false)
  taken_fresh p h = let w = and_parts (has b.live p) (not (has a.live p)) h in (w.0, not-true _ w.1)

  -- a live position of r was taken, since the rows of others are as they were
  at_rule : (p : ℕ) → has b.live p ≡ true → rule_at b p ≡ r → taken a b p ≡ true
  at_rule p l e = elim (cases_Bool (taken a b p)) [
    | inl h ↦ h
    | inr h ↦ (let was : has a.live p ≡ true = kept_live p l h in
        absurd (both_ways _ (none_owned p) ((mine a p r).1 (was, ap (λ (v : Row). v.rule) (sym (puts.kept p h)) ∙ e))))
  ]
    where
      kept_live : (p : ℕ) → has b.live p ≡ true → taken a b p ≡ false → has a.live p ≡ true
      kept_live p l h = elim (and_cases (has b.live p) (not (has a.live p)) h) [
        | inl n ↦ absurd (both_ways _ n l)
        | inr n ↦ not-false _ n
      ]

  owned_by : (p : ℕ) → Decides (owns b r p) (taken a b p ≡ true)
  owned_by p = (
    λ h. let w = (mine b p r).0 h in at_rule p w.0 w.1,
    λ h. (mine b p r).1 ((taken_fresh p h).0, puts.rule p h),
  )

  -- a position was taken exactly where the expression or its end has it
  taken_by : (p : ℕ) → Decides (taken a b p) (Owns whole p)
  unfolding whole
  taken_by p = (λ h. one ((puts.rows.used p).0 h), λ o. (puts.rows.used p).1 (inl o))
    where
      one : Any (λ x. Owns x p) (whole ∷ []) → Owns whole p
      one (inl o) = o
      one (inr x) = absurd x

  pub add_alike : Alike r a b
  unfolding whole
  add_alike = record {
    kinds = λ q d. ap (λ (ks : List (Option ℕ)). get_or ks q None) puts.kinds ∙ get_or-set_other a.kinds.by_rule r q (Some k) None d;
    freed = λ p h n. absurd (both_ways _ (none_owned p) h);
    fresh = λ p h n. (taken_fresh p ((owned_by p).0 h)).1;
    same = λ p x n. let off : taken a b p ≡ false = fails (taken a b p) (owns b r p) (owned_by p).1 n in
        record {
          live = either_way _ _ (λ h. elim (and_cases (has b.live p) (not (has a.live p)) off) [
            | inl z ↦ absurd (both_ways _ z h)
            | inr z ↦ not-false _ z
          ]) (puts.live p);
          start = either_way _ _ (λ h. elim ((puts.start p).0 h) [
            | inl s ↦ s
            | inr f ↦ absurd (both_ways _ off ((taken_by p).1 (first_owned whole p f)))
          ]) (λ s. (puts.start p).1 (inl s));
          ends = either_way _ _ (λ h. elim ((puts.ends p).0 h) [
            | inl s ↦ s
            | inr z ↦ absurd (both_ways _ off ((taken_by p).1 (inr z)))
          ]) (λ s. (puts.ends p).1 (inl s));
          row = puts.kept p off;
        };
  }

  pub added : Added r k (table_meaning a) (table_meaning b)
  added = record {
    elsewhere = elsewhere r a b add_alike;
    before = free;
    after = put_kind;
    fresh = λ p h. ap (λ (l : Bool). cond l (Some (rule_at a p)) None) (taken_fresh p ((owned_by p).0 (some_is _ r h))).1;
    keeps = λ p h. (puts.start p).1 (inl h);
    gains = λ p n h. sym (add_alike.same p (none_owned p) n).start ∙ h;
  }

  -- ---- the rule is the expression

  mine_taken : (p : ℕ) → (table_meaning b).owner p ≡ Some r → taken a b p ≡ true
  mine_taken p h = (owned_by p).0 (some_is _ r h)

  steps : (p c q : ℕ) → (table_meaning b).owner p ≡ Some r → has ((table_meaning b).next (only p) c) q ≡ true ↔ (Takes whole p c × Follow whole p q)
  unfolding whole
  steps p c q h = (to, from)
    where
      mark : taken a b p ≡ true
      mark = mine_taken p h

      to : has ((table_meaning b).next (only p) c) q ≡ true → Takes whole p c × Follow whole p q
      to n =
          let w = (next_by b (only p) c q).0 n in
          let here : w.0 ≡ p = only_is p w.0 w.1 in
          let led = and_parts (takes (row b.rows p) c) (follows_at b p q) (ap (λ (x : ℕ). leads b.rows c x q) (sym here) ∙ w.2) in (
            first_of ((puts.rows.codes p c).0 (and_from _ _ mark led.0)),
            first_of ((puts.rows.follows p q).0 (and_from _ _ mark led.1)),
          )
        where
          first_of : {X : Type 0} → X ⊎ ⊥ → X
          first_of (inl x) = x
          first_of (inr x) = absurd x

      from : Takes whole p c × Follow whole p q → has ((table_meaning b).next (only p) c) q ≡ true
      from (t, f) =
          (next_by b (only p) c q).1 (
            p,
            only_holds p (member_below b.live p (taken_fresh p mark).0),
            and_from _ _ (and_parts (taken a b p) _ ((puts.rows.codes p c).1 (inl t))).1 (and_parts (taken a b p) _ ((puts.rows.follows p q).1 (inl f))).1,
          )

  ends : (s : State) → has_rule ((table_meaning b).ended s) r ≡ has s puts.end
  unfolding whole
  ends s = either_way _ _ to from
    where
      to : has_rule ((table_meaning b).ended s) r ≡ true → has s puts.end ≡ true
      to h =
          let w = (ended_by b s r).0 h in
          let mark = at_rule w.0 (b.ending w.0 w.2) w.3 in
          elim ((puts.ends w.0).0 w.2) [
            | inl was ↦ absurd (both_ways _ (taken_fresh w.0 mark).1 (a.ending w.0 was))
            | inr here ↦ ap (has s) here ∙ w.1
          ]

      from : has s puts.end ≡ true → has_rule ((table_meaning b).ended s) r ≡ true
      from h = (ended_by b s r).1 (puts.end, h, (puts.ends puts.end).1 (inr refl), puts.rule puts.end ((taken_by puts.end).1 (inr refl)))

  pub means : Means (table_meaning b) r e
  unfolding whole
  means = record {
    body = puts.body;
    end = puts.end;
    copy = puts.copy;
    distinct = puts.distinct;
    owns = λ p. (λ h. (taken_by p).0 (mine_taken p h), λ o. is_some _ r ((owned_by p).1 ((taken_by p).1 o)));
    starts = λ p h. (
      λ s. elim ((puts.start p).0 s) [
        | inl was ↦ absurd (both_ways _ (taken_fresh p (mine_taken p h)).1 (a.starting p was))
        | inr f ↦ f
      ],
      λ f. (puts.start p).1 (inr f),
    );
    steps = steps;
    ends = ends;
  }
