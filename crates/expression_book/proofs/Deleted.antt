-- A deletion, as the book's contracts say it. Assumes nothing.
use Rattle.std.proofs.Common.{◌≡◌, ℕ, Bool, true, false, cond, not, ◌&&◌, List, get_or, is_some, Some, None, Option, sym, ap, ◌∙◌}
use Rattle.std.proofs.lemmas.List.{get_or-set_other}
use Rattle.std.proofs.lemmas.Bool.{both_ways, and_right}
use Rattle.std.proofs.Math.Bool.{and-true}
use Rattle.states.specs.Sets.{has, has_rule}
use Rattle.books.specs.Changes.{Deleted}
use Rattle.books.specs.Texts.{after, meets}
use Rattle.books.proofs.Touching.{fails}
use Rattle.expression_book.specs.declared.table.Table.{Table}
use Rattle.expression_book.specs.Tables.{table_meaning, owns, Removes}
use Rattle.expression_book.specs.Laws.{in_force, rule_at, mine, owner_from, ended_by, rule_below}
use Rattle.expression_book.proofs.Removed.{kind_here}
use Rattle.expression_book.proofs.Alike.{Alike, elsewhere}

owner_none : (t : Table) (p : ℕ) → has t.live p ≡ false → (table_meaning t).owner p ≡ None
owner_none t p e = ap (λ (l : Bool). cond l (Some (rule_at t p)) None) e

module _ (r : ℕ) (a b : Table) (force : in_force a r ≡ true) (gone : Removes r a b) where
  gone_kind : get_or b.kinds.by_rule r None ≡ None
  gone_kind = ap (λ (ks : List (Option ℕ)). get_or ks r None) gone.kinds ∙ kind_here a r None (rule_below a r force)

  -- r owns nothing any more
  none_owned : (p : ℕ) → owns b r p ≡ false
  none_owned p = fails (owns b r p) (in_force b r) (λ e. let w = (mine b p r).0 e in ap (in_force b) (sym w.1) ∙ b.owned p w.0) (ap is_some gone_kind)

  lost : (x : Bool) (p : ℕ) → owns a r p ≡ true → (x && not (owns a r p)) ≡ false
  lost x p e = and_right x _ (ap not e)

  stays : (x : Bool) (p : ℕ) → owns a r p ≡ false → (x && not (owns a r p)) ≡ x
  stays x p e = ap (λ (y : Bool). x && not y) e ∙ and-true x

  pub delete_alike : Alike r a b
  delete_alike = record {
    kinds = λ q d. ap (λ (ks : List (Option ℕ)). get_or ks q None) gone.kinds ∙ get_or-set_other a.kinds.by_rule r q None None d;
    freed = λ p e n. gone.live p ∙ lost (has a.live p) p e;
    fresh = λ p e n. absurd (both_ways _ (none_owned p) e);
    same = λ p e n. record {
      live = gone.live p ∙ stays (has a.live p) p e;
      start = gone.start p ∙ stays (has a.start p) p e;
      ends = gone.ends p ∙ stays (has a.ends p) p e;
      row = gone.kept p e;
    };
  }

  pub deleted : Deleted r (table_meaning a) (table_meaning b)
  deleted = record {
    elsewhere = elsewhere r a b delete_alike;
    before = force;
    after = gone_kind;
    freed = λ p e. owner_none b p (gone.live p ∙ lost (has a.live p) p ((mine a p r).1 (owner_from a p r e)));
    loses = λ p e. gone.start p ∙ lost (has a.start p) p e;
    stays = λ p e. gone.start p ∙ stays (has a.start p) p e;
  }

  -- a rule that is not in force is never met
  pub delete_texts : (text : List ℕ) → has_rule (meets (table_meaning b) text) r ≡ false
  delete_texts text =
      let s = after (table_meaning b).next b.start text in
      fails _ (in_force b r) (λ e. let w = (ended_by b s r).0 e in ap (in_force b) (sym w.3) ∙ b.owned w.0 (b.ending w.0 w.2)) (ap is_some gone_kind)
