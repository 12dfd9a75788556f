-- A table without rules. Assumes nothing.
use Rattle.std.proofs.Common.{◌≡◌, ℕ, zero, suc, Bool, false, ◌&&◌, eqb, List, get_or, replicate, refl, ap, ◌∙◌, inl, inr}
use Rattle.std.proofs.lemmas.Bool.{cases_lt, cases_Bool, both_ways, and_parts}
use Rattle.states.specs.Sets.{State, has, has_rule, rules_of}
use Rattle.states.specs.Words.{some}
use Rattle.states.proofs.Members.{some_member, has_rule_rules_of, rules_above}
use Rattle.expression_book.specs.declared.row.Row.{Row}
use Rattle.expression_book.specs.Rows.{blank, row}
use Rattle.expression_book.proofs.Removed.{blank_follows}

-- the same everywhere, and beyond the end
everywhere : {X : Type 0} (x : X) (n i : ℕ) → get_or (replicate n x) i x ≡ x
everywhere x zero i = refl
everywhere x (suc n) zero = refl
everywhere x (suc n) (suc i) = everywhere x n i

pub blanks : (w : Row) → w ≡ blank → (n p q : ℕ) → has (row (replicate n w) p).follow q ≡ false
blanks w is n p q =
    ap (λ (v : Row). has (row (replicate n v) p).follow q) is ∙ ap (λ (v : Row). has v.follow q) (everywhere blank n p) ∙ blank_follows q

-- where no position is an end no rule is ended
pub ends_none : (rows : List Row) (ends : State) → ((p : ℕ) → has ends p ≡ false) → (s : State) (q : ℕ)
    → has_rule (rules_of (λ r. some (λ p. has s p && (has ends p && eqb (row rows p).rule r)) 256)) q ≡ false
ends_none rows ends none s q = elim (cases_lt q 64) [
  | inl l ↦ has_rule_rules_of f q l ∙ nobody
  | inr l ↦ rules_above (rules_of f) q l
]
  where
    f : ℕ → Bool
    f r = some (λ p. has s p && (has ends p && eqb (row rows p).rule r)) 256

    nobody : some (λ p. has s p && (has ends p && eqb (row rows p).rule q)) 256 ≡ false
    nobody = elim (cases_Bool (f q)) [
      | inl e ↦ (let w = (some_member s (λ p. has ends p && eqb (row rows p).rule q)).0 e in
          absurd (both_ways _ (none w.0) (and_parts (has ends w.0) _ w.2).0))
      | inr e ↦ e
    ]
