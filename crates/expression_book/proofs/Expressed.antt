-- Where every rule in force is an expression, every one is so after a change. Assumes nothing.
use Rattle.std.proofs.Common.{◌≡◌, ℕ, List, is_some, IfOk, Ok, Err, Result, sym, ap, ◌∙◌, subst, inl, inr, MatchResult}
use Rattle.std.proofs.lemmas.Bool.{cases_eq, both_ways}
use Rattle.books.specs.Changes.{Added, Deleted, Changed}
use Rattle.books.specs.declared.faults.BookFault.{BookFault}
use Rattle.expressions.specs.Rules.{Means, Expressed}
use Rattle.expression_book.specs.declared.table.Table.{Table}
use Rattle.expression_book.specs.Tables.{table_meaning, table_model}
use Rattle.expression_book.specs.Promises.{Adopts, Denoting, OthersStay}
use Rattle.expressions.proofs.Tokens.{meets_all, search_denoted}
use Rattle.expression_book.proofs.Added.{table_additive}
use Rattle.expression_book.specs.Laws.{table_lawful}

module _ (a b : Table) (r : ℕ) where
  -- a refused change leaves the table as it was
  same : b ≡ a → Expressed (table_meaning a) → Expressed (table_meaning b)
  same e = subst (λ (t : Table). Expressed (table_meaning t)) (sym e)

  pub add_expressed : (last k : ℕ) (bytes : List ℕ) (s : Result (Unit {0}) BookFault) → MatchResult s (λ _. Changed (Added r k) (table_model a) (table_model b)) (λ _. b ≡ a)
      → IfOk s (λ _. Adopts last r bytes (table_meaning a) (table_meaning b)) → IfOk s (λ _. OthersStay r (table_meaning a) (table_meaning b))
      → Expressed (table_meaning a) → Expressed (table_meaning b)
  add_expressed last k bytes (Err f) change adopts others all q force = same change all q force
  add_expressed last k bytes (Ok u) change adopts others all q force = elim (cases_eq q r) [
    | inl here ↦ (adopts.expression, subst (λ (x : ℕ). Means (table_meaning b) x adopts.expression) (sym here) adopts.means)
    | inr other ↦ (let (e, is) = all q (ap is_some (sym (change.meaning.elsewhere.kinds q other)) ∙ force) in (e, others.expressions q e other is))
  ]

  pub delete_expressed : (s : Result (Unit {0}) BookFault) → MatchResult s (λ _. Changed (Deleted r) (table_model a) (table_model b)) (λ _. b ≡ a)
      → IfOk s (λ _. OthersStay r (table_meaning a) (table_meaning b)) → Expressed (table_meaning a) → Expressed (table_meaning b)
  delete_expressed (Err f) change others all q force = same change all q force
  delete_expressed (Ok u) change others all q force = elim (cases_eq q r) [
    | inl here ↦ absurd (both_ways _ (ap (λ (x : ℕ). is_some ((table_meaning b).kind x)) here ∙ ap is_some change.meaning.after) force)
    | inr other ↦ (let (e, is) = all q (ap is_some (sym (change.meaning.elsewhere.kinds q other)) ∙ force) in (e, others.expressions q e other is))
  ]

-- where every rule in force is an expression, texts and tokens are told by what expressions denote
pub denoting : (t : Table) → Expressed (table_meaning t) → Denoting (table_meaning t)
denoting t all =
    let m = table_meaning t in
    record { expressed = all; texts = meets_all m (table_lawful t) (table_additive t) all; tokens = search_denoted m (table_lawful t) (table_additive t) all }
