-- What the book means, by its positions.
use Rattle.std.specs.Prelude.{◌≡◌, ℕ, Bool, true, false, cond, not, ◌&&◌, Some, None, ◌==◌, slice_index_or, slice_set}
use Rattle.states.specs.Words.{some}
use Rattle.states.specs.Sets.{has, set_of, rules_of}
use Rattle.books.specs.Meaning.{Meaning, Model, counting, is}
use Rattle.expression_book.specs.declared.book.ExpressionBook.{ExpressionBook}
use Rattle.expression_book.specs.declared.table.Table.{Table}
use Rattle.expression_book.specs.Rows.{blank, row, leads}

-- A next state is the union of the followers of the positions that take the code, and a state ends the rules of those of its
-- positions that are ends.
abbrev pub table_meaning : Table → Meaning
table_meaning t = record {
  kind = λ r. slice_index_or t.kinds.by_rule r None;
  owner = λ p. cond (has t.live p) (Some (row t.rows p).rule) None;
  start = t.start;
  next = λ s c. set_of (λ q. some (λ p. has s p && leads t.rows c p q) 256);
  ended = λ s. rules_of (λ r. some (λ p. has s p && (has t.ends p && (row t.rows p).rule == r)) 256);
}

-- the book by its note too, which counts the questions for a next state
abbrev pub table_model : Table → Model
table_model t = record { meaning = table_meaning t; note = t.asked; noted = counting }

-- rule r owns position p
abbrev pub owns : Table → ℕ → ℕ → Bool
owns t r p = is ((table_meaning t).owner p) r

-- From a to b rule r goes: its positions are live no more, their rows are blank, and all else stays.
pub record Removes (r : ℕ) (a b : Table) : Type 0 where
  pub kinds : b.kinds.by_rule ≡ slice_set a.kinds.by_rule r None
  pub live : (p : ℕ) → has b.live p ≡ (has a.live p && not (owns a r p))
  pub start : (p : ℕ) → has b.start p ≡ (has a.start p && not (owns a r p))
  pub ends : (p : ℕ) → has b.ends p ≡ (has a.ends p && not (owns a r p))
  pub cleared : (p : ℕ) → owns a r p ≡ true → row b.rows p ≡ blank
  pub kept : (p : ℕ) → owns a r p ≡ false → row b.rows p ≡ row a.rows p
  pub note : b.asked ≡ a.asked

-- ---- the book is its table

abbrev pub book_meaning : {S : Type 0} → ExpressionBook S → Meaning
book_meaning b = table_meaning b.table

abbrev pub book_model : {S : Type 0} → ExpressionBook S → Model
book_model b = table_model b.table
