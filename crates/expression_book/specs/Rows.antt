-- What is kept for a position.
use Rattle.std.specs.Prelude.{◌≡◌, ℕ, Bool, ◌&&◌, ◌||◌, List, slice_index_or}
use Rattle.states.specs.Sets.{State, has, nothing}
use Rattle.expressions.specs.declared.code_range.CodeRange.{CodeRange}
use Rattle.expressions.specs.CodeRange.{none, contains}
use Rattle.expression_book.specs.declared.row.Row.{Row}

-- a position that takes no code and has no follower
unfoldable pub blank : Row
blank = record { rule = 0; codes = none; follow = nothing }

-- a position of rule r that takes these codes and has no follower
abbrev pub fresh_row : ℕ → CodeRange → Row
fresh_row r codes = record { rule = r; codes = codes; follow = nothing }

-- the row of position p
abbrev pub row : List Row → ℕ → Row
row rows p = slice_index_or rows p blank

-- the position takes the code c
abbrev pub takes : Row → ℕ → Bool
takes w c = contains w.codes c

-- by the code c, position p leads to q
abbrev pub leads : List Row → ℕ → ℕ → ℕ → Bool
leads rows c p q = takes (row rows p) c && has (row rows p).follow q

-- w is v with the positions of `first` as more followers
pub record Gains (first : State) (v w : Row) : Type 0 where
  pub rule : w.rule ≡ v.rule
  pub codes : w.codes ≡ v.codes
  pub follow : (q : ℕ) → has w.follow q ≡ (has v.follow q || has first q)
