-- What stays true while commands give a rule its positions.
use Rattle.std.specs.Prelude.{◌≡◌, ℕ, ◌+◌, ◌<◌, ◌≤◌, Bool, true, false, not, ◌&&◌, ◌||◌, ◌⊎◌, List, [], ◌∷◌, map, length, is_some, Some, Ok, Decides, ◌==◌, ◌≢◌, slice_set}
use Rattle.states.specs.Sets.{State, has, size}
use Rattle.expressions.specs.declared.code_range.CodeRange.{CodeRange}
use Rattle.expressions.specs.declared.command.Command.{Command}
use Rattle.expressions.specs.Expression.{Labelled, Plain, plain, symbols}
use Rattle.expressions.specs.Positions.{Owns, Disjoint, Distinct, Takes, First, Follow, followed_by}
use Rattle.expressions.specs.Commands.{read_all}
use Rattle.expressions.specs.Commands as Commands
use Rattle.expressions.specs.Rules.{needed}
use Rattle.expression_book.specs.declared.part.Part.{Part}
use Rattle.expression_book.specs.declared.table.Table.{Table}
use Rattle.expression_book.specs.Rows.{row, takes, Gains, fresh_row}
use Rattle.expression_book.specs.Parts.{Shows}
use Rattle.expression_book.specs.Tables.{table_meaning, owns}

-- ---- the steps of the table

-- from a to b nothing but rows and live positions changes
pub record Holds (a b : Table) : Type 0 where
  pub kinds : b.kinds.by_rule ≡ a.kinds.by_rule
  pub start : b.start ≡ a.start
  pub ends : b.ends ≡ a.ends
  pub note : b.asked ≡ a.asked

-- from a to b position p, which was free, becomes one of rule r that takes these codes
pub record Gives (r : ℕ) (codes : CodeRange) (p : ℕ) (a b : Table) : Type 0 where
  pub holds : Holds a b
  pub free : has a.live p ≡ false
  pub live : (q : ℕ) → has b.live q ≡ (has a.live q || q == p)
  pub fresh : row b.rows p ≡ fresh_row r codes
  pub kept : (q : ℕ) → (q ≢ p) → row b.rows q ≡ row a.rows q
  pub count : size b.live ≡ size a.live + 1

-- from a to b the positions of `first` become followers of those of `last`
pub record Links (last first : State) (a b : Table) : Type 0 where
  pub holds : Holds a b
  pub live : b.live ≡ a.live
  pub linked : (p : ℕ) → has last p ≡ true → Gains first (row a.rows p) (row b.rows p)
  pub kept : (p : ℕ) → has last p ≡ false → row b.rows p ≡ row a.rows p

-- ---- expressions that wait

-- each part shows its expression
abbrev pub AllShow : List Part → List Labelled → Type 0
AllShow [] [] = Unit {0}
AllShow [] (e ∷ es) = ⊥
AllShow (k ∷ ks) [] = ⊥
AllShow (k ∷ ks) (e ∷ es) = Shows k e × AllShow ks es

-- one of the expressions passes
abbrev pub Any : (Labelled → Type 0) → List Labelled → Type 0
Any P [] = ⊥
Any P (e ∷ es) = P e ⊎ Any P es

-- no position stands at two symbols of these expressions
abbrev pub Separate : List Labelled → Type 0
Separate [] = Unit {0}
Separate (e ∷ es) = Distinct e × Disjoint (Owns e) (λ p. Any (λ d. Owns d p) es) × Separate es

-- the positions used (U), their followers (F) and the codes that they take (C) are those of the expressions
pub record Tabled (U : ℕ → Bool) (F C : ℕ → ℕ → Bool) (es : List Labelled) : Type 0 where
  pub used : (p : ℕ) → Decides (U p) (Any (λ e. Owns e p) es)
  pub follows : (p q : ℕ) → Decides (F p q) (Any (λ e. Follow e p q) es)
  pub codes : (p c : ℕ) → Decides (C p c) (Any (λ e. Takes e p c) es)

-- ---- between two commands

-- position p became live since the table was a
abbrev pub taken : Table → Table → ℕ → Bool
taken a t p = has t.live p && not (has a.live p)

-- Since the table was a, no more than positions of rule r became live, and the rows of all others are as they were.
pub record Beside (a : Table) (r : ℕ) (t : Table) : Type 0 where
  pub rule : (p : ℕ) → taken a t p ≡ true → (row t.rows p).rule ≡ r
  pub live : (p : ℕ) → has a.live p ≡ true → has t.live p ≡ true
  pub kept : (p : ℕ) → taken a t p ≡ false → row t.rows p ≡ row a.rows p
  pub holds : Holds a t

-- Since the table was a, the positions of the expressions that wait became live for rule r. The parts show these expressions, which
-- are W without their labels, and the rows of their positions are theirs.
pub record Building (a : Table) (r : ℕ) (W : List Plain) (parts : List Part) (t : Table) : Type 0 where
  pub waiting : List Labelled
  pub named : map plain waiting ≡ W
  pub shown : AllShow parts waiting
  pub separate : Separate waiting
  pub rows : Tabled (taken a t) (λ p q. taken a t p && has (row t.rows p).follow q) (λ p c. taken a t p && takes (row t.rows p) c) waiting
  pub beside : Beside a r t

-- the positions that the part tells are of rule r
pub record Within (t : Table) (r : ℕ) (k : Part) : Type 0 where
  pub first : (p : ℕ) → has k.first p ≡ true → owns t r p ≡ true
  pub last : (p : ℕ) → has k.last p ≡ true → owns t r p ≡ true

abbrev pub AllWithin : Table → ℕ → List Part → Type 0
AllWithin t r [] = Unit {0}
AllWithin t r (k ∷ ks) = Within t r k × AllWithin t r ks

-- what a command of rule r needs: parts to take or room for one, a free position for a symbol, and parts that are of the rule
pub record Ready (r : ℕ) (c : Command) (parts : List Part) (t : Table) : Type 0 where
  pub enough : Commands.takes c ≤ length parts
  pub few : Commands.takes c ≡ 0 → length parts < 40
  pub most : length parts ≤ 40
  pub free : 0 < Commands.adds c → size t.live < 256
  pub force : is_some ((table_meaning t).kind r) ≡ true
  pub within : AllWithin t r parts

-- the bytes spell an expression, and the free positions suffice for it
abbrev pub Roomy : ℕ → List ℕ → Table → Type 0
Roomy last bytes t = (e : Plain) × (read_all last bytes ≡ Ok e) × (size t.live + needed (symbols e) ≤ 256)

-- ---- a rule put in force

-- From a to b rule r, which is the expression e, comes in force with kind k: its positions, which were not live, are those of a
-- labelled copy of e followed by an end. The firsts of it join the start, its end joins the ends, and all other rows are as they were.
pub record Puts (r k : ℕ) (e : Plain) (a b : Table) : Type 0 where
  pub body : Labelled
  pub end : ℕ
  pub copy : plain body ≡ e
  pub distinct : Distinct (followed_by body end)
  pub rows : Tabled (taken a b) (λ p q. taken a b p && has (row b.rows p).follow q) (λ p c. taken a b p && takes (row b.rows p) c) (followed_by body end ∷ [])
  pub rule : (p : ℕ) → taken a b p ≡ true → (row b.rows p).rule ≡ r
  pub live : (p : ℕ) → has a.live p ≡ true → has b.live p ≡ true
  pub kept : (p : ℕ) → taken a b p ≡ false → row b.rows p ≡ row a.rows p
  pub kinds : b.kinds.by_rule ≡ slice_set a.kinds.by_rule r (Some k)
  pub start : (p : ℕ) → Decides (has b.start p) ((has a.start p ≡ true) ⊎ First (followed_by body end) p)
  pub ends : (p : ℕ) → Decides (has b.ends p) ((has a.ends p ≡ true) ⊎ (end ≡ p))
  pub note : b.asked ≡ a.asked
  pub count : size b.live ≡ size a.live + needed (symbols e)
