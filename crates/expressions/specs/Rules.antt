-- Rules of a book that are expressions, and why adding one is refused.
use Rattle.std.specs.Prelude.{◌≡◌, ℕ, ◌+◌, true, cond, ◌↔◌, List, length, is_some, Some, None, Ok, Err, Option, Result, nat_eq, nat_le}
use Rattle.states.specs.Sets.{State, has, has_rule, set_of}
use Rattle.states.specs.Words.{tally}
use Rattle.books.specs.Meaning.{Meaning, InForce}
use Rattle.books.specs.declared.faults.CommandFault.{CommandFault}
use Rattle.books.specs.declared.faults.BookFault.{BookFault}
use Rattle.books.specs.declared.faults.BookFault.TheVariants.{Number, Kind, Taken, Length, Command, Full}
use Rattle.expressions.specs.Expression.{Plain, Labelled, plain}
use Rattle.expressions.specs.Positions.{Owns, Distinct, Takes, First, Follow, followed_by}
use Rattle.expressions.specs.Commands.{read_all, counted}

-- ---- what a rule is

-- the state that holds the position p alone
unfoldable pub only : ℕ → State
only p = set_of (λ q. nat_eq q p)

-- Rule r is the expression e: its positions are those of a labelled copy of e followed by an end. Of them the start holds the
-- firsts, each leads by a code that it takes to its followers and by others to nothing, and the end alone ends the rule.
pub record Means (m : Meaning) (r : ℕ) (e : Plain) : Type 0 where
  pub body : Labelled
  pub end : ℕ
  pub copy : plain body ≡ e
  pub distinct : Distinct (followed_by body end)
  pub owns : (p : ℕ) → m.owner p ≡ Some r ↔ Owns (followed_by body end) p
  pub starts : (p : ℕ) → m.owner p ≡ Some r → has m.start p ≡ true ↔ First (followed_by body end) p
  pub steps : (p c q : ℕ) → m.owner p ≡ Some r →
      has (m.next (only p) c) q ≡ true ↔ (Takes (followed_by body end) p c × Follow (followed_by body end) p q)
  pub ends : (s : State) → has_rule (m.ended s) r ≡ has s end

-- A state leads where its members lead alone, and ends what they end alone.
pub record Additive (m : Meaning) : Type 0 where
  pub nexts : (s : State) (c q : ℕ) → has (m.next s c) q ≡ true ↔ ((p : ℕ) × (has s p ≡ true) × (has (m.next (only p) c) q ≡ true))
  pub endings : (s : State) (r : ℕ) → has_rule (m.ended s) r ≡ true ↔ ((p : ℕ) × (has s p ≡ true) × (has_rule (m.ended (only p)) r ≡ true))

-- every rule in force is some expression
abbrev pub Expressed : Meaning → Type 0
Expressed m = (r : ℕ) → InForce m r → (e : Plain) × Means m r e

-- m and n have the same rules: of the same kinds, and the same expressions
pub record SameRules (m n : Meaning) : Type 0 where
  pub kinds : (r : ℕ) → n.kind r ≡ m.kind r
  pub expressions : (r : ℕ) → InForce m r → (e : Plain) × Means m r e × Means n r e

-- ---- positions

-- the positions that a rule of so many symbols needs: one for each, and one for its end
abbrev pub needed : ℕ → ℕ
needed n = n + 1

-- how many positions are live
abbrev pub live : Meaning → ℕ
live m = tally (λ p. is_some (m.owner p)) 256

-- ---- why adding is refused

-- whether the positions suffice for a run that was counted; or the fault of its command
abbrev pub room_for : Meaning → Result ℕ CommandFault → Option BookFault
room_for m (Ok n) = cond (nat_le (live m + needed n) 256) None (Some Full)
room_for m (Err f) = Some (Command f)

-- The fault of the first question that gets a no: is the rule number at most 63, is the kind at most 4,095, is no rule of this number
-- in force, are the bytes at most 1,024, does every command pass its questions, do live and needed positions make at most 256?
abbrev pub refusal : ℕ → Meaning → ℕ → ℕ → List ℕ → Option BookFault
refusal last m r k bytes =
    cond (nat_le r 63)
    (cond (nat_le k 4095)
    (cond (is_some (m.kind r)) (Some Taken) (cond (nat_le (length bytes) 1024) (room_for m (counted (read_all last bytes))) (Some Length)))
    (Some Kind))
    (Some Number)
