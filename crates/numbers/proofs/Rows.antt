-- A table of rows, read row by row, unites what the positions of a state lead to. Assumes nothing.
use Rattle.std.proofs.Common.{◌≡◌, ℕ, ◌+◌, ◌<◌, Bool, false, ◌&&◌, ◌||◌, eqb, leb, sym, ap, ◌∙◌, subst, ap₂, add-one, arith}
use mathlib.Core.Bool.{or_comm}
use Rattle.std.proofs.lemmas.Bool.Decides.{nat_tests}
use Rattle.states.specs.Sets.{State, has, set_of}
use Rattle.states.specs.Words.{some}
use Rattle.states.proofs.Members.{has_set_of, same_words}
use Rattle.expressions.specs.CodeRange.{contains}
use Rattle.numbers.specs.declared.table.Row.{Row}
use Rattle.numbers.specs.Number.{takes, follows, leads}

-- the row says of position p what the book does
pub record Right (p : ℕ) (r : Row) : Type 0 where
  pub codes : (c : ℕ) → takes p c ≡ contains r.codes c
  pub after : r.follow ≡ set_of (follows p)

-- a row is known by its codes and its words
pub row_right : {a b : Row} (p : ℕ) → a ≡ b → ((c : ℕ) → takes p c ≡ contains b.codes c)
    → b.follow.words ≡ (set_of (follows p)).words → Right p a
row_right p e codes words = subst (Right p) (sym e) (record { codes = codes; after = same_words _ _ words })

-- from a number to itself lies that number alone
pub one_code : (n c : ℕ) → eqb c n ≡ (leb n c && leb c n)
one_code n c = grind (arith, nat_tests)

pub no_code : (c : ℕ) → false ≡ (leb 1 c && leb c 0)
no_code c = grind (arith, nat_tests)

-- one position more: if it is held and takes the code, its followers come in
pub row_more : (s out out' : State) (c p : ℕ) (r : Row) → Right p r → ((q : ℕ) → q < 256 → has out q ≡ some (leads s c q) p)
    → ((q : ℕ) → has out' q ≡ (has out q || (has s p && contains r.codes c && has r.follow q)))
    → (q : ℕ) → q < 256 → has out' q ≡ some (leads s c q) (p + 1)
unfolding some
row_more s out out' c p r right so came q b =
    came q
    ∙ or_comm (has out q) _
    ∙ ap₂ (λ (x y : Bool). x || y) (and_assoc (has s p) (contains r.codes c) (has r.follow q)
    ∙ ap₂ (λ (x y : Bool). has s p && (x && y)) (sym (right.codes c)) (ap (λ (t : State). has t q) right.after ∙ has_set_of (follows p) q b)) (so q b)
    ∙ sym (ap (some (leads s c q)) (add-one p))
  where
    and_assoc : (x y z : Bool) → (x && y && z) ≡ (x && (y && z))
    and_assoc x y z = grind arith
