-- A reader as its contracts show it.
use Rattle.std.specs.Prelude.{◌≡◌, ℕ, List, []}
use Rattle.std.specs.List.{AllByRecursion}
use Rattle.books.specs.Meaning.{Meaning, Model, Within}
use Rattle.kept.specs.Steps.{Step}

pub record View : Type 0 where
  pub book : Model
  -- the kept steps, in the order in which they were kept
  pub kept : List Step
  pub edition : ℕ
  -- all steps worked out so far, up to the last number of 32 bits
  pub tally : ℕ

-- a reader that was just made over a book, with its first edition
abbrev pub fresh : Model → ℕ → View
fresh b e = record { book = b; kept = []; edition = e; tally = 0 }

-- x leads, from a state of live positions, where the book says
pub record Right (m : Meaning) (x : Step) : Type 0 where
  pub live : Within m x.state
  pub next : x.next ≡ m.next x.state x.code

-- all of these steps are the book's
abbrev pub AllRight : Meaning → List Step → Type 0
AllRight m ks = AllByRecursion (Right m) ks

-- every kept step is the book's
abbrev pub Sound : View → Type 0
Sound v = AllRight v.book.meaning v.kept
