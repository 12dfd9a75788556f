-- What each call does to a reader over a changing book, which says more of its changes than every book does.
use Rattle.std.specs.Prelude.{◌≡◌, ℕ, List, [], ◌∷◌, Some, None, Option}
use Rattle.books.specs.Meaning.{Meaning}
use Rattle.books.specs.Changes.{Added, Deleted}
use Rattle.books.specs.declared.faults.BookFault.{BookFault}
use Rattle.readings.specs.Views.{View}
use Rattle.readings.specs.Readings.{Told}
use Rattle.readings.specs.Calls.{Call, AddsBy, DeletesBy, Does}
use Rattle.readings.specs.Calls.Call.{read, add, delete, begin, finish}
use Rattle.readings.specs.Entries.{Entry}

-- From m to n rule r is added with kind k by the bytes: `refusal` finds no fault, and n is what `grows` says.
pub record AddedBy (refusal : Meaning → ℕ → ℕ → List ℕ → Option BookFault) (grows : ℕ → ℕ → List ℕ → Meaning → Meaning → Type 0) (r k : ℕ)
    (bytes : List ℕ) (m n : Meaning) : Type 0 where
  pub passed : refusal m r k bytes ≡ None
  pub added : Added r k m n
  pub grown : grows r k bytes m n

-- From m to n rule r is deleted: n is what `shrinks` says.
pub record DeletedBy (shrinks : ℕ → Meaning → Meaning → Type 0) (r : ℕ) (m n : Meaning) : Type 0 where
  pub deleted : Deleted r m n
  pub shrunk : shrinks r m n

-- Over a book that says of its changes what these three say. It refuses an adding for the fault that `refusal` finds and for no
-- other; calls that change nothing do what they do over every book.
module _ (refusal : Meaning → ℕ → ℕ → List ℕ → Option BookFault) (grows : ℕ → ℕ → List ℕ → Meaning → Meaning → Type 0)
    (shrinks : ℕ → Meaning → Meaning → Type 0) where
  abbrev pub Acts : Call → Told → ℕ → View → View → Type 0
  Acts (read x) t n v w = Does (read x) t n v w
  Acts (add r k bytes) t n v w = AddsBy (λ f. refusal v.book.meaning r k bytes ≡ Some f) (AddedBy refusal grows r k bytes) t n v w
  Acts (delete r) t n v w = DeletesBy r (DeletedBy shrinks r) t n v w
  Acts begin t n v w = Does begin t n v w
  Acts (finish e s) t n v w = Does (finish e s) t n v w

-- the entries are calls of the reader v, one after the other, each of which does what `does` says
abbrev pub Chain : (Call → Told → ℕ → View → View → Type 0) → View → List Entry → Type 0
Chain does v [] = Unit {0}
Chain does v (e ∷ es) = (w : View) × (e.book ≡ v.book.meaning) × does e.call e.told e.count v w × Chain does w es
