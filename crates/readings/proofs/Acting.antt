-- What a call does to a reader over a changing book is what it does over every book.
use Rattle.std.proofs.Common.{ℕ, List, [], ◌∷◌, Option, inl, inr}
use Rattle.books.specs.Meaning.{Meaning}
use Rattle.books.specs.declared.faults.BookFault.{BookFault}
use Rattle.kept.specs.Steps.{Step}
use Rattle.readings.specs.Views.{View}
use Rattle.readings.specs.Readings.{Told}
use Rattle.readings.specs.Calls.{Call, ChangesOr, Does}
use Rattle.readings.specs.Calls.Call.{read, add, delete, begin, finish}
use Rattle.readings.specs.Changing.{Acts, Chain}
use Rattle.readings.specs.Entries.{Entry}
use Rattle.readings.specs.Histories.{History}

-- a change for fewer causes, of which less is known
weaker : {P Q : BookFault → Type 0} {C D : Meaning → Meaning → Type 0} {steps : List Step} {t : Told} {n : ℕ} {v w : View} →
    ((f : BookFault) → P f → Q f) → ((a b : Meaning) → C a b → D a b) → ChangesOr P C steps t n v w → ChangesOr Q D steps t n v w
weaker p c (inl x) = inl x
weaker p c (inr (inl (room, (f, because, x)))) = inr (inl (room, (f, p f because, x)))
weaker {C = C} {D} p c (inr (inr x)) = inr (inr (record {
  room = x.room;
  tells = x.tells;
  count = x.count;
  book = record { meaning = c _ _ x.book.meaning; note = x.book.note; noted = x.book.noted };
  lawful = x.lawful;
  kept = x.kept;
  edition = x.edition;
  tally = x.tally;
}))

module _ (refusal : Meaning → ℕ → ℕ → List ℕ → Option BookFault) (grows : ℕ → ℕ → List ℕ → Meaning → Meaning → Type 0)
    (shrinks : ℕ → Meaning → Meaning → Type 0) where
  pub acts_does : (call : Call) (t : Told) (n : ℕ) (v w : View) → Acts refusal grows shrinks call t n v w → Does call t n v w
  acts_does (read x) t n v w a = a
  acts_does (add r k bytes) t n v w a = weaker (λ f x. tt) (λ x y b. b.added) a
  acts_does (delete r) t n v w a = weaker (λ f x. x) (λ x y b. b.deleted) a
  acts_does begin t n v w a = a
  acts_does (finish e s) t n v w a = a

  pub acts_history : (v : View) (es : List Entry) → Chain (Acts refusal grows shrinks) v es → History v es
  acts_history v [] h = tt
  acts_history v (e ∷ es) (w, at, a, h) = (w, at, acts_does e.call e.told e.count v w a, acts_history w es h)
