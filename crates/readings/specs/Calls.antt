-- What each call does to a reader v: what it tells, how many steps it works out, and the reader w after it.
use Rattle.std.specs.Prelude.{◌≡◌, ℕ, ◌+◌, ◌<◌, false, not, ◌⊎◌, List, is_some, filter}
use Rattle.states.specs.Sets.{State}
use Rattle.books.specs.Meaning.{Meaning, Within, Lawful, touches}
use Rattle.books.specs.Changes.{Added, Deleted, Changed}
use Rattle.books.specs.declared.faults.BookFault.{BookFault}
use Rattle.books.specs.declared.faults.BookFault.TheVariants.{Absent}
use Rattle.books.specs.declared.refusal.Refusal.{Refusal}
use Rattle.books.specs.declared.refusal.Refusal.TheVariants.{LastEdition, Book, StaleWalk}
use Rattle.kept.specs.Steps.{Step}
use Rattle.readings.specs.Views.{View}
use Rattle.readings.specs.Readings.{Reading, Told, Reads, refusing}
use Rattle.readings.specs.Readings.Reading.{whole, token, peek, feed}
use Rattle.readings.specs.Readings.Told.{changed, ended, walking}

pub data Call : Type 0 where
  read : Reading → Call
  -- a rule's number, kind and bytes
  add : ℕ → ℕ → List ℕ → Call
  -- a rule's number
  delete : ℕ → Call
  -- a walk begins
  begin : Call
  -- a walk of this edition and state is finished
  finish : ℕ → State → Call

-- the last edition
abbrev pub final : ℕ
final = 4294967295

-- The call tells t', works nothing out and alters nothing.
pub record Leaves (t t' : Told) (n : ℕ) (v w : View) : Type 0 where
  pub tells : t ≡ t'
  pub count : n ≡ 0
  pub same : w ≡ v

-- a refusal, with nothing worked out and nothing altered
abbrev pub Refuses : Refusal → Told → ℕ → View → View → Type 0
Refuses e t n v w = Leaves t (refusing e) n v w

-- An accepted change of the book's meaning, which leaves these steps kept.
pub record Changes (change : Meaning → Meaning → Type 0) (steps : List Step) (t : Told) (n : ℕ) (v w : View) : Type 0 where
  pub room : v.edition < final
  pub tells : t ≡ changed (v.edition + 1)
  pub count : n ≡ 0
  pub book : Changed change v.book w.book
  pub lawful : Lawful w.book.meaning
  pub kept : w.kept ≡ steps
  pub edition : w.edition ≡ v.edition + 1
  pub tally : w.tally ≡ v.tally

-- the steps whose state holds no position of rule r
abbrev pub without : Meaning → ℕ → List Step → List Step
without m r ks = filter (λ (x : Step). not (touches m r x.state)) ks

-- A change is refused at the last edition; else by the book for a fault f that passes `because`; else it is accepted.
abbrev pub ChangesOr : (BookFault → Type 0) → (Meaning → Meaning → Type 0) → List Step → Told → ℕ → View → View → Type 0
ChangesOr because change steps t n v w =
    ((v.edition ≡ final) × Refuses LastEdition t n v w)
    ⊎ (((v.edition < final) × ((f : BookFault) × because f × Refuses (Book f) t n v w)) ⊎ Changes change steps t n v w)

-- An adding leaves every step kept.
abbrev pub AddsBy : (BookFault → Type 0) → (Meaning → Meaning → Type 0) → Told → ℕ → View → View → Type 0
AddsBy because change t n v w = ChangesOr because change v.kept t n v w

-- A deletion of rule r is refused by the book where the rule is not in force, and drops the steps from states that hold a position of it.
abbrev pub DeletesBy : ℕ → (Meaning → Meaning → Type 0) → Told → ℕ → View → View → Type 0
DeletesBy r change t n v w =
    ChangesOr (λ f. (f ≡ Absent) × (is_some (v.book.meaning.kind r) ≡ false)) change (without v.book.meaning r v.kept) t n v w

-- over every book, which may refuse an adding for any of its questions
abbrev pub Adds : ℕ → ℕ → Told → ℕ → View → View → Type 0
Adds r k t n v w = AddsBy (λ f. Unit {0}) (Added r k) t n v w

abbrev pub Deletes : ℕ → Told → ℕ → View → View → Type 0
Deletes r t n v w = DeletesBy r (Deleted r) t n v w

-- a walk of this edition and state is this reader's: it carries its edition, and its positions are live
abbrev pub Ours : View → ℕ → State → Type 0
Ours v e s = (e ≡ v.edition) × Within v.book.meaning s

-- what is done with a walk that is this reader's; another is refused
abbrev pub IfOurs : ℕ → State → (Told → ℕ → View → View → Type 0) → Told → ℕ → View → View → Type 0
IfOurs e s does t n v w = (Ours v e s × does t n v w) ⊎ ((Ours v e s → ⊥) × Refuses StaleWalk t n v w)

abbrev pub ReadsAs : Reading → Told → ℕ → View → View → Type 0
ReadsAs (whole text) t n v w = Reads (whole text) t n v w
ReadsAs (token text place) t n v w = Reads (token text place) t n v w
ReadsAs (peek text place) t n v w = Reads (peek text place) t n v w
ReadsAs (feed e s c) t n v w = IfOurs e s (Reads (feed e s c)) t n v w

abbrev pub Does : Call → Told → ℕ → View → View → Type 0
Does (read x) t n v w = ReadsAs x t n v w
Does (add r k bytes) t n v w = Adds r k t n v w
Does (delete r) t n v w = Deletes r t n v w
Does begin t n v w = Leaves t (walking v.edition v.book.meaning.start) n v w
Does (finish e s) t n v w = IfOurs e s (λ t' n' v' w'. Leaves t' (ended (v'.book.meaning.ended s)) n' v' w') t n v w
