-- What one call of a sound reader does to the pairs kept and to the book's meaning, told from the call.
use Rattle.std.proofs.Common.{◌≡◌, ℕ, true, false, List, length, Some, None, Option, sym, refl, ap, ◌∙◌, subst, inl, inr}
use Rattle.std.specs.List.{AllByRecursion}
use Rattle.std.proofs.lemmas.Bool.{cond-true, cond-false}
use Rattle.states.specs.Sets.{State}
use Rattle.books.specs.Meaning.{Meaning, Lawful, Within}
use Rattle.books.specs.declared.faults.BookFault.{BookFault}
use Rattle.kept.specs.Steps.{Step}
use Rattle.readings.specs.Views.{View, Right, Sound}
use Rattle.readings.specs.Runs.{met, worked}
use Rattle.readings.specs.Readings.{Reading, Told, Searches, Tells, Bare, Reads, from, codes}
use Rattle.readings.specs.Readings.Reading.{whole, token, peek, feed}
use Rattle.readings.specs.Readings.Searches.{finds, fails}
use Rattle.readings.specs.Calls.{Call, Leaves, ChangesOr, ReadsAs, Does}
use Rattle.readings.specs.Calls.Call.{read, add, delete, begin, finish}
use Rattle.readings.specs.Entries.{is_stale, read_of, is_changed, deleted_by, met_by, keep_pairs, drop_by}
use Rattle.readings.proofs.Runs.{works_meaning}
use Rattle.readings.proofs.Bare.{reads_bare}
use Rattle.readings.proofs.Pairs.{pairs, pairs_keep_all, pairs_without}
use Rattle.readings.proofs.Changed.{right_added, right_deleted}
use Rattle.readings.proofs.Follows.{Turn}
use Rattle.readings.proofs.Follows.Turn.{still, grown, shrunk}

-- a reader whose kept steps are those of its book, which keeps the laws
pub record Good (v : View) : Type 0 where
  pub lawful : Lawful v.book.meaning
  pub sound : Sound v

-- the reading, if there is one, tells what its bare reading tells, and starts from live positions
abbrev pub Plain : Meaning → Told → Option Reading → Type 0
Plain m t None = Unit {0}
Plain m t (Some x) = Bare m x t × Within m (from m x)

-- A call of the reader v, whose book means m, told t and worked out n steps, and left the reader w. It was the reading o, if any,
-- and an accepted deletion of the rule d, if any.
pub record Traces (v : View) (m : Meaning) (o : Option Reading) (d : Option ℕ) (t : Told) (n : ℕ) (w : View) : Type 0 where
  pub good : Good w
  pub plain : Plain m t o
  pub count : n ≡ length (worked m v.kept (met_by m o))
  pub table : pairs w.kept ≡ drop_by m d (keep_pairs (pairs v.kept) (met_by m o))
  pub turn : Turn m w.book.meaning d

-- ---- calls that leave the reader as it is

leaves_traces : {t t' : Told} {n : ℕ} {v w : View} → Good v → Leaves t t' n v w → Traces v v.book.meaning None None t n w
leaves_traces g l = record {
  good = subst Good (sym l.same) g;
  plain = tt;
  count = l.count;
  table = ap (λ (u : View). pairs u.kept) l.same;
  turn = still (ap (λ (u : View). u.book.meaning) l.same) refl;
}

-- ---- readings

search_fresh : (m : Meaning) (next : State → ℕ → State) (rest : List ℕ) (place : ℕ) (t : Told) → Searches m next rest place t → is_stale t ≡ false
search_fresh m next rest place t (finds n l) = refl
search_fresh m next rest place t (fails none) = refl

-- no reading tells that its walk is not the reader's
tells_fresh : (m : Meaning) (next : State → ℕ → State) (x : Reading) (t : Told) → Tells m next x t → is_stale t ≡ false
tells_fresh m next (whole text) t e = ap is_stale e
tells_fresh m next (token text place) t e = search_fresh m next _ place t e
tells_fresh m next (peek text place) t e = search_fresh m next _ place t e
tells_fresh m next (feed edition s c) t e = ap is_stale e

reads_traces : {x : Reading} {t : Told} {n : ℕ} {v w : View} → Good v → Within v.book.meaning (from v.book.meaning x) → Reads x t n v w
    → Traces v v.book.meaning (read_of (read x) t) None t n w
reads_traces {x} {t} {n} {v} {w} g b r =
    let m = v.book.meaning in
    let y = reads_bare g.lawful g.sound b r in
    let same = works_meaning r.works in
    subst (λ (o : Option Reading). Traces v m o None t n w) (sym (cond-false (is_stale t) None (Some x) (tells_fresh m m.next x t y.0.tells)))
    (record {
      good = record { lawful = subst Lawful (sym same) g.lawful; sound = y.1 };
      plain = (y.0.tells, b);
      count = y.0.works.count;
      table = ap pairs y.0.works.kept ∙ pairs_keep_all m v.kept (met m.next (from m x) (codes x));
      turn = still same refl;
    })

read_traces : {t : Told} {n : ℕ} {v w : View} (x : Reading) → Good v → ReadsAs x t n v w → Traces v v.book.meaning (read_of (read x) t) None t n w
read_traces (whole text) g r = reads_traces g g.lawful.starts r
read_traces (token text place) g r = reads_traces g g.lawful.starts r
read_traces (peek text place) g r = reads_traces g g.lawful.starts r
read_traces (feed e s c) g (inl r) = reads_traces g r.0.1 r.1
read_traces {t} {n} {v} {w} (feed e s c) g (inr r) =
    subst (λ (o : Option Reading). Traces v v.book.meaning o None t n w) (sym (cond-true (is_stale t) None (Some (feed e s c)) (ap is_stale r.1.tells)))
    (leaves_traces g r.1)

-- ---- changes

-- D is the rule of the deletion by what is told; d is that of the change if it is accepted
changes_traces : {because : BookFault → Type 0} {change : Meaning → Meaning → Type 0} {steps : List Step} {t : Told} {n : ℕ} {v w : View} (D d : Option ℕ)
    → Good v → (is_changed t ≡ false → D ≡ None) → (is_changed t ≡ true → D ≡ d)
    → (Lawful w.book.meaning → change v.book.meaning w.book.meaning → AllByRecursion (Right w.book.meaning) steps)
    → pairs steps ≡ drop_by v.book.meaning d (pairs v.kept)
    → (change v.book.meaning w.book.meaning → Turn v.book.meaning w.book.meaning d)
    → ChangesOr because change steps t n v w → Traces v v.book.meaning None D t n w
changes_traces {t = t} {n} {v} {w} D d g none some right table turn (inl (last, l)) =
    subst (λ (q : Option ℕ). Traces v v.book.meaning None q t n w) (sym (none (ap is_changed l.tells))) (leaves_traces g l)
changes_traces {t = t} {n} {v} {w} D d g none some right table turn (inr (inl (room, (f, because, l)))) =
    subst (λ (q : Option ℕ). Traces v v.book.meaning None q t n w) (sym (none (ap is_changed l.tells))) (leaves_traces g l)
changes_traces {t = t} {n} {v} {w} D d g none some right table turn (inr (inr c)) =
    subst (λ (q : Option ℕ). Traces v v.book.meaning None q t n w) (sym (some (ap is_changed c.tells)))
    (record {
      good = record { lawful = c.lawful; sound = subst (AllByRecursion (Right w.book.meaning)) (sym c.kept) (right c.lawful c.book.meaning) };
      plain = tt;
      count = c.count;
      table = ap pairs c.kept ∙ table;
      turn = turn c.book.meaning;
    })

-- ---- every call

pub traces : {t : Told} {n : ℕ} {v w : View} (call : Call) → Good v → Does call t n v w → Traces v v.book.meaning (read_of call t) (deleted_by call t) t n w
traces (read x) g d = read_traces x g d
traces {t} {v = v} (add r k bytes) g d =
    changes_traces None None g (λ e. refl) (λ e. refl) (λ l a. right_added v.kept g.lawful a g.sound) refl (λ a. grown r k a refl) d
traces {t} {v = v} (delete r) g d =
    changes_traces (deleted_by (delete r) t) (Some r) g (cond-false (is_changed t) (Some r) None) (cond-true (is_changed t) (Some r) None)
    (λ l a. right_deleted v.kept l a g.sound) (pairs_without v.book.meaning r v.kept) (λ a. shrunk r a refl) d
traces begin g d = leaves_traces g d
traces (finish e s) g (inl d) = leaves_traces g d.1
traces (finish e s) g (inr d) = leaves_traces g d.1
