-- One call of a reader over an expression book: what it answers, and where it leaves the reader. Assumes nothing.
use Rattle.std.proofs.Common.{◌≡◌, ℕ, ◌+◌, ◌<◌, ◌≤◌, not, List, [], ◌++◌, length, Some, None, Ok, filter, sym, refl, ap, ◌∙◌, subst, inl, inr, arith}
use Rattle.std.proofs.lemmas.Bool.{both_ways}
use Rattle.books.specs.Meaning.{Meaning, Model, InForce, Lawful, Within, touches}
use Rattle.books.specs.Changes.{Added, Deleted}
use Rattle.kept.specs.Steps.{most}
use Rattle.readings.specs.Views.{View, fresh}
use Rattle.readings.specs.Runs.{Pair, met}
use Rattle.readings.specs.Readings.{Reading, Told, Tells, Reads, from, codes}
use Rattle.readings.specs.Readings.Told.{changed}
use Rattle.readings.specs.Calls.{final}
use Rattle.readings.specs.Calls.Call.{add, delete}
use Rattle.readings.specs.Entries.{distinct_from}
use Rattle.readings.proofs.Runs.{works_meaning}
use Rattle.readings.proofs.Bare.{reads_bare}
use Rattle.readings.proofs.Pairs.{pairs, pairs_without, worked_distinct}
use Rattle.readings.proofs.Traces.{Good, traces}
use Rattle.expressions.specs.Expression.{Plain, symbols}
use Rattle.expressions.specs.Commands.{read_all}
use Rattle.expressions.specs.Rules.{Additive, needed, refusal, live}
use Rattle.alike.specs.Runs.{ExpressionActs}
use Rattle.alike.proofs.Changing.{run_does}
use Rattle.worked.proofs.Rules.{Expressions, Has, with_rule, rule_added, rule_deleted}

-- ---- where a reader is

-- The reader v is over a book that means m, has this edition, and keeps the steps from the pairs K.
pub record At (v : View) (m : Meaning) (edition : ℕ) (K : List Pair) : Type 0 where
  pub good : Good v
  pub book : v.book.meaning ≡ m
  pub now : v.edition ≡ edition
  pub kept : pairs v.kept ≡ K

pub at_first : (b : Model) (edition : ℕ) → Lawful b.meaning → At (fresh b edition) b.meaning edition []
at_first b edition law = record { good = record { lawful = law; sound = tt }; book = refl; now = refl; kept = refl }

-- what holds of the reader's own book, edition and pairs holds of these
at_these : {v : View} {m : Meaning} {edition : ℕ} {K : List Pair} (P : Meaning → ℕ → List Pair → Type 0) → At v m edition K
    → P v.book.meaning v.edition (pairs v.kept) → P m edition K
at_these {v} {m} {edition} {K} P at p =
    subst (P m edition) at.kept (subst (λ (e : ℕ). P m e (pairs v.kept)) at.now (subst (λ (n : Meaning). P n v.edition (pairs v.kept)) at.book p))

-- ---- readings

-- the pairs that the reading meets and that are not among K
abbrev pub new_pairs : Meaning → List Pair → Reading → List Pair
new_pairs m K x = distinct_from K (met m.next (from m x) (codes x))

-- What a reading tells, how many steps it works out, and where it leaves the reader.
pub record Read (m : Meaning) (edition : ℕ) (K : List Pair) (x : Reading) (t : Told) (n : ℕ) (w : View) : Type 0 where
  pub tells : Tells m m.next x t
  pub count : n ≡ length (new_pairs m K x)
  pub leaves : At w m edition (K ++ new_pairs m K x)

read_here : {x : Reading} {t : Told} {n : ℕ} {v w : View} → Good v → Reads x t n v w → Within v.book.meaning (from v.book.meaning x)
    → length (pairs v.kept) + length (new_pairs v.book.meaning (pairs v.kept) x) ≤ most → Read v.book.meaning v.edition (pairs v.kept) x t n w
read_here {x} {t} {n} {v} {w} g r within room =
    let y = reads_bare g.lawful g.sound within r in
    let d = worked_distinct v.book.meaning v.kept (met v.book.meaning.next (from v.book.meaning x) (codes x)) room in
    record {
      tells = y.0.tells;
      count = y.0.works.count ∙ ap length d.0;
      leaves = record {
        good = record { lawful = subst Lawful (sym (works_meaning r.works)) g.lawful; sound = y.1 };
        book = works_meaning r.works;
        now = r.works.edition;
        kept = ap pairs y.0.works.kept ∙ d.1;
      };
    }

-- a reading that tells t' and nothing else, and meets the new pairs D
pub reading_line : {x : Reading} {t : Told} {n : ℕ} {v w : View} {m : Meaning} {edition : ℕ} {K : List Pair} (t' : Told) (D : List Pair) → At v m edition K
    → Within m (from m x) → ((t : Told) → Tells m m.next x t → t ≡ t') → new_pairs m K x ≡ D → length K + length D ≤ most → Reads x t n v w
    → (t ≡ t') × (n ≡ length D) × At w m edition (K ++ D)
reading_line {x} {t} {n} {v} {w} {m} {edition} {K} t' D at within one new room r =
    let y = at_these (λ m e K. Within m (from m x) → length K + length (new_pairs m K x) ≤ most → Read m e K x t n w) at (read_here at.good r)
    within (subst (λ (ps : List Pair). length K + length ps ≤ most) (sym new) room) in
    (one t y.tells, y.count ∙ ap length new, subst (λ (ps : List Pair). At w m edition (K ++ ps)) new y.leaves)

-- ---- changes

-- The rule was added, and the reader is over the book that this made.
pub record AddedAt (m : Meaning) (edition : ℕ) (K : List Pair) (r kind : ℕ) (rules : Expressions) (k : ℕ) (t : Told) (c : ℕ) (w : View) : Type 0 where
  pub tells : t ≡ changed (edition + 1)
  pub count : c ≡ 0
  pub book : Meaning
  pub added : Added r kind m book
  pub additive : Additive book
  pub has : Has book rules k
  pub leaves : At w book (edition + 1) K

pub adding_line : {t : Told} {c : ℕ} {v w : View} {m : Meaning} {edition : ℕ} {K : List Pair} {rules : Expressions} {k : ℕ} (r kind : ℕ) (bytes : List ℕ) (e : Plain)
    → At v m edition K → Has m rules k → refusal 255 m r kind bytes ≡ None → read_all 255 bytes ≡ Ok e → edition < final
    → ExpressionActs 255 (add r kind bytes) t c v w → AddedAt m edition K r kind (with_rule r (Some e) rules) (k + needed (symbols e)) t c w
adding_line {t} {c} {v} {w} {rules = rules} {k} r kind bytes e at has passed reads low act =
    at_these (λ m i K. Has m rules k → refusal 255 m r kind bytes ≡ None → i < final
    → AddedAt m i K r kind (with_rule r (Some e) rules) (k + needed (symbols e)) t c w) at here has passed low
  where
    here : Has v.book.meaning rules k → refusal 255 v.book.meaning r kind bytes ≡ None → v.edition < final
        → AddedAt v.book.meaning v.edition (pairs v.kept) r kind (with_rule r (Some e) rules) (k + needed (symbols e)) t c w
    here has passed low = let good : Good w = (traces (add r kind bytes) at.good (run_does 255 (add r kind bytes) t c v w act)).good in elim act [
      | inl x ↦ (let last = x.0 in absurd (omega arith))
      | inr (inl (room, (f, because, x))) ↦ (let no = sym passed ∙ because in absurd (cc))
      | inr (inr x) ↦ record {
        tells = x.tells;
        count = x.count;
        book = w.book.meaning;
        added = x.book.meaning.added;
        additive = x.book.meaning.grown.additive;
        has = rule_added has x.lawful r e x.book.meaning.added x.book.meaning.grown reads;
        leaves = record {
          good = good;
          book = refl;
          now = x.edition;
          kept = ap pairs x.kept;
        };
      }
    ]

-- The rule was deleted, and the reader is over the book that this made.
pub record DeletedAt (m : Meaning) (edition : ℕ) (K : List Pair) (r : ℕ) (rules : Expressions) (t : Told) (c : ℕ) (w : View) : Type 0 where
  pub tells : t ≡ changed (edition + 1)
  pub count : c ≡ 0
  pub book : Meaning
  pub deleted : Deleted r m book
  pub additive : Additive book
  pub has : Has book rules (live book)
  pub leaves : At w book (edition + 1) (filter (λ (p : Pair). not (touches m r p.0)) K)

pub deleting_line : {t : Told} {c : ℕ} {v w : View} {m : Meaning} {edition : ℕ} {K : List Pair} {rules : Expressions} {k : ℕ} (r : ℕ)
    → At v m edition K → Has m rules k → InForce m r → edition < final
    → ExpressionActs 255 (delete r) t c v w → DeletedAt m edition K r (with_rule r None rules) t c w
deleting_line {t} {c} {v} {w} {rules = rules} {k} r at has force low act =
    at_these (λ m i K. Has m rules k → InForce m r → i < final → DeletedAt m i K r (with_rule r None rules) t c w) at here has force low
  where
    here : Has v.book.meaning rules k → InForce v.book.meaning r → v.edition < final
        → DeletedAt v.book.meaning v.edition (pairs v.kept) r (with_rule r None rules) t c w
    here has force low = let good : Good w = (traces (delete r) at.good (run_does 255 (delete r) t c v w act)).good in elim act [
      | inl x ↦ (let last = x.0 in absurd (omega arith))
      | inr (inl (room, (f, because, x))) ↦ absurd (both_ways _ because.1 force)
      | inr (inr x) ↦ record {
        tells = x.tells;
        count = x.count;
        book = w.book.meaning;
        deleted = x.book.meaning.deleted;
        additive = x.book.meaning.shrunk.additive;
        has = rule_deleted has x.lawful r x.book.meaning.deleted x.book.meaning.shrunk refl;
        leaves = record {
          good = good;
          book = refl;
          now = x.edition;
          kept = ap pairs x.kept ∙ pairs_without v.book.meaning r v.kept;
        };
      }
    ]
