-- Readings one after the other. Assumes nothing.
use Rattle.std.proofs.Common.{◌≡◌, ℕ, ◌+◌, ◌^◌, ◌<◌, min, Bool, true, false, cond, List, [], ◌∷◌, ◌++◌, length, unwrap_or, sym, refl, ap, ◌∙◌, ap₂, arith, length-append}
use Rattle.states.specs.Sets.{State}
use Rattle.states.specs.Sets.{is_empty}
use Rattle.books.specs.Meaning.{Meaning, Model, asked}
use Rattle.kept.specs.Steps.{Step, found, keep}
use Rattle.readings.specs.Views.{View}
use Rattle.readings.specs.Runs.{Pair, goes, meant, is_kept, keep_all, worked, asked_all, Works}
use Rattle.readings.proofs.Tables.{keep_kept, keep_all_next, keep_all_append}

pub worked_append : (m : Meaning) (ks : List Step) (ps qs : List Pair) → worked m ks (ps ++ qs) ≡ worked m ks ps ++ worked m (keep_all m ks ps) qs
worked_append m ks [] qs = refl
worked_append m ks (p ∷ ps) qs = first (is_kept ks p) refl (λ t. worked_append m t ps qs)
  where
    first : (b : Bool) → is_kept ks p ≡ b
        → ((t : List Step) → worked m t (ps ++ qs) ≡ worked m t ps ++ worked m (keep_all m t ps) qs)
        → cond b (worked m ks (ps ++ qs)) (p ∷ worked m (keep ks (meant m p)) (ps ++ qs))
        ≡ cond b (worked m ks ps) (p ∷ worked m (keep ks (meant m p)) ps) ++ worked m (keep_all m (keep ks (meant m p)) ps) qs
    first true e more =
        more ks ∙ ap (λ (t : List Step). worked m ks ps ++ worked m (keep_all m t ps) qs) (sym (keep_kept m ks p e))
    first false e more = ap (λ (t : List Pair). p ∷ t) (more (keep ks (meant m p)))

asked_all_append : (ps qs : List Pair) (b : Model) → asked_all (ps ++ qs) b ≡ asked_all qs (asked_all ps b)
asked_all_append [] qs b = refl
asked_all_append (p ∷ ps) qs b = asked_all_append ps qs (asked p.0 p.1 b)

-- being asked does not change what the book means
pub asked_all_meaning : (ps : List Pair) (b : Model) → (asked_all ps b).meaning ≡ b.meaning
asked_all_meaning [] b = refl
asked_all_meaning (p ∷ ps) b = asked_all_meaning ps (asked p.0 p.1 b)

pub works_meaning : {ps : List Pair} {n : ℕ} {v w : View} → Works ps n v w → w.book.meaning ≡ v.book.meaning
works_meaning {ps} {n} {v} {w} x =
    ap (λ (b : Model). b.meaning) x.book ∙ asked_all_meaning (worked v.book.meaning v.kept ps) v.book

-- a reading that meets nothing
pub works_none : (v : View) → v.tally < 2 ^ 32 → Works [] 0 v v
works_none v l = record { count = refl; book = refl; kept = refl; edition = refl; tally = omega arith }

-- a reading goes on where another ended
pub works_then : {ps qs : List Pair} {n k : ℕ} {u v w : View} → Works ps n u v → Works qs k v w → Works (ps ++ qs) (n + k) u w
works_then {ps} {qs} {n} {k} {u} {v} {w} x y =
    let m = u.book.meaning in
    let same : worked v.book.meaning v.kept qs ≡ worked m (keep_all m u.kept ps) qs =
    ap₂ (λ (a : Meaning) (t : List Step). worked a t qs) (works_meaning x) x.kept in
    let parts = worked_append m u.kept ps qs in
    record {
      count = ap₂ (λ (a b : ℕ). a + b) x.count (y.count ∙ ap length same)
          ∙ sym (ap length parts ∙ length-append (worked m u.kept ps) _);
      book = y.book ∙ ap₂ asked_all same x.book
          ∙ sym (ap (λ (t : List Pair). asked_all t u.book) parts ∙ asked_all_append (worked m u.kept ps) _ u.book);
      kept = y.kept ∙ ap₂ (λ (a : Meaning) (t : List Step). keep_all a t qs) (works_meaning x) x.kept
          ∙ sym (keep_all_append m u.kept ps qs);
      edition = y.edition ∙ x.edition;
      tally = y.tally ∙ ap (λ (t : ℕ). min (t + k) 4294967295) x.tally ∙ twice u.tally;
    }
  where
    twice : (t : ℕ) → min (min (t + n) 4294967295 + k) 4294967295 ≡ min (t + (n + k)) 4294967295
    twice t = omega arith

-- a reading does not change where the reader goes
pub works_goes : {ps : List Pair} {n : ℕ} {v w : View} → Works ps n v w → goes w ≡ goes v
works_goes {ps} {n} {v} {w} x = λ i s c. at s c i
  where
    at : (s : State) (c : ℕ) → goes w s c ≡ goes v s c
    at s c =
        ap₂ (λ (a : Meaning) (t : List Step). cond (is_empty s) s (unwrap_or (found t s c) (a.next s c))) (works_meaning x) x.kept
        ∙ ap (cond (is_empty s) s) (keep_all_next v.book.meaning v.kept ps s c)
