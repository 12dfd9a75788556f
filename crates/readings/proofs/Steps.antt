-- One step of a reader, by a kept step or by the book. Assumes nothing.
use Rattle.std.proofs.Common.{◌≡◌, ℕ, ◌+◌, ◌^◌, ◌<◌, min, true, false, List, [], ◌∷◌, length, is_some, Some, None, Option, unwrap_or, sym, refl, ap, ◌∙◌, arith}
use Rattle.std.proofs.lemmas.Bool.{cond-true, cond-false}
use Rattle.states.specs.Sets.{State}
use Rattle.states.specs.Sets.{is_empty}
use Rattle.books.specs.Meaning.{asked}
use Rattle.kept.specs.Steps.{found, keep}
use Rattle.readings.specs.Views.{View}
use Rattle.readings.specs.Runs.{Pair, goes, meant, is_kept, worked, asked_all, Works}
use Rattle.readings.proofs.Tables.{keep_kept}

module _ (v : View) (s : State) (c : ℕ) (some : is_empty s ≡ false) where
  -- a kept step leads where the reader goes
  pub kept_goes : (t : State) → found v.kept s c ≡ Some t → t ≡ goes v s c
  kept_goes t e =
      sym (ap (λ (o : Option State). unwrap_or o (v.book.meaning.next s c)) e) ∙ sym (cond-false (is_empty s) s _ some)

-- a kept step works nothing out
pub kept_works : (v : View) (s : State) (c : ℕ) (t : State) → v.tally < 2 ^ 32 → found v.kept s c ≡ Some t → Works ((s, c) ∷ []) 0 v v
kept_works v s c t l e =
    let is : is_kept v.kept (s, c) ≡ true = ap (λ (o : Option State). is_some o) e in
    let none : worked v.book.meaning v.kept ((s, c) ∷ []) ≡ [] = cond-true (is_kept v.kept (s, c)) [] _ is in
    record {
      count = sym (ap (λ (ps : List Pair). length ps) none);
      book = sym (ap (λ (ps : List Pair). asked_all ps v.book) none);
      kept = sym (keep_kept v.book.meaning v.kept (s, c) is);
      edition = refl;
      tally = omega arith;
    }

-- where none is kept, the book is asked once
pub asked_works : (v w : View) (s : State) (c : ℕ) → found v.kept s c ≡ None → w.book ≡ asked s c v.book
    → w.kept ≡ keep v.kept (meant v.book.meaning (s, c)) → w.edition ≡ v.edition → w.tally ≡ min (v.tally + 1) 4294967295
    → Works ((s, c) ∷ []) 1 v w
asked_works v w s c e b k d t =
    let not_kept : is_kept v.kept (s, c) ≡ false = ap (λ (o : Option State). is_some o) e in
    let one : worked v.book.meaning v.kept ((s, c) ∷ []) ≡ (s, c) ∷ [] = cond-false (is_kept v.kept (s, c)) [] ((s, c) ∷ []) not_kept in
    record {
      count = sym (ap (λ (ps : List Pair). length ps) one);
      book = b ∙ sym (ap (λ (ps : List Pair). asked_all ps v.book) one);
      kept = k;
      edition = d;
      tally = t;
    }
