-- Every text has exactly one outcome by the grammar, and it is what the reading gives.
use Rattle.std.proofs.Common.{◌≡◌, ℕ, ◌+◌, ◌<◌, ◌≤◌, cond, List, [], ◌∷◌, length, Some, None, Ok, Err, Option, Result, EachIndex, slice_index, refl, sym, ap, ◌∙◌, subst, ⊎_elim, arith, lt-ltb, le-ltb}
use Rattle.std.proofs.lemmas.Bool.{cases_lt}
use Rattle.expressions.specs.Expression.{symbol, either, star}
use Rattle.patterns.specs.declared.faults.PatternFault.{PatternFault}
use Rattle.patterns.specs.declared.faults.PatternFault.TheVariants.{TooLong, FallingRange, EmptyClass, NoAtom, Unbalanced}
use Rattle.patterns.specs.Marks.{Part, width}
use Rattle.patterns.specs.Classes.{runs}
use Rattle.patterns.specs.Reading.{E, one, fresh, read}
use Rattle.patterns.specs.Grammar.{cut_up, asked, unclosed_behind, first_no, refusal}
use Rattle.patterns.specs.Meaning.{expression, Says, Silent, Meant, OneOutcome, Worked}
use Rattle.patterns.proofs.GrammarTrees.{start, tree, one_tree}
use Rattle.patterns.proofs.GrammarMarks.{IsByte, Each, each_byte, cuts_proper, neither}
use Rattle.patterns.proofs.GrammarParsed.{all_parsed}
use Rattle.patterns.proofs.GrammarPassed.{all_passed}
use Rattle.patterns.proofs.GrammarRead.{answer, reads}
use Rattle.patterns.proofs.GrammarMeaning.{denotes}
use Rattle.patterns.proofs.GrammarSpelled.{all_spelled}

-- where there is no no, all of the text is cut
all_cut : (before : Option Part) (unclosed : List ℕ) (p : ℕ) (ms : List Part) (u : Option PatternFault) → first_no before unclosed p ms u ≡ None → u ≡ None
all_cut before unclosed p [] u e = (neither u _ e).0
all_cut before unclosed p (m ∷ ms) u e =
    all_cut (Some m) (unclosed_behind p m unclosed) (p + width m) ms u (neither (asked before (length unclosed) p m) _ e).1

module _ (text : List ℕ) where
  -- the first no, however long the text is
  abbrev found : Option PatternFault
  found = first_no None [] 0 (cut_up text).marks (cut_up text).uncut

  says : Each IsByte text → found ≡ None → Says text (expression (tree start (cut_up text).marks)) (tree start (cut_up text).marks)
  says b e =
      let proper = cuts_proper 0 0 text b in
      let whole = all_cut None [] 0 (cut_up text).marks (cut_up text).uncut e in
      let parses = all_parsed (cut_up text).marks proper (ap (first_no None [] 0 (cut_up text).marks) (sym whole) ∙ e) in
      record {
        all_cut = whole;
        parses = parses;
        only = λ q k. one_tree (cut_up text).marks _ q parses k;
        expressed = refl;
        denotes = denotes parses;
        spelled = all_spelled (cut_up text).marks _ parses proper;
      }

  silent : (f : PatternFault) → found ≡ Some f → Silent text
  silent f e whole p h = let x = ap (first_no None [] 0 (cut_up text).marks) whole ∙ all_passed (cut_up text).marks p h in cc

  -- a text of bytes that is not too long
  short : Each IsByte text → length text ≤ 256 → Meant text (read (length text) fresh [] 0 text)
  short each l =
      subst (Meant text) (sym (reads (length text) 0 0 0 text None [] start (omega arith) (omega arith) (record { many = refl; first = refl }) each))
      (by found refl (ap (λ z. cond z (Some TooLong) found) (le-ltb 256 (length text) l)) (says each) silent)
    where
      by : (o : Option PatternFault) → found ≡ o → refusal text ≡ found
          → (found ≡ None → Says text (expression (tree start (cut_up text).marks)) (tree start (cut_up text).marks)) → ((f : PatternFault) → found ≡ Some f → Silent text)
          → Meant text (answer o (expression (tree start (cut_up text).marks)))
      by None e r on off = (r ∙ e, (tree start (cut_up text).marks, on e))
      by (Some f) e r on off = (r ∙ e, λ n. off f e)

  meant : EachIndex text (λ k. slice_index text k < 256) → length text ≤ 256 → Meant text (read (length text) fresh [] 0 text)
  meant b = short (each_byte text b)

  -- a text that is too long
  meant_long : 256 < length text → Meant text (Err TooLong)
  meant_long l = (ap (λ z. cond z (Some TooLong) found) (lt-ltb 256 (length text) l), λ n. absurd (n refl))

  -- an outcome that is told in both cases
  pub meant_by : (r : Result E PatternFault) → EachIndex text (λ k. slice_index text k < 256) → (256 < length text → r ≡ Err TooLong)
      → (length text ≤ 256 → r ≡ read (length text) fresh [] 0 text) → Meant text r
  meant_by r b f g =
      ⊎_elim (λ (l : 256 < length text). subst (Meant text) (sym (f l)) (meant_long l)) (λ (l : length text ≤ 256). subst (Meant text) (sym (g l)) (meant b l))
      (cases_lt 256 (length text))

  -- a text has at most one outcome
  pub meant_once : OneOutcome text
  meant_once (Ok e) (Ok d) (x, (p, h)) (y, (q, k)) = ap (λ (z : E). Ok z) (h.expressed ∙ ap expression (k.only p h.parses) ∙ sym k.expressed)
  meant_once (Ok e) (Err f) (x, h) (y, k) = cc
  meant_once (Err f) (Ok e) (x, h) (y, k) = cc
  meant_once (Err f) (Err g) (x, h) (y, k) = cc

-- ---- worked examples

short_is : (text : List ℕ) (r : Result E PatternFault) → Each IsByte text → length text ≤ 256 → read (length text) fresh [] 0 text ≡ r → Meant text r
short_is text r b l e = subst (Meant text) e (short text b l)

pub worked : Worked
unfolding read runs
worked = record {
  choice_read = short_is (97 ∷ 124 ∷ 98 ∷ 42 ∷ []) (Ok (either (symbol one 97 97) (star (symbol one 98 98)))) (omega arith) (omega arith) refl;
  choice_written = refl;
  empty_class = short_is (91 ∷ 93 ∷ []) (Err (EmptyClass 0)) (omega arith) (omega arith) refl;
  falling_range = short_is (91 ∷ 122 ∷ 45 ∷ 97 ∷ 93 ∷ []) (Err (FallingRange 1)) (omega arith) (omega arith) refl;
  sign_alone = short_is (97 ∷ 124 ∷ 42 ∷ []) (Err (NoAtom 2)) (omega arith) (omega arith) refl;
  bracket_alone = short_is (40 ∷ 97 ∷ []) (Err (Unbalanced 0)) (omega arith) (omega arith) refl;
}
