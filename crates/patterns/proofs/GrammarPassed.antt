-- Marks that are parsed by the rules get no no.
use Rattle.std.proofs.Common.{◌≡◌, ℕ, suc, ◌+◌, ◌<◌, Bool, true, false, not, List, [], ◌∷◌, ◌++◌, length, Some, None, Option, refl, sym, ap, ◌∙◌, append_assoc, append-nil, arith, lt-ltb}
use Rattle.std.proofs.lemmas.Bool.{ne_eqb}
use Rattle.patterns.specs.declared.faults.PatternFault.{PatternFault}
use Rattle.patterns.specs.declared.faults.PatternFault.TheVariants.{NoAtom}
use Rattle.patterns.specs.declared.marks.Repeat.{Repeat}
use Rattle.patterns.specs.Marks.{Part, plain, escape, class, sign, width, repeat_of}
use Rattle.patterns.specs.Reading.{body_end}
use Rattle.patterns.specs.Classes.{in_class}
use Rattle.patterns.specs.Grammar.{Pattern, Kind, choice, sequence, pieces, piece, atom, bar, opening, closing, Parses, one_sequence, more_sequences, no_pieces, some_pieces, one_piece, more_pieces, one_atom, repeated_piece, plain_byte, escaped_byte, any_byte, one_class, in_brackets, class_has, falling_in, some_below, falls_at, unless, or_else, asked, begins_behind, unclosed_behind, first_no}
use Rattle.patterns.proofs.GrammarClasses.{class_has_right, rises_at, there_some}
use Rattle.patterns.proofs.GrammarMarks.{repeat_signs, both_none}

-- The marks w pass: the first no is that of what comes behind them. An atom is before that, if `closed`.
pub record Passes (closed : Bool) (w : List Part) (unclosed : List ℕ) (before : Option Part) (p : ℕ) : Type 0 where
  pub last : Option Part
  pub place : ℕ
  pub atom_before : closed ≡ true → begins_behind last ≡ false
  pub on : (ms : List Part) (uncut : Option PatternFault) → first_no before unclosed p (w ++ ms) uncut ≡ first_no last unclosed place ms uncut

pass_both : {c : Bool} (b : Bool) {u v w : List Part} {unclosed : List ℕ} {before : Option Part} {p : ℕ} → w ≡ u ++ v → (f : Passes b u unclosed before p)
    → Passes c v unclosed f.last f.place → Passes c w unclosed before p
pass_both b {u} {v} {unclosed = unclosed} {before = before} {p = p} e f g = record {
  last = g.last;
  place = g.place;
  atom_before = g.atom_before;
  on = λ ms uncut. ap (λ z. first_no before unclosed p (z ++ ms) uncut) e ∙ ap (λ z. first_no before unclosed p z uncut) (append_assoc u v ms) ∙ f.on (v ++ ms) uncut ∙ g.on ms uncut;
}

-- one mark, which leaves as many brackets open
pass_mark : {c : Bool} {w : List Part} (m : Part) (unclosed : List ℕ) (before : Option Part) (p : ℕ) → w ≡ m ∷ [] → asked before (length unclosed) p m ≡ None
    → unclosed_behind p m unclosed ≡ unclosed → (c ≡ true → begins_behind (Some m) ≡ false) → Passes c w unclosed before p
pass_mark m unclosed before p e a o b = record {
  last = Some m;
  place = p + width m;
  atom_before = b;
  on = λ ms uncut.
      ap (λ z. first_no before unclosed p (z ++ ms) uncut) e
      ∙ ap (λ z. or_else z (first_no (Some m) (unclosed_behind p m unclosed) (p + width m) ms uncut)) a
      ∙ ap (λ z. first_no (Some m) z (p + width m) ms uncut) o;
}

pass_none : {w : List Part} (unclosed : List ℕ) (before : Option Part) (p : ℕ) → w ≡ [] → Passes false w unclosed before p
pass_none unclosed before p e = record {
  last = before;
  place = p;
  atom_before = λ f. cc;
  on = λ ms uncut. ap (λ z. first_no before unclosed p (z ++ ms) uncut) e;
}

loosely : {c : Bool} {w : List Part} {unclosed : List ℕ} {before : Option Part} {p : ℕ} → Passes c w unclosed before p → Passes false w unclosed before p
loosely f = record { last = f.last; place = f.place; atom_before = λ e. cc; on = f.on }

-- whether an atom stands last
ends : Kind → Bool
ends choice = false
ends sequence = false
ends pieces = true
ends piece = true
ends atom = true

yes : (b : Bool) (f : PatternFault) → b ≡ true → unless b f ≡ None
yes b f e = ap (λ z. unless z f) e

asked_class : (before : Option Part) (many p : ℕ) (body : List ℕ) (c : ℕ) → falling_in body ≡ None → c < 256 → class_has body c ≡ true
    → asked before many p (class body) ≡ None
asked_class before many p body c e l h =
    both_none (falls_at _) _ (ap falls_at (rises_at (body_end p body) body e))
    (both_none (unless (some_below (in_class (body_end p body) body) 256) _) None
    (yes _ _ (there_some (in_class (body_end p body) body) 256 c l (class_has_right (body_end p body) body c ∙ h))) refl)

pass_repeat : {w : List Part} (unclosed : List ℕ) (before : Option Part) (p c : ℕ) (r : Repeat) → w ≡ sign c ∷ [] → repeat_of c ≡ Some r → begins_behind before ≡ false
    → Passes true w unclosed before p
pass_repeat {w} unclosed before p c r e f b =
    repeat_signs (λ n x. w ≡ sign n ∷ [] → Passes true w unclosed before p) (λ q. one 42 refl refl refl q) (λ q. one 43 refl refl refl q) (λ q. one 63 refl refl refl q) c r f e
  where
    one : (n : ℕ) → asked before (length unclosed) p (sign n) ≡ or_else (unless (not (begins_behind before)) (NoAtom p)) None → unclosed_behind p (sign n) unclosed ≡ unclosed
        → begins_behind (Some (sign n)) ≡ false → w ≡ sign n ∷ [] → Passes true w unclosed before p
    one n a o d q = pass_mark (sign n) unclosed before p q (a ∙ both_none _ None (yes _ _ (ap not b)) refl) o (λ _. d)

pass_brackets : {w : List Part} (u : List Part) (unclosed : List ℕ) (before : Option Part) (p : ℕ) → w ≡ opening ∷ (u ++ closing ∷ []) → length unclosed < 16
    → Passes false u (p ∷ unclosed) (Some opening) (p + 1) → Passes true w unclosed before p
pass_brackets u unclosed before p e l f = record {
  last = Some closing;
  place = f.place + 1;
  atom_before = λ _. refl;
  on = λ ms uncut.
      ap (λ z. first_no before unclosed p (z ++ ms) uncut) e
      ∙ ap (λ z. or_else z (first_no (Some opening) (p ∷ unclosed) (p + 1) ((u ++ closing ∷ []) ++ ms) uncut)) (both_none _ None (yes _ _ (lt-ltb (length unclosed) 16 l)) refl)
      ∙ ap (λ z. first_no (Some opening) (p ∷ unclosed) (p + 1) z uncut) (append_assoc u (closing ∷ []) ms)
      ∙ f.on (closing ∷ ms) uncut
      ∙ ap (λ z. or_else z (first_no (Some closing) unclosed (f.place + 1) ms uncut))
      (both_none _ _ (yes _ _ (ap not (ne_eqb (suc (length unclosed)) 0 (λ z. omega arith)))) refl);
}

passes : {k : Kind} {d : ℕ} {w : List Part} {q : Pattern} → Parses k d w q → (unclosed : List ℕ) (before : Option Part) (p : ℕ) → length unclosed ≡ d
    → Passes (ends k) w unclosed before p
unfolding ends
passes (one_sequence h) o b p e = passes h o b p e
passes (more_sequences u v f h k) o b p e =
    let x = passes h o b p e in
    let y : Passes false (bar ∷ []) o x.last x.place = pass_mark bar o x.last x.place refl refl refl (λ z. cc) in
    pass_both false f x (pass_both false refl y (passes k o y.last y.place e))
passes (no_pieces f) o b p e = pass_none o b p f
passes (some_pieces h) o b p e = loosely (passes h o b p e)
passes (one_piece h) o b p e = passes h o b p e
passes (more_pieces u v f h k) o b p e = let x = passes h o b p e in pass_both true f x (passes k o x.last x.place e)
passes (one_atom h) o b p e = passes h o b p e
passes (repeated_piece u c r f g h) o b p e =
    let x = passes h o b p e in
    pass_both true f x (pass_repeat o x.last x.place c r refl g (x.atom_before refl))
passes (plain_byte c f g) o b p e = pass_mark (plain c) o b p f (yes _ _ (ap not g)) refl (λ _. refl)
passes (escaped_byte c f) o b p e = pass_mark (escape c) o b p f refl refl (λ _. refl)
passes (any_byte f) o b p e = pass_mark (sign 46) o b p f refl refl (λ _. refl)
passes (one_class body c f g l h) o b p e = pass_mark (class body) o b p f (asked_class b (length o) p body c g l h) refl (λ _. refl)
passes (in_brackets u f l h) o b p e = pass_brackets u o b p f (omega arith) (passes h (p ∷ o) (Some opening) (p + 1) (ap suc e))

pub all_passed : (ms : List Part) (q : Pattern) → Parses choice 0 ms q → first_no None [] 0 ms None ≡ None
all_passed ms q h =
    let x = passes h [] None 0 refl in
    ap (λ z. first_no None [] 0 z None) (sym (append-nil ms)) ∙ x.on [] None
