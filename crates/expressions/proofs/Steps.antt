-- One command: what is behind its letter, and the answers to its questions. Assumes nothing.
use Rattle.std.proofs.Common.{◌≡◌, ℕ, ◌<◌, ◌≤◌, Bool, true, false, not, ◌||◌, eqb, ltb, List, length, drop, Some, None, Ok, Option, Result, sym, refl, ap, ◌∙◌, subst, inl, inr, arith}
use Rattle.std.proofs.lemmas.Bool.{cases_eq, both_ways, not-true, not_from_false, le-leb, leb-true, lt-ltb, ltb-true, eq-eqb, ne_eqb, or_left, or_right, or_cases}
use Rattle.books.specs.declared.faults.Cause.{Cause}
use Rattle.books.specs.declared.faults.Cause.TheVariants.{Operands, Codes, TooFew, TooMany}
use Rattle.expressions.specs.declared.command.Command.{Command}
use Rattle.expressions.specs.Commands.{command, width, takes, in_range, most, ask, questions, decoded}

-- ---- the questions of a command

-- every question of the command c of the letter b gets a yes, and v is behind it
pub record Passes (last waiting b : ℕ) (rest : List ℕ) (c : Command) (v : List ℕ) : Type 0 where
  pub is : command b rest ≡ Some c
  pub operands : width b ≤ length rest
  pub codes : in_range last c ≡ true
  pub enough : takes c ≤ waiting
  pub few : takes c ≡ 0 → waiting < most
  pub behind : drop (width b) rest ≡ v

ask_yes : {X : Type 0} (q : Cause) (t : Bool) (r : Result X Cause) → t ≡ true → ask q t r ≡ r
ask_yes q t r e = ap (λ x. ask q x r) e

ask_ok : {X : Type 0} (q : Cause) (t : Bool) (r : Result X Cause) (x : X) → ask q t r ≡ Ok x → (t ≡ true) × (r ≡ Ok x)
ask_ok q true r x e = (refl, e)
ask_ok q false r x e = let z : ◌≡◌ {A = ℕ} 0 1 = cc in absurd (omega arith)

-- a command that takes none is asked whether there is room
roomy_yes : (k n : ℕ) → (k ≡ 0 → n < most) → (not (eqb k 0) || ltb n most) ≡ true
roomy_yes k n h = elim (cases_eq k 0) [
  | inl e ↦ or_right (not (eqb k 0)) (ltb n most) (lt-ltb n most (h e))
  | inr e ↦ or_left (not (eqb k 0)) (ltb n most) (not_from_false (eqb k 0) (ne_eqb k 0 e))
]

roomy_few : (k n : ℕ) → (not (eqb k 0) || ltb n most) ≡ true → k ≡ 0 → n < most
roomy_few k n h e = elim (or_cases (not (eqb k 0)) (ltb n most) h) [
  | inl t ↦ absurd (both_ways (eqb k 0) (not-true (eqb k 0) t) (eq-eqb k 0 e))
  | inr t ↦ ltb-true n most t
]

pub decodes : (last waiting b : ℕ) (rest : List ℕ) (c : Command) (v : List ℕ) → Passes last waiting b rest c v →
    decoded last waiting b rest ≡ Ok (c, v)
decodes last waiting b rest c v p =
    ap (questions last waiting b rest) p.is ∙ ask_yes Operands _ _ (le-leb (width b) (length rest) p.operands)
    ∙ ask_yes Codes _ _ p.codes ∙ ask_yes TooFew _ _ (le-leb (takes c) waiting p.enough)
    ∙ ask_yes TooMany _ _ (roomy_yes (takes c) waiting p.few) ∙ ap (λ (x : List ℕ). Ok (c, x)) p.behind

pub passes : (last waiting b : ℕ) (rest : List ℕ) (c : Command) (v : List ℕ) → decoded last waiting b rest ≡ Ok (c, v) →
    Passes last waiting b rest c v
passes last waiting b rest c v e = by (command b rest) refl e
  where
    by : (o : Option Command) → command b rest ≡ o → questions last waiting b rest o ≡ Ok (c, v) → Passes last waiting b rest c v
    by None is q = let z : ◌≡◌ {A = ℕ} 0 1 = cc in absurd (omega arith)
    by (Some d) is q =
        let one = ask_ok Operands _ _ _ q in
        let two = ask_ok Codes _ _ _ one.1 in
        let three = ask_ok TooFew _ _ _ two.1 in
        let four = ask_ok TooMany _ _ _ three.1 in
        let same : d ≡ c = ok_command (d, drop (width b) rest) (c, v) four.1 in
        record {
          is = is ∙ ap (λ (x : Command). Some x) same;
          operands = leb-true _ _ one.0;
          codes = ap (in_range last) (sym same) ∙ two.0;
          enough = subst (λ (x : Command). takes x ≤ waiting) same (leb-true _ _ three.0);
          few = λ z. roomy_few (takes d) waiting four.0 (ap takes same ∙ z);
          behind = ok_rest (d, drop (width b) rest) (c, v) four.1;
        }
      where
        ok_is : (x y : Command × List ℕ) → ◌≡◌ {A = Result (Command × List ℕ) Cause} (Ok x) (Ok y) → x ≡ y
        ok_is x y h = cc

        ok_command : (x y : Command × List ℕ) → ◌≡◌ {A = Result (Command × List ℕ) Cause} (Ok x) (Ok y) → x.0 ≡ y.0
        ok_command x y h = ap (λ (z : Command × List ℕ). z.0) (ok_is x y h)

        ok_rest : (x y : Command × List ℕ) → ◌≡◌ {A = Result (Command × List ℕ) Cause} (Ok x) (Ok y) → x.1 ≡ y.1
        ok_rest x y h = ap (λ (z : Command × List ℕ). z.1) (ok_is x y h)
