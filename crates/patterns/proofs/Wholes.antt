-- How a whole text is read.
use Rattle.std.proofs.Common.{◌≡◌, ℕ, suc, ◌+◌, ◌-◌, ◌<◌, ◌≤◌, true, false, eqb, List, [], ◌∷◌, length, Ok, Err, sym, refl, ap, ◌∙◌, arith}
use Rattle.std.proofs.lemmas.Bool.{le-ltb, eqb-true}
use Rattle.patterns.specs.declared.faults.PatternFault.TheVariants.{Unbalanced}
use Rattle.patterns.specs.declared.text.Text.{Text}
use Rattle.patterns.specs.declared.sink.Sink.{Sink}
use Rattle.patterns.specs.Marks.{sign}
use Rattle.patterns.specs.Reading.{Level, fresh, closed, read}
use Rattle.patterns.specs.Parsing.{stops, begins, reads, Chosen}
use Rattle.patterns.specs.Outcome.{longest, outcome}
use Rattle.patterns.proofs.Readings.{read_refused}
use Rattle.patterns.proofs.Turns.{at_end}

-- a ')' where no bracket is open
unopened : (p : ℕ) (l : Level) (t : List ℕ) → 1 ≤ length t → stops t ≡ true → begins t 124 ≡ false → read (p + length t) l [] 0 t ≡ Err (Unbalanced p)
unopened p l [] h e f = absurd (omega arith)
unopened p l (b ∷ t) h e f =
    let g : eqb b 41 ≡ true = simp f at e in
    let q : p + suc (length t) - suc (length t) ≡ p = omega arith in
    ap (λ x. read (p + suc (length t)) l [] 0 (x ∷ t)) (eqb-true b 41 g)
    ∙ read_refused (p + suc (length t)) l [] 41 t (sign 41) (Unbalanced p) refl (ap (λ n. Err (Unbalanced n)) q)

module _ (t : List ℕ) (whole : Text) (bytes : whole.bytes.now ≡ t) (place : whole.place ≡ 0) (short : length t ≤ longest) where
  begun : outcome t ≡ reads whole fresh []
  begun =
      let e = le-ltb longest (length t) short in
      let n : length t ≡ whole.place + length whole.bytes.now = omega (arith, place, ap length bytes) in
      simp e (ap (λ m. read m fresh [] 0 t) n ∙ ap (read (whole.place + length whole.bytes.now) fresh [] 0) (sym bytes))

  pub whole_read : (a b : Sink) (u : Text) (x : Chosen 0 whole a b (Ok u)) → length u.bytes.now < 1 → outcome t ≡ Ok (closed x.0.level)
  whole_read a b u x e = begun ∙ x.0.leads [] refl ∙ at_end u x.0.level [] (empty u.bytes.now e)
    where
      empty : (l : List ℕ) → length l < 1 → l ≡ []
      empty [] e = refl
      empty (b ∷ l) e = absurd (omega arith)

  -- a ')' with no open bracket
  pub whole_unbalanced : (a b : Sink) (u : Text) → Chosen 0 whole a b (Ok u) → 1 ≤ length u.bytes.now → outcome t ≡ Err (Unbalanced u.place)
  whole_unbalanced a b u x e = begun ∙ x.0.leads [] refl ∙ unopened u.place x.0.level u.bytes.now e x.0.ends x.1
