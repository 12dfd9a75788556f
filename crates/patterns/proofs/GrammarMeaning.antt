-- What the expression of a parsed pattern denotes, and that its commands spell it.
use Rattle.std.proofs.Common.{◌≡◌, ℕ, ◌<◌, ◌↔◌, Bool, true, List, [], ◌∷◌, map, refl, sym, ap, ◌∙◌, subst, inl, inr, arith}
use Rattle.expressions.specs.Expression.{either, Language, Nothing, Concatenation, Union, Repetition, none, again, OneOf, Denotes}
use Rattle.expressions.specs.Commands.{Byte}
use Rattle.patterns.specs.declared.marks.Repeat.{Repeat}
use Rattle.patterns.specs.declared.marks.Repeat.TheVariants.{Star, Plus, Optional}
use Rattle.patterns.specs.declared.runs.Run.{Run}
use Rattle.patterns.specs.Marks.{Part}
use Rattle.patterns.specs.Classes.{runs}
use Rattle.patterns.specs.Reading.{E, together, ranged, repeated}
use Rattle.patterns.specs.Grammar.{Pattern, Kind, Parses, one_sequence, more_sequences, no_pieces, some_pieces, one_piece, more_pieces, one_atom, repeated_piece, plain_byte, escaped_byte, any_byte, one_class, in_brackets, class_has}
use Rattle.patterns.specs.Meaning.{OneByte, InRuns, Repeated, Means, expression}
use Rattle.patterns.proofs.GrammarClasses.{runs_pass, pass_runs}

-- ---- sets of texts

-- two sets have the same texts
abbrev Same : Language → Language → Type 0
Same R S = (w : List ℕ) → R w ↔ S w

concatenated : (R R' S S' : Language) → ((w : List ℕ) → R w → R' w) → ((w : List ℕ) → S w → S' w) → (w : List ℕ) → Concatenation R S w → Concatenation R' S' w
concatenated R R' S S' f g w (u, v, e, r, s) = (u, v, e, f u r, g v s)

same_concatenation : (R R' S S' : Language) → Same R R' → Same S S' → Same (Concatenation R S) (Concatenation R' S')
same_concatenation R R' S S' f g w =
    (concatenated R R' S S' (λ u. (f u).0) (λ u. (g u).0) w, concatenated R' R S' S (λ u. (f u).1) (λ u. (g u).1) w)

united : (R R' S S' : Language) → ((w : List ℕ) → R w → R' w) → ((w : List ℕ) → S w → S' w) → (w : List ℕ) → Union R S w → Union R' S' w
united R R' S S' f g w (inl r) = inl (f w r)
united R R' S S' f g w (inr s) = inr (g w s)

same_union : (R R' S S' : Language) → Same R R' → Same S S' → Same (Union R S) (Union R' S')
same_union R R' S S' f g w = (united R R' S S' (λ u. (f u).0) (λ u. (g u).0) w, united R' R S' S (λ u. (f u).1) (λ u. (g u).1) w)

repetition : (R R' : Language) → ((w : List ℕ) → R w → R' w) → (w : List ℕ) → Repetition R w → Repetition R' w
repetition R R' f w (none e) = none e
repetition R R' f w (again u v e r s) = again u v e (f u r) (repetition R R' f v s)

same_repetition : (R R' : Language) → Same R R' → Same (Repetition R) (Repetition R')
same_repetition R R' f w = (repetition R R' (λ u. (f u).0) w, repetition R' R (λ u. (f u).1) w)

same_repeated : (r : Repeat) (e : E) (R : Language) → Same (Denotes e) R → Same (Denotes (repeated r e)) (Repeated r R)
same_repeated Star e R f = same_repetition (Denotes e) R f
same_repeated Plus e R f = same_concatenation (Denotes e) R (Repetition (Denotes e)) (Repetition R) f (same_repetition (Denotes e) R f)
same_repeated Optional e R f = same_union Nothing Nothing (Denotes e) R (λ w. (λ x. x, λ x. x)) f

-- ---- a class

abbrev OneInRuns : List Run → Language
OneInRuns rs w = (c : ℕ) × InRuns rs c × (w ≡ c ∷ [])

runs_denote : (r : Run) (rs : List Run) (w : List ℕ) → Denotes (together either (map ranged (r ∷ rs))) w → OneInRuns (r ∷ rs) w
runs_denote r [] w (c, l, h, e) = (c, inl (l, h), e)
runs_denote r (q ∷ rs) w (inl d) = let (c, h, e) = runs_denote q rs w d in (c, inr h, e)
runs_denote r (q ∷ rs) w (inr (c, l, h, e)) = (c, inl (l, h), e)

in_denoted : (rs : List Run) (w : List ℕ) → OneInRuns rs w → Denotes (together either (map ranged rs)) w
in_denoted [] w (c, h, e) = absurd h
in_denoted (r ∷ []) w (c, inl (l, h), e) = (c, l, h, e)
in_denoted (r ∷ []) w (c, inr h, e) = absurd h
in_denoted (r ∷ q ∷ rs) w (c, inl (l, h), e) = inr (c, l, h, e)
in_denoted (r ∷ q ∷ rs) w (c, inr h, e) = inl (in_denoted (q ∷ rs) w (c, h, e))

class_denotes : (f : ℕ → Bool) (c : ℕ) → c < 256 → f c ≡ true → Same (Denotes (together either (map ranged (runs f 256)))) (OneByte f)
class_denotes f c l h w = (λ d. by (runs f 256) refl d, λ (x, n, g, e). in_denoted (runs f 256) w (x, pass_runs f 256 x n g, e))
  where
    by : (rs : List Run) → runs f 256 ≡ rs → Denotes (together either (map ranged rs)) w → OneByte f w
    by [] e d = absurd (subst (λ rs. InRuns rs c) e (pass_runs f 256 c l h))
    by (r ∷ rs) e d =
        let (x, g, i) = runs_denote r rs w d in
        let (n, j) = runs_pass f 256 x (subst (λ rs. InRuns rs x) (sym e) g) in
        (x, n, j, i)

-- ---- a pattern

byte_denotes : (b : ℕ) → Same (OneOf b b) (Byte b)
byte_denotes b w = (λ (c, l, h, e). e ∙ ap (λ x. x ∷ []) (let z : c ≡ b = omega arith in z), λ e. (b, omega arith, omega arith, e))

pub denotes : {k : Kind} {d : ℕ} {w : List Part} {p : Pattern} → Parses k d w p → Same (Denotes (expression p)) (Means p)
denotes (one_sequence h) = denotes h
denotes (more_sequences u v e h k) = same_union _ _ _ _ (denotes h) (denotes k)
denotes (no_pieces e) = λ x. (λ y. y, λ y. y)
denotes (some_pieces h) = denotes h
denotes (one_piece h) = denotes h
denotes (more_pieces u v e h k) = same_concatenation _ _ _ _ (denotes h) (denotes k)
denotes (one_atom h) = denotes h
denotes (repeated_piece {p = p} u c r e f h) = same_repeated r (expression p) (Means p) (denotes h)
denotes (plain_byte b e f) = byte_denotes b
denotes (escaped_byte b e) = byte_denotes b
denotes (any_byte e) = λ x. (λ (c, l, h, y). (c, omega arith, refl, y), λ (c, l, h, y). (c, omega arith, omega arith, y))
denotes (one_class body c e f l h) = class_denotes (class_has body) c l h
denotes (in_brackets u e l h) = denotes h
