-- The commands of a parsed pattern spell its expression, and at most 36 expressions wait.
use Rattle.std.proofs.Common.{◌≡◌, ℕ, suc, ◌+◌, ◌-◌, ◌*◌, ◌<◌, ◌≤◌, List, [], ◌∷◌, ◌++◌, map, refl, subst, inl, inr, arith}
use Rattle.expressions.specs.Expression.{empty, symbol, join, either, plain}
use Rattle.expressions.specs.Commands.{Spells, room, Accepted}
use Rattle.patterns.specs.declared.marks.Repeat.{Repeat}
use Rattle.patterns.specs.declared.marks.Repeat.TheVariants.{Star, Plus, Optional}
use Rattle.patterns.specs.declared.runs.Run.{Run}
use Rattle.patterns.specs.Marks.{Part}
use Rattle.patterns.specs.Marks as marks
use Rattle.patterns.specs.Classes.{runs}
use Rattle.patterns.specs.Reading.{E, one, range, any, together, written, ranged, repeated, most}
use Rattle.patterns.specs.Grammar.{Pattern, Kind, choice, sequence, pieces, piece, atom, bar, closing, Parses, one_sequence, more_sequences, no_pieces, some_pieces, one_piece, more_pieces, one_atom, repeated_piece, plain_byte, escaped_byte, any_byte, one_class, in_brackets, class_has}
use Rattle.patterns.specs.Meaning.{Apart, expression}
use Rattle.patterns.proofs.GrammarClasses.{runs_apart}
use Rattle.patterns.proofs.GrammarMarks.{Proper, Each, each_left, each_right}

-- the commands spell the expression, and at most n expressions wait
pub record Spelled (n : ℕ) (e : E) : Type 0 where
  pub spells : Spells 255 (plain e) (written e)
  pub waiting : room (plain e) ≤ n

more_room : {n : ℕ} (k : ℕ) (e : E) → n ≤ k → Spelled n e → Spelled k e
more_room k e l h = record { spells = h.spells; waiting = let x = h.waiting in omega arith }

empty_spelled : Spelled 1 empty
empty_spelled = record { spells = refl; waiting = omega arith }

one_spelled : (b : ℕ) → b < 256 → Spelled 1 (symbol one b b)
one_spelled b l = record {
  spells = (omega arith, omega arith, inl (refl, (67 ∷ [], 0 ∷ b ∷ [], refl, refl, (0, b, omega arith, refl))));
  waiting = omega arith;
}

range_spelled : (low high : ℕ) → low ≤ high → high < 256 → Spelled 1 (symbol range low high)
range_spelled low high l h = record {
  spells = (l, omega arith, inr (82 ∷ [], 0 ∷ low ∷ 0 ∷ high ∷ [], refl, refl, (0 ∷ low ∷ [], 0 ∷ high ∷ [], refl, (0, low, omega arith, refl), (0, high, omega arith, refl))));
  waiting = omega arith;
}

join_spelled : {n : ℕ} (a b : E) → Spelled (suc n) a → Spelled n b → Spelled (suc n) (join a b)
join_spelled a b x y = record {
  spells = (written a, written b ++ 74 ∷ [], refl, x.spells, (written b, 74 ∷ [], refl, y.spells, refl));
  waiting = let i = x.waiting in let j = y.waiting in omega arith;
}

either_spelled : {n : ℕ} (a b : E) → Spelled (suc n) a → Spelled n b → Spelled (suc n) (either a b)
either_spelled a b x y = record {
  spells = (written a, written b ++ 65 ∷ [], refl, x.spells, (written b, 65 ∷ [], refl, y.spells, refl));
  waiting = let i = x.waiting in let j = y.waiting in omega arith;
}

repeated_spelled : {n : ℕ} (r : Repeat) (e : E) → Spelled n e → Spelled n (repeated r e)
repeated_spelled Star e h = record { spells = (written e, 83 ∷ [], refl, h.spells, refl); waiting = h.waiting }
repeated_spelled Plus e h = record { spells = (written e, 80 ∷ [], refl, h.spells, refl); waiting = h.waiting }
repeated_spelled Optional e h = record { spells = (written e, 79 ∷ [], refl, h.spells, refl); waiting = h.waiting }

runs_spelled : (rs : List Run) → Apart 256 rs → Spelled 2 (together either (map ranged rs))
runs_spelled [] h = more_room 2 empty (omega arith) empty_spelled
runs_spelled (r ∷ []) (l, h, k) = more_room 2 (ranged r) (omega arith) (range_spelled r.low r.high l h)
runs_spelled (r ∷ q ∷ rs) (l, h, (m, i, k)) = either_spelled (together either (map ranged (q ∷ rs))) (ranged r) (runs_spelled (q ∷ rs) (m, omega arith, k)) (range_spelled r.low r.high l h)

-- how many wait at most where so many brackets can still be opened: two for each, two for an atom, one for a sequence and one for a choice
abbrev waiting : Kind → ℕ → ℕ
waiting choice left = 2 * left + 4
waiting sequence left = 2 * left + 3
waiting pieces left = 2 * left + 3
waiting piece left = 2 * left + 2
waiting atom left = 2 * left + 2

pub spelled : {k : Kind} {d : ℕ} {w : List Part} {p : Pattern} → Parses k d w p → (left : ℕ) → d + left ≡ most → Each Proper w → Spelled (waiting k left) (expression p)
spelled (one_sequence {p = p} h) n e b = more_room (2 * n + 4) (expression p) (omega arith) (spelled h n e b)
spelled (more_sequences {p = p} {q = q} u v f h k) n e b =
    let x = subst (Each Proper) f b in
    subst (λ z. Spelled z (either (expression p) (expression q))) (let z : suc (2 * n + 3) ≡ 2 * n + 4 = omega arith in z)
    (either_spelled (expression p) (expression q) (more_room (suc (2 * n + 3)) (expression p) (omega arith) (spelled h n e (each_left Proper u (bar ∷ v) x)))
    (spelled k n e (each_right Proper u (bar ∷ v) x).1))
spelled (no_pieces f) n e b = more_room (2 * n + 3) empty (omega arith) empty_spelled
spelled (some_pieces h) n e b = spelled h n e b
spelled (one_piece {p = p} h) n e b = more_room (2 * n + 3) (expression p) (omega arith) (spelled h n e b)
spelled (more_pieces {p = p} {q = q} u v f h k) n e b =
    let x = subst (Each Proper) f b in
    subst (λ z. Spelled z (join (expression p) (expression q))) (let z : suc (2 * n + 2) ≡ 2 * n + 3 = omega arith in z)
    (join_spelled (expression p) (expression q) (more_room (suc (2 * n + 2)) (expression p) (omega arith) (spelled h n e (each_left Proper u v x)))
    (spelled k n e (each_right Proper u v x)))
spelled (one_atom h) n e b = spelled h n e b
spelled (repeated_piece {p = p} u c r f g h) n e b = repeated_spelled r (expression p) (spelled h n e (each_left Proper u (marks.sign c ∷ []) (subst (Each Proper) f b)))
spelled (plain_byte c f g) n e b = more_room (2 * n + 2) (symbol one c c) (omega arith) (one_spelled c (subst (Each Proper) f b).0)
spelled (escaped_byte c f) n e b = more_room (2 * n + 2) (symbol one c c) (omega arith) (one_spelled c (subst (Each Proper) f b).0)
spelled (any_byte f) n e b = more_room (2 * n + 2) any (omega arith) (range_spelled 0 255 (omega arith) (omega arith))
spelled (one_class body c f g l h) n e b =
    more_room (2 * n + 2) _ (omega arith) (runs_spelled (runs (class_has body) 256) (runs_apart (class_has body) 256))
spelled (in_brackets {p = p} u f l h) n e b =
    more_room (2 * n + 2) (expression p) (omega arith)
    (spelled h (n - 1) (omega arith) (each_left Proper u (closing ∷ []) (subst (Each Proper) f b).1))

pub all_spelled : (ms : List Part) (p : Pattern) → Parses choice 0 ms p → Each Proper ms → Accepted 255 (plain (expression p)) (written (expression p))
all_spelled ms p h b = let x = spelled h 16 refl b in (let i = x.waiting in omega arith, x.spells)
