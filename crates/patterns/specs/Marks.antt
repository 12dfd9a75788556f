-- Marks: a pattern text is cut into plain bytes, escapes, classes and signs.
use Rattle.std.specs.Prelude.{◌≡◌, ℕ, ◌+◌, ◌-◌, ◌≤◌, Bool, cond, ◌&&◌, ◌||◌, List, [], ◌∷◌, length, take, drop, Some, None, Ok, Err, Option, Result, ◌==◌}
use Rattle.patterns.specs.declared.faults.PatternFault.{PatternFault}
use Rattle.patterns.specs.declared.faults.PatternFault.TheVariants.{LoneEscape, OpenClass}
use Rattle.patterns.specs.declared.marks.Mark.{Mark}
use Rattle.patterns.specs.declared.marks.Mark.TheVariants.{Byte, Escape, Class, Sign}
use Rattle.patterns.specs.declared.members.Member.{Member}
use Rattle.patterns.specs.declared.text.Text.{Text}
use Rattle.patterns.specs.declared.marks.Repeat.{Repeat}
use Rattle.patterns.specs.declared.marks.Repeat.TheVariants.{Star, Plus, Optional}
use Rattle.patterns.specs.Classes.{members}

-- what is cut off the front of a text
pub data Part : Type 0 where
  plain : ℕ → Part
  escape : ℕ → Part
  class : List ℕ → Part
  sign : ℕ → Part

-- how many bytes of the text it is
abbrev pub width : Part → ℕ
width (plain b) = 1
width (escape b) = 2
width (class body) = length body + 2
width (sign c) = 1

-- one of | ( ) * + ? .
abbrev pub is_sign : ℕ → Bool
is_sign c = c == 124 || (c == 40 || (c == 41 || (c == 42 || (c == 43 || (c == 63 || c == 46)))))

-- The place where the class ends whose '[' is at the place p, by the members behind that: the first ']' that is not escaped.
-- A '\' is a member for itself only where no byte follows it.
abbrev pub closes : ℕ → List Member → Result ℕ PatternFault
closes p [] = Err (OpenClass p)
closes p (m ∷ ms) = cond (m.bare && m.value == 93) (Ok m.place) (cond (m.bare && m.value == 92) (Err (LoneEscape m.place)) (closes p ms))

-- the part behind a '\' at the place p
abbrev pub escaped : ℕ → List ℕ → Result Part PatternFault
escaped p [] = Err (LoneEscape p)
escaped p (c ∷ t) = Ok (escape c)

-- the class whose '[' is at the place p, before t, and which ends there
abbrev pub classed : ℕ → List ℕ → Result ℕ PatternFault → Result Part PatternFault
classed p t (Ok q) = Ok (class (take (q - (p + 1)) t))
classed p t (Err f) = Err f

abbrev pub class_at : ℕ → List ℕ → Result Part PatternFault
class_at p t = classed p t (closes p (members (p + 1 + length t) t))

-- the mark at the place p, where the byte b stands and t behind it
abbrev pub cut : ℕ → ℕ → List ℕ → Result Part PatternFault
cut p b t =
    cond (b == 92) (escaped p t) (cond (b == 91) (class_at p t) (Ok (cond (is_sign b) (sign b) (plain b))))

-- a mark of the code, as a part
abbrev pub part_of : Mark → Part
part_of (Byte b) = plain b
part_of (Escape b) = escape b
part_of (Class body) = class body.bytes.now
part_of (Sign c) = sign c

-- the body of a class at the place p keeps its place
abbrev pub Kept : ℕ → Mark → Type 0
Kept p (Byte b) = Unit {0}
Kept p (Escape b) = Unit {0}
Kept p (Class body) = body.place ≡ p + 1
Kept p (Sign c) = Unit {0}

-- the mark at the front of a text that begins at the place p, and what is behind it; or why there is none
abbrev pub Marked : ℕ → List ℕ → Result (Mark × Text) PatternFault → Type 0
Marked p [] r = ⊥ → ⊥
Marked p (b ∷ t) (Ok m) =
    (cut p b t ≡ Ok (part_of m.0)) × (m.1.bytes.now ≡ drop (width (part_of m.0)) (b ∷ t)) × (width (part_of m.0) ≤ length (b ∷ t))
    × Kept p m.0 × (m.1.place ≡ p + width (part_of m.0))
Marked p (b ∷ t) (Err f) = cut p b t ≡ Err f

-- the body of the class whose '[' is at the place p, before t; or why it has no end
abbrev pub Bodied : ℕ → List ℕ → Result Text PatternFault → Type 0
Bodied p t (Ok body) = (class_at p t ≡ Ok (class body.bytes.now)) × (body.place ≡ p + 1) × (length body.bytes.now + 1 ≤ length t)
Bodied p t (Err f) = class_at p t ≡ Err f

-- '*' is zero or more times, '+' one or more times, '?' at most once
abbrev pub repeat_of : ℕ → Option Repeat
repeat_of c = cond (c == 42) (Some Star) (cond (c == 43) (Some Plus) (cond (c == 63) (Some Optional) None))

abbrev pub letter_of : Repeat → ℕ
letter_of Star = 83
letter_of Plus = 80
letter_of Optional = 79
