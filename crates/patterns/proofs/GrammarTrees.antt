-- The pattern that marks give, read from left to right with no question asked; marks that are parsed by the rules give theirs.
use Rattle.std.proofs.Common.{◌≡◌, ℕ, cond, List, [], ◌∷◌, ◌++◌, Some, None, Option, ◌==◌, refl, sym, ap, ap₂, ◌∙◌, append_assoc, append-nil}
use Rattle.patterns.specs.declared.marks.Repeat.{Repeat}
use Rattle.patterns.specs.Marks.{Part, plain, escape, class, sign, repeat_of}
use Rattle.patterns.specs.Grammar.{Pattern, nothing, literal, dot, among, concat, alternate, repeat, Kind, choice, sequence, pieces, piece, atom, bar, opening, closing, Parses, one_sequence, more_sequences, no_pieces, some_pieces, one_piece, more_pieces, one_atom, repeated_piece, plain_byte, escaped_byte, any_byte, one_class, in_brackets}

-- patterns put together from the first to the last one, which stands first
abbrev pub gathered : (Pattern → Pattern → Pattern) → List Pattern → Pattern
gathered op [] = nothing
gathered op (p ∷ []) = p
gathered op (p ∷ q ∷ ps) = op (gathered op (q ∷ ps)) p

-- what stands between two brackets so far, the last one first: the sequences behind which a '|' stands, and the pieces of the present one
pub record Inside : Type 0 where
  pub sequences : List Pattern
  pub pieces : List Pattern

abbrev pub none : Inside
none = record { sequences = []; pieces = [] }

abbrev pub whole : Inside → Pattern
whole l = gathered alternate (gathered concat l.pieces ∷ l.sequences)

abbrev pub put : Pattern → Inside → Inside
put p l = record { sequences = l.sequences; pieces = p ∷ l.pieces }

-- what stands inside the innermost open bracket, and outside it and the others
pub record Standing : Type 0 where
  pub here : Inside
  pub around : List Inside

abbrev pub standing : Inside → List Inside → Standing
standing l os = record { here = l; around = os }

abbrev pub start : Standing
start = standing none []

abbrev pub placed : Pattern → Standing → Standing
placed p s = standing (put p s.here) s.around

-- the last piece repeated
abbrev pub again : Repeat → List Pattern → List Pattern
again r [] = []
again r (p ∷ ps) = repeat r p ∷ ps

abbrev pub repeated_last : Repeat → Standing → Standing
repeated_last r s = standing (record { sequences = s.here.sequences; pieces = again r s.here.pieces }) s.around

abbrev pub parted : Standing → Standing
parted s = standing (record { sequences = gathered concat s.here.pieces ∷ s.here.sequences; pieces = [] }) s.around

abbrev pub opened : Standing → Standing
opened s = standing none (s.here ∷ s.around)

abbrev pub shut : Inside → List Inside → Standing
shut l [] = standing l []
shut l (o ∷ os) = standing (put (whole l) o) os

abbrev pub signed : ℕ → Standing → Option Repeat → Standing
signed c s (Some r) = repeated_last r s
signed c s None = cond (c == 46) (placed dot s) (cond (c == 124) (parted s) (cond (c == 40) (opened s) (shut s.here s.around)))

-- what a mark makes of it
abbrev pub grown : Part → Standing → Standing
grown (plain b) s = placed (literal b) s
grown (escape b) s = placed (literal b) s
grown (class body) s = placed (among body) s
grown (sign c) s = signed c s (repeat_of c)

-- all marks
abbrev pub tree : Standing → List Part → Pattern
tree s [] = whole s.here
tree s (m ∷ ms) = tree (grown m s) ms

-- ---- what is parsed

-- The marks w lead on.
pub record Leads (w : List Part) (s s' : Standing) : Type 0 where
  pub on : (rest : List Part) → tree s (w ++ rest) ≡ tree s' rest

leads_both : {u v w : List Part} {s s' s'' : Standing} → w ≡ u ++ v → Leads u s s' → Leads v s' s'' → Leads w s s''
leads_both {u} {v} {s = s} e f g = record { on = λ rest. ap (λ z. tree s (z ++ rest)) e ∙ ap (tree s) (append_assoc u v rest) ∙ f.on (v ++ rest) ∙ g.on rest }

-- one mark
leads_mark : (m : Part) (s : Standing) → Leads (m ∷ []) s (grown m s)
leads_mark m s = record { on = λ rest. refl }

leads_one : {w : List Part} (m : Part) (s s' : Standing) → w ≡ m ∷ [] → grown m s ≡ s' → Leads w s s'
leads_one m s s' e f = record { on = λ rest. ap (λ z. tree s (z ++ rest)) e ∙ ap (λ x. tree x rest) f }

-- where marks lead that are parsed
abbrev Gives : Kind → List Part → Pattern → Type 0
Gives choice w p = (l : Inside) × (whole l ≡ p) × ((os : List Inside) → Leads w (standing none os) (standing l os))
Gives sequence w p = (ps : List Pattern) × (gathered concat ps ≡ p)
    × ((ss : List Pattern) (os : List Inside) → Leads w (standing (record { sequences = ss; pieces = [] }) os) (standing (record { sequences = ss; pieces = ps }) os))
Gives pieces w p = (q : Pattern) × (ps : List Pattern) × (gathered concat (q ∷ ps) ≡ p)
    × ((ss : List Pattern) (os : List Inside) → Leads w (standing (record { sequences = ss; pieces = [] }) os) (standing (record { sequences = ss; pieces = q ∷ ps }) os))
Gives piece w p = (s : Standing) → Leads w s (placed p s)
Gives atom w p = (s : Standing) → Leads w s (placed p s)

repeat_grown : (c : ℕ) (r : Repeat) (p : Pattern) (s : Standing) → repeat_of c ≡ Some r → grown (sign c) (placed p s) ≡ placed (repeat r p) s
repeat_grown c r p s e = ap (signed c (placed p s)) e

gives : {k : Kind} {d : ℕ} {w : List Part} {p : Pattern} → Parses k d w p → Gives k w p
gives (one_sequence h) = let (ps, e, f) = gives h in (record { sequences = []; pieces = ps }, e, λ os. f [] os)
gives (more_sequences u v e h k) =
    let (l, x, f) = gives h in
    let (ps, y, g) = gives k in
    let ss : List Pattern = gathered concat l.pieces ∷ l.sequences in (
      record { sequences = ss; pieces = ps },
      ap₂ alternate x y,
      λ os. leads_both e (f os) (leads_both refl (leads_mark bar (standing l os)) (g ss os)),
    )
gives (no_pieces e) = ([], refl, λ ss os. record { on = λ rest. ap (λ z. tree (standing (record { sequences = ss; pieces = [] }) os) (z ++ rest)) e })
gives (some_pieces h) = let (q, ps, e, f) = gives h in (q ∷ ps, e, f)
gives {p = p} (one_piece h) = (p, [], refl, λ ss os. gives h (standing (record { sequences = ss; pieces = [] }) os))
gives (more_pieces {q = q} u v e h k) =
    let (x, ps, y, f) = gives h in
    (q, x ∷ ps, ap (λ z. concat z q) y, λ ss os. leads_both e (f ss os) (gives k (standing (record { sequences = ss; pieces = x ∷ ps }) os)))
gives (one_atom h) = gives h
gives (repeated_piece {p = p} u c r e f h) = λ s.
    leads_both e (gives h s) (leads_one (sign c) (placed p s) (placed (repeat r p) s) refl (repeat_grown c r p s f))
gives (plain_byte b e f) = λ s. leads_one (plain b) s (placed (literal b) s) e refl
gives (escaped_byte b e) = λ s. leads_one (escape b) s (placed (literal b) s) e refl
gives (any_byte e) = λ s. leads_one (sign 46) s (placed dot s) e refl
gives (one_class body c e f g i) = λ s. leads_one (class body) s (placed (among body) s) e refl
gives (in_brackets u e l h) = λ s.
    let (i, x, f) = gives h in
    leads_both e (leads_mark opening s)
    (leads_both refl (f (s.here ∷ s.around))
    (leads_one closing (standing i (s.here ∷ s.around)) _ refl (ap (λ p. placed p s) x)))

pub tree_right : (w : List Part) (p : Pattern) → Parses choice 0 w p → tree start w ≡ p
tree_right w p h = let (l, e, f) = gives h in ap (tree start) (sym (append-nil w)) ∙ (f []).on [] ∙ e

-- marks say one pattern
pub one_tree : (w : List Part) (p q : Pattern) → Parses choice 0 w p → Parses choice 0 w q → q ≡ p
one_tree w p q h k = sym (tree_right w q k) ∙ tree_right w p h
