-- The grammar of pattern texts: how a text is cut into marks, by which rules marks make a pattern, and which mark gets which refusal.
use Rattle.std.specs.Prelude.{◌≡◌, ℕ, zero, suc, ◌+◌, ◌-◌, ◌<◌, Bool, true, false, cond, not, ◌&&◌, ◌||◌, List, [], ◌∷◌, ◌++◌, length, drop, Some, None, Ok, Err, Option, Result, ◌==◌, nat_lt}
use Rattle.patterns.specs.declared.faults.PatternFault.{PatternFault}
use Rattle.patterns.specs.declared.faults.PatternFault.TheVariants.{TooLong, FallingRange, EmptyClass, NoAtom, Unbalanced, TooDeep, Reserved}
use Rattle.patterns.specs.declared.marks.Repeat.{Repeat}
use Rattle.patterns.specs.Marks.{Part, plain, escape, class, sign, width, cut, repeat_of}
use Rattle.patterns.specs.Classes.{members, spans, falling, inner, in_class}
use Rattle.patterns.specs.Reading.{most, reserved, body_end}

-- ---- marks

-- The marks that can be cut off the front of a text, one behind the other, and why there is no further one, if some of the text is left.
pub record Cuts : Type 0 where
  pub marks : List Part
  pub uncut : Option PatternFault

-- a mark, and what is cut behind the further bytes that it takes; or none
abbrev pub with_mark : (ℕ → Cuts) → Result Part PatternFault → Cuts
with_mark behind (Ok m) = let rest = behind (width m - 1) in record { marks = m ∷ rest.marks; uncut = rest.uncut }
with_mark behind (Err f) = record { marks = []; uncut = Some f }

-- a text that begins at the place p; its first k bytes are the rest of a mark that is cut off already
unfoldable pub cuts : ℕ → ℕ → List ℕ → Cuts
cuts p k [] = record { marks = []; uncut = None }
cuts p zero (b ∷ t) = with_mark (λ k. cuts (suc p) k t) (cut p b t)
cuts p (suc k) (b ∷ t) = cuts (suc p) k t

-- a whole text
abbrev pub cut_up : List ℕ → Cuts
cut_up text = cuts 0 0 text

-- ---- rules

-- what a pattern says
pub data Pattern : Type 0 where
  -- nothing at all
  nothing : Pattern
  -- this byte
  literal : ℕ → Pattern
  -- any byte
  dot : Pattern
  -- one byte of the class with this body
  among : List ℕ → Pattern
  -- one, and the other behind it
  concat : Pattern → Pattern → Pattern
  -- one or the other
  alternate : Pattern → Pattern → Pattern
  repeat : Repeat → Pattern → Pattern

-- the bytes of a class, by its body alone
abbrev pub class_has : List ℕ → ℕ → Bool
class_has body = in_class (length body) body

-- the first range of a body that falls, counted from the body's beginning
abbrev pub falling_in : List ℕ → Option ℕ
falling_in body = falling (spans (members (length body) (inner body)))

-- what the rules are of
pub data Kind : Type 0 where
  choice : Kind
  sequence : Kind
  pieces : Kind
  piece : Kind
  atom : Kind

abbrev pub bar : Part
bar = sign 124

abbrev pub opening : Part
opening = sign 40

abbrev pub closing : Part
closing = sign 41

-- The rules. `Parses k d w p` says that the marks w, with d brackets open around them, are a k, and that this says p.
pub data Parses : Kind → ℕ → List Part → Pattern → Type 0 where
  -- a choice is one sequence, or a choice, a '|' and a sequence
  one_sequence : {d : ℕ} {w : List Part} {p : Pattern} → Parses sequence d w p → Parses choice d w p
  more_sequences : {d : ℕ} {w : List Part} {p q : Pattern} (u v : List Part) → w ≡ u ++ bar ∷ v → Parses choice d u p → Parses sequence d v q
      → Parses choice d w (alternate p q)
  -- a sequence is empty, or pieces, one behind the other
  no_pieces : {d : ℕ} {w : List Part} → w ≡ [] → Parses sequence d w nothing
  some_pieces : {d : ℕ} {w : List Part} {p : Pattern} → Parses pieces d w p → Parses sequence d w p
  one_piece : {d : ℕ} {w : List Part} {p : Pattern} → Parses piece d w p → Parses pieces d w p
  more_pieces : {d : ℕ} {w : List Part} {p q : Pattern} (u v : List Part) → w ≡ u ++ v → Parses pieces d u p → Parses piece d v q
      → Parses pieces d w (concat p q)
  -- a piece is an atom, or a piece and one of '*', '+' and '?'
  one_atom : {d : ℕ} {w : List Part} {p : Pattern} → Parses atom d w p → Parses piece d w p
  repeated_piece : {d : ℕ} {w : List Part} {p : Pattern} (u : List Part) (c : ℕ) (r : Repeat) → w ≡ u ++ sign c ∷ [] → repeat_of c ≡ Some r
      → Parses piece d u p → Parses piece d w (repeat r p)
  -- an atom is a byte that is not reserved, any byte behind a '\', '.', a class or a choice in brackets
  plain_byte : {d : ℕ} {w : List Part} (b : ℕ) → w ≡ plain b ∷ [] → reserved b ≡ false → Parses atom d w (literal b)
  escaped_byte : {d : ℕ} {w : List Part} (b : ℕ) → w ≡ escape b ∷ [] → Parses atom d w (literal b)
  any_byte : {d : ℕ} {w : List Part} → w ≡ sign 46 ∷ [] → Parses atom d w dot
  -- no range of a class falls, and it has some byte
  one_class : {d : ℕ} {w : List Part} (body : List ℕ) (c : ℕ) → w ≡ class body ∷ [] → falling_in body ≡ None → c < 256 → class_has body c ≡ true
      → Parses atom d w (among body)
  -- at most 16 brackets are open
  in_brackets : {d : ℕ} {w : List Part} {p : Pattern} (u : List Part) → w ≡ opening ∷ (u ++ closing ∷ []) → d < most → Parses choice (suc d) u p
      → Parses atom d w p

-- ---- refusals: the questions that a mark is asked, which know nothing of patterns

-- the refusal, if the answer is no
abbrev pub unless : Bool → PatternFault → Option PatternFault
unless true f = None
unless false f = Some f

abbrev pub falls_at : Option ℕ → Option PatternFault
falls_at (Some q) = Some (FallingRange q)
falls_at None = None

-- whether some number below n passes f
unfoldable pub some_below : (ℕ → Bool) → ℕ → Bool
some_below f zero = false
some_below f (suc n) = f n || some_below f n

-- Does no range of the class fall? If one does, the first one's left member is told.
abbrev pub no_falling_range : ℕ → Part → Option PatternFault
no_falling_range p (class body) = falls_at (falling (spans (members (body_end p body) (inner body))))
no_falling_range p _ = None

-- Is a byte in the class?
abbrev pub has_byte : ℕ → Part → Option PatternFault
has_byte p (class body) = unless (some_below (in_class (body_end p body) body) 256) (EmptyClass p)
has_byte p _ = None

-- A pattern, a bracket or a sequence begins behind this mark, so that no atom is before it.
abbrev pub begins_behind : Option Part → Bool
begins_behind None = true
begins_behind (Some (sign c)) = c == 40 || c == 124
begins_behind (Some _) = false

abbrev pub repeats : Part → Bool
repeats (sign c) = c == 42 || (c == 43 || c == 63)
repeats _ = false

-- Is there an atom for '*', '+' or '?', by the mark before it?
abbrev pub has_atom : Option Part → ℕ → Part → Option PatternFault
has_atom before p m = unless (not (repeats m && begins_behind before)) (NoAtom p)

abbrev pub is_opening : Part → Bool
is_opening (sign c) = c == 40
is_opening _ = false

abbrev pub is_closing : Part → Bool
is_closing (sign c) = c == 41
is_closing _ = false

-- Has ')' an open bracket, of which there are so many?
abbrev pub has_opening : ℕ → ℕ → Part → Option PatternFault
has_opening unclosed p m = unless (not (is_closing m && unclosed == 0)) (Unbalanced p)

-- Are with this '(' at most 16 brackets open?
abbrev pub has_room : ℕ → ℕ → Part → Option PatternFault
has_room unclosed p m = unless (not (is_opening m) || nat_lt unclosed most) (TooDeep p)

-- Is a plain byte not reserved?
abbrev pub is_free : ℕ → Part → Option PatternFault
is_free p (plain b) = unless (not (reserved b)) (Reserved p)
is_free p _ = None

-- the first refusal
abbrev pub or_else : Option PatternFault → Option PatternFault → Option PatternFault
or_else (Some f) g = Some f
or_else None g = g

-- The questions of a mark at the place p, behind the mark before it, with so many brackets open, in the order of the refusals' numbers.
abbrev pub asked : Option Part → ℕ → ℕ → Part → Option PatternFault
asked before unclosed p m =
    or_else (no_falling_range p m) (or_else (has_byte p m) (or_else (has_atom before p m) (or_else (has_opening unclosed p m) (or_else (has_room unclosed p m) (is_free p m)))))

-- the places of the open brackets behind a mark, the innermost one first
abbrev pub unclosed_behind : ℕ → Part → List ℕ → List ℕ
unclosed_behind p m unclosed = cond (is_opening m) (p ∷ unclosed) (cond (is_closing m) (drop 1 unclosed) unclosed)

-- after all marks no bracket is open
abbrev pub all_closed : List ℕ → Option PatternFault
all_closed [] = None
all_closed (p ∷ unclosed) = Some (Unbalanced p)

-- The first no to marks from the place p on: that of a mark, then that of what is no mark, then that of the innermost bracket which is still open.
abbrev pub first_no : Option Part → List ℕ → ℕ → List Part → Option PatternFault → Option PatternFault
first_no before unclosed p [] uncut = or_else uncut (all_closed unclosed)
first_no before unclosed p (m ∷ ms) uncut = or_else (asked before (length unclosed) p m) (first_no (Some m) (unclosed_behind p m unclosed) (p + width m) ms uncut)

-- why a text is refused, if it is: it has more than 256 bytes, or there is a no
abbrev pub refusal : List ℕ → Option PatternFault
refusal text = cond (nat_lt 256 (length text)) (Some TooLong) (first_no None [] 0 (cut_up text).marks (cut_up text).uncut)
