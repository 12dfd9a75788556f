-- How an atom, a piece, a sequence and a choice are read, part by part.
use Rattle.std.proofs.Common.{◌≡◌, ℕ, ◌+◌, ◌-◌, ◌<◌, ◌≤◌, ◌⊎◌, inl, inr, Bool, true, false, cond, ◌||◌, eqb, List, [], ◌∷◌, ◌++◌, length, drop, Some, None, Option, Ok, Err, Result, sym, refl, ap, ◌∙◌, subst, arith, ne_eqb}
use Rattle.std.specs.Option.{ok_or, MatchOption}
use Rattle.std.proofs.lemmas.Bool.{lt-ltb, le-ltb}
use Rattle.expressions.specs.Expression.{symbol, join}
use Rattle.patterns.specs.declared.faults.PatternFault.{PatternFault}
use Rattle.patterns.specs.declared.faults.PatternFault.TheVariants.{NoAtom, Unbalanced, TooDeep}
use Rattle.patterns.specs.declared.marks.Mark.{Mark}
use Rattle.patterns.specs.declared.marks.Mark.TheVariants.{Byte, Escape, Class, Sign}
use Rattle.patterns.specs.declared.marks.Repeat.{Repeat}
use Rattle.patterns.specs.declared.marks.Repeat.TheVariants.{Star, Plus, Optional}
use Rattle.patterns.specs.declared.sink.Sink.{Sink}
use Rattle.patterns.specs.declared.text.Text.{Text}
use Rattle.patterns.specs.Buffers.{Adds}
use Rattle.patterns.specs.Classes.{members}
use Rattle.patterns.specs.Marks.{sign, plain, is_sign, escaped, classed, class_at, closes, part_of, Marked, repeat_of, letter_of}
use Rattle.patterns.specs.Reading.{classed as in_level}
use Rattle.patterns.specs.Reading.{one, ClassPut, class_of, E, Level, Open, Step, step, most, fresh, closed, together, put, written, repeated, signed_by, again, parted, reserved}
use Rattle.patterns.specs.Parsing.{stops, begins, Behind, sign_at, reads, Leads, Ready, PieceRead, Pieced, Sequenced, ChoiceRead, Chosen}
use Rattle.patterns.proofs.Puts.{adds_both}
use Rattle.patterns.proofs.Readings.{marked_shorter}
use Rattle.patterns.proofs.Turns.{mark_on, mark_no, no_mark, sign_on, at_end, repeat_cut}

-- ---- signs

no_class : (p : ℕ) (t : List ℕ) (r : Result ℕ PatternFault) (c : ℕ) → classed p t r ≡ Ok (sign c) → ⊥
no_class p t (Ok q) c e = cc
no_class p t (Err f) c e = cc

sign_byte : (x y z : Bool) (b c p : ℕ) (t : List ℕ) → cond x (escaped p t) (cond y (class_at p t) (Ok (cond z (sign b) (plain b)))) ≡ Ok (sign c) → (b ≡ c) × (z ≡ true)
sign_byte true y z b c p [] e = cc
sign_byte true y z b c p (d ∷ t) e = cc
sign_byte false true z b c p t e = absurd (no_class p t (closes p (members (p + 1 + length t) t)) c e)
sign_byte false false true b c p t e = (cc, refl)
sign_byte false false false b c p t e = cc

-- of | ( ) * + ? . those that neither end a sequence nor are an atom repeat
repeating : (bar left right star plus query point : Bool) → (bar || (left || (right || (star || (plus || (query || point)))))) ≡ true → (bar || right) ≡ false → left ≡ false
    → point ≡ false → star ≡ false → plus ≡ false → query ≡ false → ⊥
repeating true left right star plus query point e s l p f g h = cc
repeating false left true star plus query point e s l p f g h = cc
repeating false left false star plus query point e s l p f g h = let n : ◌≡◌ {A = Bool} false true = simp (l, p, f, g, h) at e in cc

some_repeat : (c : ℕ) → is_sign c ≡ true → (eqb c 124 || eqb c 41) ≡ false → eqb c 40 ≡ false → eqb c 46 ≡ false → (r : Repeat) × (repeat_of c ≡ Some r)
some_repeat c e s l p = by (eqb c 42) (eqb c 43) (eqb c 63) refl refl refl
  where
    by : (x y z : Bool) → eqb c 42 ≡ x → eqb c 43 ≡ y → eqb c 63 ≡ z → (r : Repeat) × (repeat_of c ≡ Some r)
    by true y z f g h = (Star, simp f)
    by false true z f g h = (Plus, simp (f, g))
    by false false true f g h = (Optional, simp (f, g, h))
    by false false false f g h = absurd (repeating (eqb c 124) (eqb c 40) (eqb c 41) (eqb c 42) (eqb c 43) (eqb c 63) (eqb c 46) e s l p f g h)

-- a mark, told otherwise
pub same_mark : (p : ℕ) (t : List ℕ) (m m' : Mark) (u : Text) → m ≡ m' → Marked p t (Ok (m, u)) → Marked p t (Ok (m', u))
same_mark p t m m' u e k = subst (λ x. Marked p t (Ok (x, u))) e k

-- a mark that is a sign, where no sequence ends, and which is neither '(' nor '.'
sign_repeats : (p c : ℕ) (t : List ℕ) (u : Text) → 0 < length t → Marked p t (Ok (Sign c, u)) → stops t ≡ false → eqb c 40 ≡ false → eqb c 46 ≡ false
    → (r : Repeat) × (repeat_of c ≡ Some r) × (sign_at t ≡ Some r)
sign_repeats p c [] u h k s l o = absurd (omega arith)
sign_repeats p c (b ∷ t) u h k s l o =
    let e = sign_byte (eqb b 92) (eqb b 91) (is_sign b) b c p t k.0 in
    let r = some_repeat c (ap is_sign (sym e.0) ∙ e.1) (ap (λ x. eqb x 124 || eqb x 41) (sym e.0) ∙ s) l o in
    (r.0, r.1, ap repeat_of e.0 ∙ r.1)

-- ---- atoms

-- bytes that are kept back, where they are plain
pub kept_back : (b : ℕ) → (b ≡ 93) ⊎ ((b ≡ 123) ⊎ (b ≡ 125)) → reserved b ≡ true
kept_back b (inl e) = ap reserved e
kept_back b (inr (inl e)) = ap reserved e
kept_back b (inr (inr e)) = ap reserved e

not_kept_back : (b : ℕ) → ((b ≡ 93) ⊎ ((b ≡ 123) ⊎ (b ≡ 125)) → ⊥) → reserved b ≡ false
not_kept_back b h =
    let e = ne_eqb b 93 (λ e. h (inl e)) in
    let f = ne_eqb b 123 (λ e. h (inr (inl e))) in
    let g = ne_eqb b 125 (λ e. h (inr (inr e))) in
    simp (e, f, g)

pub some_left : (t : List ℕ) → stops t ≡ false → 0 < length t
some_left [] e = cc
some_left (b ∷ t) e = omega arith

-- one bracket more, at the place p of this level
abbrev inner : ℕ → Level → List Open → List Open
inner p l os = record { place = p; outside = l } ∷ os

module _ (depth : ℕ) (t : Text) (s s' : Sink) (h : 0 < length t.bytes.now) where
  pub unmarked : (f : PatternFault) → Marked t.place t.bytes.now (Err f) → Pieced depth t s s' (Err f)
  unmarked f k l r os o = no_mark t l os h f k

  module _ (m : Mark) (u : Text) (k : Marked t.place t.bytes.now (Ok (m, u))) where
    -- a mark that is an atom
    pub atom_read : (e : E) → ((l : Level) (os : List Open) → step t.place (part_of m) l os ≡ Ok (put e l, os)) → Adds s (written e) s' → PieceRead depth t s s' u
    atom_read e q a = record {
      piece = e;
      shorter = marked_shorter t.place t.bytes.now m u h k;
      puts = a;
      leads = λ l r os o. mark_on t l os h m u (put e l) os k (q l os);
    }

    pub atom_refused : (f : PatternFault) → ((l : Level) (os : List Open) → step t.place (part_of m) l os ≡ Err f) → Pieced depth t s s' (Err f)
    atom_refused f q l r os o = mark_no t l os h m u f k (q l os)

  -- a byte that is plain and not kept back, or behind a '\'
  pub literal_read : (m : Mark) (b : ℕ) (u : Text) → Marked t.place t.bytes.now (Ok (m, u)) → Adds s (67 ∷ 0 ∷ b ∷ []) s'
      → ((m ≡ Byte b) × ((b ≡ 93) ⊎ ((b ≡ 123) ⊎ (b ≡ 125)) → ⊥)) ⊎ (m ≡ Escape b) → PieceRead depth t s s' u
  literal_read m b u k a (inl e) = let r = not_kept_back b e.1 in atom_read (Byte b) u (same_mark t.place t.bytes.now m (Byte b) u e.0 k) (symbol one b b) (λ l os. simp r) a
  literal_read m b u k a (inr e) = atom_read (Escape b) u (same_mark t.place t.bytes.now m (Escape b) u e k) (symbol one b b) (λ l os. refl) a

  -- the body of a class keeps its place
  body_place : (body u : Text) (b : List ℕ) → 0 < length b → Marked t.place b (Ok (Class body, u)) → body.place - 1 ≡ t.place
  body_place body u [] n k = absurd (omega arith)
  body_place body u (x ∷ b) n k = omega (arith, k.3)

  module _ (body u : Text) (k : Marked t.place t.bytes.now (Ok (Class body, u))) where
    pub class_read : ClassPut (body.place - 1) body.bytes.now s s' (Ok tt) → PieceRead depth t s s' u
    class_read x =
        let e = ap (λ p. class_of p body.bytes.now) (sym (body_place body u t.bytes.now h k)) ∙ x.1 in
        atom_read (Class body) u k x.0 (λ l os. ap (in_level l os) e) x.2

    pub class_refused : (f : PatternFault) → class_of (body.place - 1) body.bytes.now ≡ Err f → Pieced depth t s s' (Err f)
    class_refused f x =
        let e = ap (λ p. class_of p body.bytes.now) (sym (body_place body u t.bytes.now h k)) ∙ x in
        atom_refused (Class body) u k f (λ l os. ap (in_level l os) e)

  module _ (c : ℕ) (u : Text) (k : Marked t.place t.bytes.now (Ok (Sign c, u))) where
    -- a sign that repeats is no atom
    pub no_atom : stops t.bytes.now ≡ false → eqb c 40 ≡ false → eqb c 46 ≡ false → Pieced depth t s s' (Err (NoAtom t.place))
    no_atom e g i l y os o =
        let r = sign_repeats t.place c t.bytes.now u h k e g i in
        mark_no t l os h (Sign c) u (NoAtom t.place) k
        (ap (signed_by t.place c l os) r.1 ∙ ap (λ es. again t.place r.0 l.sequences es os) (y r.0 r.2))

    bracket : c ≡ 40 → (l : Level) (os : List Open) (x : Step) → step t.place (sign 40) l os ≡ x → step t.place (sign c) l os ≡ x
    bracket e l os x q = subst (λ b. step t.place (sign b) l os ≡ x) (sym e) q

    pub too_deep : c ≡ 40 → most ≤ depth → Pieced depth t s s' (Err (TooDeep t.place))
    too_deep e d l y os o =
        mark_no t l os h (Sign c) u (TooDeep t.place) k (bracket e l os (Err (TooDeep t.place)) (let n = le-ltb (length os) 16 (omega arith) in simp n))

    module _ (e : c ≡ 40) (d : depth < most) where
      inside : (l : Level) (os : List Open) → length os ≡ depth → reads t l os ≡ reads u fresh (inner t.place l os)
      inside l os o =
          mark_on t l os h (Sign c) u fresh (inner t.place l os) k
          (bracket e l os (Ok (fresh, inner t.place l os)) (let n = lt-ltb (length os) 16 (omega arith) in simp n))

      one_more : (l : Level) (os : List Open) → length os ≡ depth → length (inner t.place l os) ≡ depth + 1
      one_more l os o = omega arith

      pub bracket_refused : (r r' : Sink) (f : PatternFault) → Chosen (depth + 1) u r r' (Err f) → Pieced depth t s s' (Err f)
      bracket_refused r r' f x l y os o = inside l os o ∙ x (inner t.place l os) (one_more l os o)

      -- a choice in brackets
      bracket_read : (v w : Text) → Chosen (depth + 1) u s s' (Ok v) → Behind v 41 w → PieceRead depth t s s' w
      bracket_read v w x y = record {
        piece = closed x.0.level;
        shorter = let n = marked_shorter t.place t.bytes.now (Sign c) u h k in omega (arith, ap length y.bytes, x.0.within);
        puts = x.0.puts;
        leads = λ l r os o.
            inside l os o ∙ x.0.leads (inner t.place l os) (one_more l os o)
            ∙ sign_on v 41 w y (λ p. refl) x.0.level (inner t.place l os) (put (closed x.0.level) l) os refl;
      }

      nothing_left : (v : List ℕ) → stops v ≡ true → begins v 124 ≡ false → begins v 41 ≡ false → v ≡ []
      nothing_left [] e f g = refl
      nothing_left (b ∷ v) e f g = let n : ◌≡◌ {A = Bool} false true = simp (f, g) at e in cc

      unclosed : (v : Text) → Chosen (depth + 1) u s s' (Ok v) → begins v.bytes.now 41 ≡ false → Pieced depth t s s' (Err (Unbalanced t.place))
      unclosed v x y l r os o =
          inside l os o ∙ x.0.leads (inner t.place l os) (one_more l os o)
          ∙ at_end v x.0.level (inner t.place l os) (nothing_left v.bytes.now x.0.ends x.1 y)

      -- and the ')' behind it
      pub bracket_closed : (v : Text) → Chosen (depth + 1) u s s' (Ok v) → (o : Option Text) → MatchOption o (begins v.bytes.now 41 ≡ false) (Behind v 41)
          → Pieced depth t s s' (ok_or o (Unbalanced t.place))
      bracket_closed v x (Some w) y = bracket_read v w x y
      bracket_closed v x None y = unclosed v x y

-- ---- pieces

front : (t : List ℕ) (r : Repeat) → sign_at t ≡ Some r → (b : ℕ) × (t ≡ b ∷ drop 1 t) × (repeat_of b ≡ Some r)
front [] r e = cc
front (b ∷ t) r e = (b, refl, e)

written_repeated : (r : Repeat) (e : E) → written (repeated r e) ≡ written e ++ letter_of r ∷ []
written_repeated Star e = refl
written_repeated Plus e = refl
written_repeated Optional e = refl

-- one sign more behind a piece
pub repeat_read : (depth : ℕ) (t u v : Text) (r : Repeat) (a b c : Sink) → PieceRead depth t a b u → sign_at u.bytes.now ≡ Some r → v.bytes.now ≡ drop 1 u.bytes.now
    → v.place ≡ u.place + 1 → Adds b (letter_of r ∷ []) c → PieceRead depth t a c v
repeat_read depth t u v r a b c x e f g p =
    let n = front u.bytes.now r e in
    let k : Behind u n.0 v = record { bytes = n.1 ∙ ap (λ l. n.0 ∷ l) (sym f); place = g } in
    record {
      piece = repeated r x.piece;
      shorter = omega (arith, x.shorter, ap length k.bytes);
      puts = subst (λ w. Adds a w c) (sym (written_repeated r x.piece)) (adds_both (written x.piece) (letter_of r ∷ []) x.puts p);
      leads = λ l y os o.
          x.leads l y os o
          ∙ sign_on u n.0 v k (λ q. repeat_cut q n.0 v.bytes.now r n.2) (put x.piece l) os (put (repeated r x.piece) l) os (ap (signed_by u.place n.0 (put x.piece l) os) n.2);
    }

-- ---- sequences

-- Some pieces, from t as far as u, where no sign that repeats stands.
pub record Joining (depth : ℕ) (t : Text) (s s' : Sink) (u : Text) : Type 0 where
  pub last : E
  pub before : List E
  pub within : length u.bytes.now ≤ length t.bytes.now
  pub whole : sign_at u.bytes.now ≡ None
  pub puts : Adds s (written (together join (last ∷ before))) s'
  pub leads : (ss : List E) → Leads depth t (record { sequences = ss; pieces = [] }) (record { sequences = ss; pieces = last ∷ before }) u

-- no sign that repeats stands here
unsigned : (t : List ℕ) (l : Level) → sign_at t ≡ None → Ready t l
unsigned t l e r f = cc

module _ (depth : ℕ) (t u : Text) (a b : Sink) (x : Joining depth t a b u) where
  -- one piece more, with a J behind it
  pub joining_more : (v : Text) (c d : Sink) → PieceRead depth u b c v → sign_at v.bytes.now ≡ None → Adds c (74 ∷ []) d → Joining depth t a d v
  joining_more v c d y e p = record {
    last = y.piece;
    before = x.last ∷ x.before;
    within = omega (arith, x.within, y.shorter);
    whole = e;
    puts = adds_both (written (together join (x.last ∷ x.before))) (written y.piece ++ 74 ∷ []) x.puts (adds_both (written y.piece) (74 ∷ []) y.puts p);
    leads = λ ss os o.
        x.leads ss os o
        ∙ y.leads (record { sequences = ss; pieces = x.last ∷ x.before }) (unsigned u.bytes.now (record { sequences = ss; pieces = x.last ∷ x.before }) x.whole) os o;
  }

-- ---- choices

pub choice_first : (depth : ℕ) (t u : Text) (a b : Sink) → Sequenced depth t a b (Ok u) → ChoiceRead depth t a b u
choice_first depth t u a b x = record {
  level = record { sequences = []; pieces = x.0.pieces };
  within = x.0.within;
  ends = x.1;
  puts = x.0.puts;
  leads = x.0.leads [];
}

module _ (depth : ℕ) (t u v : Text) (a b : Sink) (x : ChoiceRead depth t a b u) (k : Behind u 124 v) where
  parts : (os : List Open) → length os ≡ depth → reads t fresh os ≡ reads v (parted x.level) os
  parts os o = x.leads os o ∙ sign_on u 124 v k (λ p. refl) x.level os (parted x.level) os refl

  -- one sequence more, with an A behind it
  pub choice_more : (w : Text) (c d : Sink) → Sequenced depth v b c (Ok w) → Adds c (65 ∷ []) d → ChoiceRead depth t a d w
  choice_more w c d y p = record {
    level = record { sequences = together join x.level.pieces ∷ x.level.sequences; pieces = y.0.pieces };
    within = omega (arith, x.within, y.0.within, ap length k.bytes);
    ends = y.1;
    puts = adds_both (written (closed x.level)) (written (together join y.0.pieces) ++ 65 ∷ []) x.puts (adds_both (written (together join y.0.pieces)) (65 ∷ []) y.0.puts p);
    leads = λ os o. parts os o ∙ y.0.leads (together join x.level.pieces ∷ x.level.sequences) os o;
  }

  pub choice_refused : (c d e g : Sink) (f : PatternFault) → Sequenced depth v c d (Err f) → Chosen depth t e g (Err f)
  choice_refused c d e g f y os o = parts os o ∙ y (together join x.level.pieces ∷ x.level.sequences) os o
