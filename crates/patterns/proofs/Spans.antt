-- How the members of a class make spans.
use Rattle.std.proofs.Common.{◌≡◌, ℕ, ◌+◌, ◌≤◌, true, false, cond, not, ◌&&◌, ◌||◌, ltb, leb, List, [], ◌∷◌, ◌++◌, length, get_or, drop, None, Ok, Err, length-drop, sym, refl, ap, ◌∙◌, subst, arith}
use Rattle.std.proofs.lemmas.Bool.{lt-ltb, le-ltb, eq-eqb}
use Rattle.std.proofs.Math.Bool.{or_assoc}
use Rattle.std.proofs.lemmas.List.{append-nil}
use Rattle.states.specs.Sets.{State, has}
use Rattle.patterns.specs.declared.members.Member.{Member}
use Rattle.patterns.specs.declared.classes.Held.{Held}
use Rattle.patterns.specs.declared.classes.Held.TheVariants as held
use Rattle.patterns.specs.declared.faults.PatternFault.{PatternFault}
use Rattle.patterns.specs.declared.text.Text.{Text}
use Rattle.patterns.specs.Classes.{members, Span, alone, dash, spans, falling, covers, pending, ClassRead, BytesRead, negated, inner, in_class}

-- Of all members those before `left` are in the set, and none of their spans falls.
pub record Holding (all : List Member) (s : State) (left : List Member) : Type 0 where
  pub falls : falling (spans all) ≡ falling (spans left)
  pub member : (x : ℕ) → covers (spans all) x ≡ (has s x || covers (spans left) x)

-- what is held as a '-' is one
abbrev pub Dashed : Held → Type 0
Dashed held.Nothing = Unit {0}
Dashed (held.Member m) = Unit {0}
Dashed (held.Dash a d) = dash d ≡ true

never_below : (n : ℕ) → ltb n n ≡ false
never_below n = le-ltb n n (omega arith)

module _ (all : List Member) (s s' : State) where
  spanned : (m : Span) (ms left : List Span) → falling left ≡ falling (m ∷ ms) → ((x : ℕ) → covers left x ≡ covers (m ∷ ms) x)
      → m.left.value ≤ m.right.value → ((p : ℕ) → has s' p ≡ (has s p || (leb m.left.value p && leb p m.right.value)))
      → (falling left ≡ falling ms) × ((x : ℕ) → (has s x || covers left x) ≡ (has s' x || covers ms x))
  spanned m ms left f k h g =
      let e = le-ltb m.right.value m.left.value h in
      (f ∙ simp e, λ x. ap (λ t. has s x || t) (k x) ∙ sym (or_assoc (has s x) (leb m.left.value x && leb x m.right.value) (covers ms x)) ∙ ap (λ t. t || covers ms x) (sym (g x)))

  -- a member that no '-' follows
  pub apart : (a b : Member) (ms : List Member) → Holding all s (a ∷ b ∷ ms) → dash b ≡ false
      → ((p : ℕ) → has s' p ≡ (has s p || (leb a.value p && leb p a.value))) → Holding all s' (b ∷ ms)
  apart a b ms h n g =
      let z = spanned (alone a) (spans (b ∷ ms)) (spans (a ∷ b ∷ ms)) (ap falling (one ms)) (λ x. ap (λ l. covers l x) (one ms)) (omega arith) g in
      record { falls = h.falls ∙ z.0; member = λ x. h.member x ∙ z.1 x }
    where
      one : (ms : List Member) → spans (a ∷ b ∷ ms) ≡ alone a ∷ spans (b ∷ ms)
      one [] = refl
      one (c ∷ ms) = simp n

  pub ranged : (a d b : Member) (ms : List Member) → Holding all s (a ∷ d ∷ b ∷ ms) → dash d ≡ true → a.value ≤ b.value
      → ((p : ℕ) → has s' p ≡ (has s p || (leb a.value p && leb p b.value))) → Holding all s' ms
  ranged a d b ms h n l g =
      let one : spans (a ∷ d ∷ b ∷ ms) ≡ record { left = a; right = b } ∷ spans ms = simp n in
      let z = spanned (record { left = a; right = b }) (spans ms) (spans (a ∷ d ∷ b ∷ ms)) (ap falling one) (λ x. ap (λ l. covers l x) one) l g in
      record { falls = h.falls ∙ z.0; member = λ x. h.member x ∙ z.1 x }

-- what is held and what is left, told otherwise
pub told : {all : List Member} {s : State} (h h' : Held) (m m' : List Member) → h ≡ h' → m ≡ m' → Holding all s (pending h ++ m) → Holding all s (pending h' ++ m')
told {all} {s} h h' m m' e f k = subst (λ l. Holding all s (pending h' ++ l)) f (subst (λ x. Holding all s (pending x ++ m)) e k)

pub rising : (h : Held) → falling (spans (pending h)) ≡ None
rising held.Nothing = refl
rising (held.Member m) = let e = never_below m.value in simp e
rising (held.Dash a d) = let e = never_below a.value in let f = never_below d.value in simp (e, f)

pub all_read : (all : List Member) (s s' : State) (h : Held) → Holding all s (pending h ++ []) → ((p : ℕ) → has s' p ≡ (has s p || covers (spans (pending h)) p))
    → (falling (spans all) ≡ None) × ((x : ℕ) → has s' x ≡ covers (spans all) x)
all_read all s s' h k g =
    let n = append-nil (pending h) in
    (k.falls ∙ ap (λ l. falling (spans l)) n ∙ rising h, λ x. g x ∙ sym (k.member x ∙ ap (λ l. has s x || covers (spans l) x) n))

-- a body that '^' begins, and the text behind that
module _ (body rest : Text) (some : 1 ≤ length body.bytes.now) (caret : get_or body.bytes.now 0 0 ≡ 94) (bytes : rest.bytes.now ≡ drop 1 body.bytes.now) (place : rest.place ≡ body.place + 1) where
  first : (b : List ℕ) → 1 ≤ length b → get_or b 0 0 ≡ 94 → negated b ≡ true
  first [] l e = absurd (omega arith)
  first (x ∷ t) l e = eq-eqb x 94 e

  others : negated body.bytes.now ≡ true
  others = first body.bytes.now some caret

  same : members (rest.place + length rest.bytes.now) rest.bytes.now ≡ members (body.place + length body.bytes.now) (inner body.bytes.now)
  same =
      let n : rest.place + length rest.bytes.now ≡ body.place + length body.bytes.now = omega (arith, ap length bytes, length-drop 1 body.bytes.now) in
      ap (λ k. members k rest.bytes.now) n ∙ ap (members (body.place + length body.bytes.now)) (bytes ∙ sym (ap (λ t. cond t (drop 1 body.bytes.now) body.bytes.now) others))

  pub others_refused : (f : PatternFault) → ClassRead (rest.place + length rest.bytes.now) rest.bytes.now (Err f) → BytesRead (body.place + length body.bytes.now) body.bytes.now (Err f)
  others_refused f r = (r.0, ap (λ ms. falling (spans ms)) (sym same) ∙ r.1, r.2)

  pub others_read : (o s : State) → ClassRead (rest.place + length rest.bytes.now) rest.bytes.now (Ok o) → ((p : ℕ) → has s p ≡ (ltb p 256 && not (has o p)))
      → BytesRead (body.place + length body.bytes.now) body.bytes.now (Ok s)
  others_read o s r g = (ap (λ ms. falling (spans ms)) (sym same) ∙ r.0, λ x l. g x ∙ ap (λ t. t && not (has o x)) (lt-ltb x 256 l) ∙ ap not (r.1 x ∙ ap (λ ms. covers (spans ms) x) same) ∙ sym (turned x))
    where
      turned : (x : ℕ) → in_class (body.place + length body.bytes.now) body.bytes.now x ≡ not (covers (spans (members (body.place + length body.bytes.now) (inner body.bytes.now))) x)
      turned x = ap (λ t. cond t (not (covers (spans (members (body.place + length body.bytes.now) (inner body.bytes.now))) x)) (covers (spans (members (body.place + length body.bytes.now) (inner body.bytes.now))) x)) others
