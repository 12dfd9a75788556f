-- The bytes of one command, and what it makes of the expressions that wait. Assumes nothing.
use Rattle.std.proofs.Common.{◌≡◌, ℕ, ◌+◌, ◌-◌, ◌<◌, ◌≤◌, max, true, cond, eqb, leb, List, [], ◌∷◌, ◌++◌, length, take, drop, Some, None, Ok, Option, sym, refl, ap, ◌∙◌, subst, inl, inr, append_assoc, arith}
use Rattle.std.proofs.lemmas.Bool.{cond_both, eqb-true, leb-true, le-leb, and_parts, and_from}
use Rattle.expressions.specs.declared.code_range.CodeRange.{CodeRange}
use Rattle.expressions.specs.declared.command.Command.{Command}
use Rattle.expressions.specs.declared.command.Command.TheVariants.{Empty, Symbol, Join, Either, Star, Plus, Optional}
use Rattle.expressions.specs.Expression.{empty, symbol, join, either, star, plus, optional, Plain, symbols, Language, Concatenation}
use Rattle.expressions.specs.CodeRange.{only, is_up_to}
use Rattle.expressions.specs.Commands.{code, code_at, command, width, takes, adds, in_range, most, decoded, applied, Byte, SpellsRange, Spells, room, Leaves}
use Rattle.expressions.proofs.Steps.{decodes}

-- the runs of the command c alone
abbrev pub Word : ℕ → Command → Language
Word last Empty w = Byte 69 w
Word last (Symbol k) w = (k.low ≤ k.high) × (k.high ≤ last) × SpellsRange k.low k.high w
Word last Join w = Byte 74 w
Word last Either w = Byte 65 w
Word last Star w = Byte 83 w
Word last Plus w = Byte 80 w
Word last Optional w = Byte 79 w

-- ---- what is decoded is a word

range_word : (last : ℕ) (k : CodeRange) (w : List ℕ) → is_up_to last k ≡ true → SpellsRange k.low k.high w → Word last (Symbol k) w
range_word last k w t s =
    let both = and_parts (leb k.low k.high) (leb k.high last) t in
    (leb-true _ _ both.0, leb-true _ _ both.1, s)

CWord : (rest : List ℕ) → 2 ≤ length rest → SpellsRange (code_at rest 0) (code_at rest 0) (67 ∷ take 2 rest)
CWord [] l = absurd (omega arith)
CWord (h ∷ []) l = absurd (omega arith)
CWord (h ∷ k ∷ rest) l = inl (refl, (67 ∷ [], h ∷ k ∷ [], refl, refl, (h, k, refl, refl)))

RWord : (rest : List ℕ) → 4 ≤ length rest → SpellsRange (code_at rest 0) (code_at rest 2) (82 ∷ take 4 rest)
RWord [] l = absurd (omega arith)
RWord (h ∷ []) l = absurd (omega arith)
RWord (h ∷ k ∷ []) l = absurd (omega arith)
RWord (h ∷ k ∷ h' ∷ []) l = absurd (omega arith)
RWord (h ∷ k ∷ h' ∷ k' ∷ rest) l =
    inr (82 ∷ [], h ∷ k ∷ h' ∷ k' ∷ [], refl, refl, (h ∷ k ∷ [], h' ∷ k' ∷ [], refl, (h, k, refl, refl), (h', k', refl, refl)))

-- the command of a letter is written by the letter and the bytes of its operands
pub word_of : (last b : ℕ) (rest : List ℕ) (c : Command) → command b rest ≡ Some c → width b ≤ length rest → in_range last c ≡ true →
    Word last c (b ∷ take (width b) rest)
word_of last b rest c is =
    by 69 _ _ (at 69 Empty (λ l t. refl))
    (by 67 _ _ (at 67 _ (λ l t. range_word last _ _ t (CWord rest l)))
    (by 82 _ _ (at 82 _ (λ l t. range_word last _ _ t (RWord rest l)))
    (by 74 _ _ (at 74 Join (λ l t. refl))
    (by 65 _ _ (at 65 Either (λ l t. refl))
    (by 83 _ _ (at 83 Star (λ l t. refl)) (by 80 _ _ (at 80 Plus (λ l t. refl)) (by 79 _ _ (at 79 Optional (λ l t. refl)) none))))))) is
  where
    P : Option Command → Type 0
    P o = o ≡ Some c → width b ≤ length rest → in_range last c ≡ true → Word last c (b ∷ take (width b) rest)

    by : (k : ℕ) (x y : Option Command) → (b ≡ k → P x) → P y → P (cond (eqb b k) x y)
    by k x y here else = cond_both (eqb b k) x y P (λ t. here (eqb-true b k t)) (λ t. else)

    at : (k : ℕ) (d : Command) → (width k ≤ length rest → in_range last d ≡ true → Word last d (k ∷ take (width k) rest)) → b ≡ k → P (Some d)
    at k d h e s l t =
        let same : d ≡ c = cc in
        subst (λ (z : ℕ). Word last c (z ∷ take (width z) rest)) (sym e)
        (subst (λ (z : Command). Word last z (k ∷ take (width k) rest)) same
        (h (subst (λ (z : ℕ). width z ≤ length rest) e l) (ap (in_range last) same ∙ t)))

    none : P None
    none s l t = let z : ◌≡◌ {A = ℕ} 0 1 = cc in absurd (omega arith)

-- ---- a word is decoded, whatever is behind it

-- the word x gives the command c and leaves what is behind it
abbrev Decoded : ℕ → ℕ → Command → Language
Decoded last waiting c x =
    (b : ℕ) × (y : List ℕ) × (x ≡ b ∷ y) × ((rest : List ℕ) → decoded last waiting b (y ++ rest) ≡ Ok (c, rest))

range_decoded : (last waiting low high : ℕ) (x : List ℕ) → waiting < most → low ≤ high → high ≤ last → SpellsRange low high x →
    Decoded last waiting (Symbol (record { low = low; high = high })) x
range_decoded last waiting low high x few lo hi (inl (same, (y, z, e, ey, (h, l, ec, ez)))) = (
  67,
  h ∷ l ∷ [],
  e ∙ ap (λ w. w ++ z) ey ∙ ap (λ w. 67 ∷ w) ez,
  λ rest. decodes last waiting 67 (h ∷ l ∷ rest) (Symbol (record { low = low; high = high })) rest (record {
    is = ap (λ (n : ℕ). Some (Symbol (only n))) (sym ec) ∙ ap (λ (n : ℕ). Some (Symbol (record { low = low; high = n }))) same;
    operands = omega arith;
    codes = and_from _ _ (le-leb low high lo) (le-leb high last hi);
    enough = omega arith;
    few = λ _. few;
    behind = refl;
  }),
)
range_decoded last waiting low high x few lo hi (inr (y, z, e, ey, (u, v, e', (h, l, eh, eu), (h', l', el, ev)))) = (
  82,
  h ∷ l ∷ h' ∷ l' ∷ [],
  e ∙ ap (λ w. w ++ z) ey ∙ ap (λ w. 82 ∷ w) (e' ∙ ap (λ w. w ++ v) eu ∙ ap (λ w. h ∷ l ∷ w) ev),
  λ rest. decodes last waiting 82 (h ∷ l ∷ h' ∷ l' ∷ rest) (Symbol (record { low = low; high = high })) rest (record {
    is = ap (λ (n : ℕ). Some (Symbol (record { low = n; high = code h' l' }))) (sym eh)
        ∙ ap (λ (n : ℕ). Some (Symbol (record { low = low; high = n }))) (sym el);
    operands = omega arith;
    codes = and_from _ _ (le-leb low high lo) (le-leb high last hi);
    enough = omega arith;
    few = λ _. few;
    behind = refl;
  }),
)

-- a letter without operands
byte_decoded : (last waiting k : ℕ) (c : Command) (x : List ℕ) → ((rest : List ℕ) → command k rest ≡ Some c) → width k ≡ 0 → in_range last c ≡ true →
    takes c ≤ waiting → (takes c ≡ 0 → waiting < most) → x ≡ k ∷ [] → Decoded last waiting c x
byte_decoded last waiting k c x is none t enough few e = (
  k,
  [],
  e,
  λ rest. decodes last waiting k rest c rest (record {
    is = is rest;
    operands = omega arith;
    codes = t;
    enough = enough;
    few = few;
    behind = ap (λ (n : ℕ). drop n rest) none;
  }),
)

pub word_decoded : (last waiting : ℕ) (c : Command) (x : List ℕ) → takes c ≤ waiting → (takes c ≡ 0 → waiting < most) → Word last c x →
    Decoded last waiting c x
word_decoded last waiting Empty x enough few e = byte_decoded last waiting 69 Empty x (λ r. refl) refl refl enough few e
word_decoded last waiting (Symbol k) x enough few (lo, hi, s) = range_decoded last waiting k.low k.high x (few refl) lo hi s
word_decoded last waiting Join x enough few e = byte_decoded last waiting 74 Join x (λ r. refl) refl refl enough few e
word_decoded last waiting Either x enough few e = byte_decoded last waiting 65 Either x (λ r. refl) refl refl enough few e
word_decoded last waiting Star x enough few e = byte_decoded last waiting 83 Star x (λ r. refl) refl refl enough few e
word_decoded last waiting Plus x enough few e = byte_decoded last waiting 80 Plus x (λ r. refl) refl refl enough few e
word_decoded last waiting Optional x enough few e = byte_decoded last waiting 79 Optional x (λ r. refl) refl refl enough few e

-- ---- what waits

pub length_applied : (c : Command) (W : List Plain) → takes c ≤ length W → length (applied c W) ≡ length W + 1 - takes c
length_applied Empty W h = omega arith
length_applied (Symbol k) W h = omega arith
length_applied Join [] h = absurd (omega arith)
length_applied Join (b ∷ []) h = absurd (omega arith)
length_applied Join (b ∷ a ∷ W) h = omega arith
length_applied Either [] h = absurd (omega arith)
length_applied Either (b ∷ []) h = absurd (omega arith)
length_applied Either (b ∷ a ∷ W) h = omega arith
length_applied Star [] h = absurd (omega arith)
length_applied Star (a ∷ W) h = omega arith
length_applied Plus [] h = absurd (omega arith)
length_applied Plus (a ∷ W) h = omega arith
length_applied Optional [] h = absurd (omega arith)
length_applied Optional (a ∷ W) h = omega arith

-- the symbols of all that wait
abbrev pub total : List Plain → ℕ
total [] = 0
total (e ∷ W) = symbols e + total W

pub total_applied : (c : Command) (W : List Plain) → takes c ≤ length W → total (applied c W) ≡ total W + adds c
total_applied Empty W h = omega arith
total_applied (Symbol k) W h = omega arith
total_applied Join [] h = absurd (omega arith)
total_applied Join (b ∷ []) h = absurd (omega arith)
total_applied Join (b ∷ a ∷ W) h = omega arith
total_applied Either [] h = absurd (omega arith)
total_applied Either (b ∷ []) h = absurd (omega arith)
total_applied Either (b ∷ a ∷ W) h = omega arith
total_applied Star [] h = absurd (omega arith)
total_applied Star (a ∷ W) h = omega arith
total_applied Plus [] h = absurd (omega arith)
total_applied Plus (a ∷ W) h = omega arith
total_applied Optional [] h = absurd (omega arith)
total_applied Optional (a ∷ W) h = omega arith

-- one more waits
leaves_more : (last : ℕ) (W : List Plain) (p x : List ℕ) (e : Plain) → room e ≡ 1 → length W < most → Leaves last W p → Spells last e x →
    Leaves last (e ∷ W) (p ++ x)
leaves_more last W p x e small few h s = (omega arith, (p, x, refl, h, s))

leaves_one : (last k : ℕ) (f : Plain → Plain) (a : Plain) (W : List Plain) (p x : List ℕ) → room (f a) ≡ room a →
    ((w : List ℕ) → Concatenation (Spells last a) (Byte k) w → Spells last (f a) w) → x ≡ k ∷ [] → Leaves last (a ∷ W) p → Leaves last (f a ∷ W) (p ++ x)
leaves_one last k f a W p x same spell e (l, (u, v, at, h, g)) = (
  omega (arith, same),
  (u, v ++ x, ap (λ z. z ++ x) at ∙ append_assoc u v x, h, spell (v ++ x) (v, x, refl, g, e)),
)

leaves_two : (last k : ℕ) (f : Plain → Plain → Plain) (a b : Plain) (W : List Plain) (p x : List ℕ) → room (f a b) ≡ max (room a) (room b + 1) →
    ((w : List ℕ) → Concatenation (Spells last a) (Concatenation (Spells last b) (Byte k)) w → Spells last (f a b) w) → x ≡ k ∷ [] →
    Leaves last (b ∷ a ∷ W) p → Leaves last (f a b ∷ W) (p ++ x)
leaves_two last k f a b W p x same spell e (l, (u, v, at, (m, (u', v', at', h, g')), g)) = (
  omega (arith, same),
  (
    u',
    v' ++ (v ++ x),
    ap (λ z. z ++ x) (at ∙ ap (λ z. z ++ v) at') ∙ simp append_assoc,
    h,
    spell (v' ++ (v ++ x)) (v', v ++ x, refl, g', (v, x, refl, g, e)),
  ),
)

-- behind a run that leaves W, a word leaves what its command makes of W
pub leaves_applied : (last : ℕ) (c : Command) (W : List Plain) (p x : List ℕ) → takes c ≤ length W → (takes c ≡ 0 → length W < most) →
    Leaves last W p → Word last c x → Leaves last (applied c W) (p ++ x)
leaves_applied last Empty W p x h few l e = leaves_more last W p x empty refl (few refl) l e
leaves_applied last (Symbol k) W p x h few l s = leaves_more last W p x (symbol tt k.low k.high) refl (few refl) l s
leaves_applied last Join [] p x h few l e = absurd (omega arith)
leaves_applied last Join (b ∷ []) p x h few l e = absurd (omega arith)
leaves_applied last Join (b ∷ a ∷ W) p x h few l e = leaves_two last 74 join a b W p x refl (λ w s. s) e l
leaves_applied last Either [] p x h few l e = absurd (omega arith)
leaves_applied last Either (b ∷ []) p x h few l e = absurd (omega arith)
leaves_applied last Either (b ∷ a ∷ W) p x h few l e = leaves_two last 65 either a b W p x refl (λ w s. s) e l
leaves_applied last Star [] p x h few l e = absurd (omega arith)
leaves_applied last Star (a ∷ W) p x h few l e = leaves_one last 83 star a W p x refl (λ w s. s) e l
leaves_applied last Plus [] p x h few l e = absurd (omega arith)
leaves_applied last Plus (a ∷ W) p x h few l e = leaves_one last 80 plus a W p x refl (λ w s. s) e l
leaves_applied last Optional [] p x h few l e = absurd (omega arith)
leaves_applied last Optional (a ∷ W) p x h few l e = leaves_one last 79 optional a W p x refl (λ w s. s) e l
