-- Classes: the members of a body, the ranges that they make, the set of bytes, and its longest runs.
use Rattle.std.specs.Prelude.{◌≡◌, ℕ, zero, suc, ◌+◌, ◌-◌, ◌<◌, Bool, true, false, cond, not, ◌&&◌, ◌||◌, List, [], ◌∷◌, length, reverse, drop, Some, None, Ok, Err, Option, Result, ◌==◌, nat_le, nat_lt}
use Rattle.states.specs.Sets.{State, has}
use Rattle.patterns.specs.declared.faults.PatternFault.{PatternFault}
use Rattle.patterns.specs.declared.faults.PatternFault.TheVariants.{FallingRange}
use Rattle.patterns.specs.declared.members.Member.{Member}
use Rattle.patterns.specs.declared.members.Members.{Members}
use Rattle.patterns.specs.declared.runs.Run.{Run}
use Rattle.patterns.specs.declared.runs.Runs.{Runs}
use Rattle.patterns.specs.declared.classes.Held.{Held}
use Rattle.patterns.specs.declared.classes.Held.TheVariants as held

-- the members of what is left of a body that ends at the place `end`
abbrev pub members : ℕ → List ℕ → List Member
members end [] = []
members end (b ∷ []) = record { value = b; place = end - 1; bare = true } ∷ []
members end (b ∷ c ∷ t) =
    cond (b == 92) (record { value = c; place = end - suc (suc (length t)); bare = false } ∷ members end t)
    (record { value = b; place = end - suc (suc (length t)); bare = true } ∷ members end (c ∷ t))

-- the members that are still to come
abbrev pub members_left : Members → List Member
members_left m = members (m.0.place + length m.0.bytes.now) m.0.bytes.now

-- from one member to another
pub record Span : Type 0 where
  pub left : Member
  pub right : Member

-- a member for itself
abbrev pub alone : Member → Span
alone m = record { left = m; right = m }

-- a '-' that is not escaped
abbrev pub dash : Member → Bool
dash m = m.bare && m.value == 45

-- A '-' between two members makes a range; first, last or right after a range it stands for itself.
abbrev pub spans : List Member → List Span
spans [] = []
spans (a ∷ []) = alone a ∷ []
spans (a ∷ d ∷ []) = alone a ∷ alone d ∷ []
spans (a ∷ d ∷ b ∷ ms) = cond (dash d) (record { left = a; right = b } ∷ spans ms) (alone a ∷ spans (d ∷ b ∷ ms))

-- the place of the first span that falls, if one does
abbrev pub falling : List Span → Option ℕ
falling [] = None
falling (s ∷ ss) = cond (nat_lt s.right.value s.left.value) (Some s.left.place) (falling ss)

-- the bytes of the spans
abbrev pub covers : List Span → ℕ → Bool
covers [] x = false
covers (s ∷ ss) x = (nat_le s.left.value x && nat_le x s.right.value) || covers ss x

-- the members that the reader of a class holds back
abbrev pub pending : Held → List Member
pending held.Nothing = []
pending (held.Member m) = m ∷ []
pending (held.Dash a d) = a ∷ d ∷ []

-- the set that a body tells, or the refusal of its first falling range
abbrev pub ClassRead : ℕ → List ℕ → Result State PatternFault → Type 0
ClassRead end body (Ok s) = (falling (spans (members end body)) ≡ None) × ((x : ℕ) → has s x ≡ covers (spans (members end body)) x)
ClassRead end body (Err f) = (p : ℕ) × (falling (spans (members end body)) ≡ Some p) × (f ≡ FallingRange p)

-- ---- the bytes of a class and their runs

-- '^' first means all other bytes
abbrev pub negated : List ℕ → Bool
negated [] = false
negated (b ∷ t) = b == 94

-- the members' part of a body
abbrev pub inner : List ℕ → List ℕ
inner body = cond (negated body) (drop 1 body) body

-- the bytes of a class whose body ends at the place `end`
abbrev pub in_class : ℕ → List ℕ → ℕ → Bool
in_class end body x = cond (negated body) (not (covers (spans (members end (inner body))) x)) (covers (spans (members end (inner body))) x)

-- the bytes of a class whose body ends at the place `end`, or the refusal of its first falling range
abbrev pub BytesRead : ℕ → List ℕ → Result State PatternFault → Type 0
BytesRead end body (Ok s) = (falling (spans (members end (inner body))) ≡ None) × ((x : ℕ) → x < 256 → has s x ≡ in_class end body x)
BytesRead end body (Err f) = (p : ℕ) × (falling (spans (members end (inner body))) ≡ Some p) × (f ≡ FallingRange p)

-- a number right behind the last run makes it longer, and another is a run of its own
abbrev pub grown : ℕ → List Run → List Run
grown n [] = record { low = n; high = n } ∷ []
grown n (r ∷ rs) = cond (suc r.high == n) (record { low = r.low; high = n } ∷ rs) (record { low = n; high = n } ∷ r ∷ rs)

-- the longest runs of numbers below n that pass f, the last one first
unfoldable pub runs : (ℕ → Bool) → ℕ → List Run
runs f zero = []
runs f (suc n) = cond (f n) (grown n (runs f n)) (runs f n)

-- the runs that are still to come
abbrev pub runs_left : Runs → List Run
runs_left r = reverse (runs (has r.0) 256)
