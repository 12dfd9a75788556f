-- Where a class ends, and what its mark is.
use Rattle.std.proofs.Common.{◌≡◌, ℕ, suc, ◌+◌, ◌-◌, ◌<◌, ◌≤◌, Bool, true, false, cond, eqb, List, [], ◌∷◌, length, refl, subst, arith}
use Rattle.patterns.specs.declared.members.Member.{Member}
use Rattle.patterns.specs.declared.text.Text.{Text}
use Rattle.patterns.specs.Classes.{members}
use Rattle.patterns.specs.Marks.{closes}

-- the members' places lie from one place to before another
abbrev pub Between : ℕ → ℕ → List Member → Type 0
Between from to [] = Unit {0}
Between from to (m ∷ ms) = (from ≤ m.place) × (m.place < to) × Between from to ms

-- The members behind the '[' at the place p that come before those left do not end the class.
pub record Searched (p : ℕ) (all left : List Member) (to : ℕ) : Type 0 where
  pub same : closes p all ≡ closes p left
  pub places : Between (p + 1) to left

pub between : (end from : ℕ) (t : List ℕ) → from + length t ≤ end → Between from end (members end t)
between end from [] h = tt
between end from (b ∷ []) h = (omega arith, omega arith, tt)
between end from (b ∷ c ∷ t) h = by (eqb b 92) (between end from t (omega arith)) (between end from (c ∷ t) (omega arith))
  where
    by : (e : Bool) → Between from end (members end t) → Between from end (members end (c ∷ t))
        → Between from end (cond e (record { value = c; place = end - suc (suc (length t)); bare = false } ∷ members end t)
        (record { value = b; place = end - suc (suc (length t)); bare = true } ∷ members end (c ∷ t)))
    by true x y = (omega arith, omega arith, x)
    by false x y = (omega arith, omega arith, y)

-- what stands behind the '[' of a class at the place p
module _ (p : ℕ) (t : List ℕ) (inside : Text) (i : inside.bytes.now ≡ t) (j : inside.place ≡ p + 1) where
  abbrev all : List Member
  all = members (inside.place + length inside.bytes.now) inside.bytes.now

  pub started : Searched p all all (p + 1 + length inside.bytes.now)
  started = record {
    same = refl;
    places = subst (λ n. Between n (p + 1 + length inside.bytes.now) all) j (subst (λ n. Between inside.place n all) (omega arith) (between (inside.place + length inside.bytes.now) inside.place inside.bytes.now (omega arith)));
  }
