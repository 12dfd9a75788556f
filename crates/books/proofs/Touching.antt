-- When a state holds a position of a rule. Assumes nothing.
use Rattle.std.proofs.Common.{◌≡◌, ℕ, Bool, true, false, Decides, refl}
use Rattle.std.proofs.lemmas.Bool.{both_ways}
use Rattle.states.specs.Sets.{State, has}
use Rattle.states.proofs.Members.{some_member}
use Rattle.books.specs.Meaning.{Meaning, is, touches}

-- what fails of the second fails of the first
pub fails : (x y : Bool) → (x ≡ true → y ≡ true) → y ≡ false → x ≡ false
fails true y h e = absurd (both_ways y e (h refl))
fails false y h e = refl

-- s holds a position of rule r
pub touched : (m : Meaning) (r : ℕ) (s : State) → Decides (touches m r s) ((p : ℕ) × (has s p ≡ true) × (is (m.owner p) r ≡ true))
unfolding touches
touched m r s = some_member s (λ p. is (m.owner p) r)
