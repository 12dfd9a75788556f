-- What `==` says of two sights.
use Rattle.std.specs.Prelude.{◌≡◌, Decides}
use Rattle.alike.specs.declared.sight.Sight.{Sight}
use Rattle.alike.specs.contracts.sight.SightPartialEq.TheImpl.{ghosts as sight_eq}

-- `==`, which is derived, answers true exactly where the sights are the same
abbrev pub EqualityDecides : Type 0
EqualityDecides = (a b : Sight) → Decides (sight_eq.eq a b) (a ≡ b)
