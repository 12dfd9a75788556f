-- Steps from state to state, and lists of them in which no state and code come twice.
use Rattle.std.specs.Prelude.{ℕ, Bool, true, cond, not, ◌&&◌, ◌||◌, List, [], ◌∷◌, ◌++◌, length, map, is_some, Some, None, Option, ◌==◌, nat_le}
use Rattle.std.specs.List.{zip}
use Rattle.kept.specs.declared.kept.Move.{Move}
use Rattle.states.specs.Sets.{State}
use Rattle.states.specs.Sets.{same}

-- From `state` the code leads to `next`.
pub record Step : Type 0 where
  pub state : State
  pub code : ℕ
  pub next : State

abbrev pub step : State → ℕ → State → Step
step s c n = record { state = s; code = c; next = n }

-- k is a step from s by c
abbrev pub from : Step → State → ℕ → Bool
from k s c = same k.state s && k.code == c

-- where the first step from s by c leads, if there is one
unfoldable pub found : List Step → State → ℕ → Option State
found [] s c = None
found (k ∷ ks) s c = cond (from k s c) (Some k.next) (found ks s c)

-- no two steps are from the same state by the same code
unfoldable pub distinct : List Step → Bool
distinct [] = true
distinct (k ∷ ks) = not (is_some (found ks k.state k.code)) && distinct ks

-- how many steps are kept at most
abbrev pub most : ℕ
most = 512

-- k goes to the end of ks, unless a step from its state by its code is there already, or ks is full
unfoldable pub keep : List Step → Step → List Step
keep ks k = cond (is_some (found ks k.state k.code) || nat_le most (length ks)) ks (ks ++ k ∷ [])

-- the steps whose codes stand in one list, and their states in another
unfoldable pub zipped : List ℕ → List Move → List Step
zipped cs ms = map (λ p. step p.1.state p.0 p.1.next) (zip cs ms)
