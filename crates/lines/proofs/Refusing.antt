-- What is refused behind a `?`.
use Rattle.std.proofs.Common.{◌≡◌, IsErrAnd, Ok, Err, Result, sym, subst, MatchResult}

pub err_by : {X E : Type 0} (P : X → Type 0) (Q : E → Type 0) (e : E) (r : Result X E) → IsErrAnd r (λ y. y ≡ e) → Q e → MatchResult r P Q
err_by P Q e (Ok x) h q = absurd h
err_by P Q e (Err y) h q = subst Q (sym h) q
