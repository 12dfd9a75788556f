-- Two facts of what was made, in one. Assumes nothing.
use Rattle.std.proofs.Common.{IfOk, Ok, Err, Result}

pub made_both : {X Y : Type 0} (r : Result X Y) (P Q : X → Type 0) → IfOk r P → IfOk r Q → IfOk r (λ x. P x × Q x)
made_both (Ok x) P Q p q = (p, q)
made_both (Err y) P Q p q = tt
