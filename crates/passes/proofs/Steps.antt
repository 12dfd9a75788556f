-- What a step that may fail leaves.
use Rattle.std.proofs.Common.{Ok, Err, OnOk, Result}

pub on_ok_map : {T E P Q : Type 0} (r : Result T E) → (P → Q) → OnOk r P → OnOk r Q
on_ok_map (Ok x) f p = f p
on_ok_map (Err e) f p = tt
