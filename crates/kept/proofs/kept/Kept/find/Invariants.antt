use Rattle.std.proofs.Common.{◌≡◌, drop}
use Rattle.kept.specs.Steps.{found}
use Rattle.kept.specs.Tables.{steps}
use Rattle.kept.proofs.kept.Kept.find.Given as goal

-- what is found from place i on is what is found in all
abbrev pub invariant-loop-i : goal.invariant-loop-i
invariant-loop-i l = found (drop l.i (steps l.self)) l.state l.code ≡ found (steps l.self) l.state l.code
