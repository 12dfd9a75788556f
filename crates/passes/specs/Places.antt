-- A script that is run, as its callers see it.
use Rattle.std.specs.Option.{option_map}
use Rattle.passes.specs.declared.script.Script.{Script}
use Rattle.passes.specs.Scripts.{Place}

-- how far a script was run
abbrev pub place_of : {S V : Type 0} → (S → V) → Script S → Place V
place_of seen s = record { here = seen s.runner; rest = option_map (λ x. x.now) s.rest; line = s.line; malformed = s.malformed }
