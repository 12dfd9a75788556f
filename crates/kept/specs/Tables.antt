-- What a table holds.
use Rattle.std.specs.Prelude.{List, vec_items}
use Rattle.kept.specs.Steps.{Step, zipped}
use Rattle.kept.specs.declared.kept.Kept.{Kept}

-- the kept steps, in the order in which they were kept
unfoldable pub steps : Kept → List Step
steps t = zipped (vec_items t.codes) (vec_items t.moves)
