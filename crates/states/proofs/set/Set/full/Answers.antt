use Rattle.std.proofs.lemmas.List.{get_or-replicate}
use Rattle.states.proofs.Members.{has_all}
use Rattle.states.proofs.set.Set.full.Goals as goal

pub returns : goal.returns
returns g c = has_all _ (λ k l. get_or-replicate g.row.WORDS k 18446744073709551615 0 l)
