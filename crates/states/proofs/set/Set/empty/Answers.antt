use Rattle.std.proofs.lemmas.List.{get_or-replicate}
use Rattle.states.proofs.Members.{has_none}
use Rattle.states.proofs.set.Set.empty.Goals as goal

pub returns : goal.returns
returns g c = has_none _ (λ k l. get_or-replicate g.row.WORDS k 0 0 l)
