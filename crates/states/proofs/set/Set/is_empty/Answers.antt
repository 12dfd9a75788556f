use Rattle.std.proofs.Common.{◌∙◌}
use Rattle.states.specs.Sets.{is_empty}
use Rattle.states.proofs.Members.{zeroes, is_empty_decides}
use Rattle.states.proofs.set.Set.is_empty.Goals as goal

pub returns-clause-value : goal.returns-clause-value
unfolding is_empty
returns-clause-value g c = c.eq.ensures ∙ zeroes g.row.WORDS c.args.self.words c.args.self.long

pub returns-clause-members : goal.returns-clause-members
returns-clause-members g c = is_empty_decides c.args.self c.eq.result (returns-clause-value g c)
