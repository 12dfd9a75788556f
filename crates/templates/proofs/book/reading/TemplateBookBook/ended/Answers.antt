use Rattle.states.specs.Sets.{has_rule}
use Rattle.states.proofs.OneByOne.{all_came, gathers_all}
use Rattle.templates.proofs.Made.{rule_of, ended_made}
use Rattle.templates.proofs.book.reading.TemplateBookBook.ended.Goals as goal

pub returns : goal.returns
returns c =
    let met = c.meet.result in
    ended_made c.args.self.now c.args.state met c.loop-p.out c.meet.ensures
    (gathers_all met rule_of (has_rule c.loop-p.out) c.loop-p.yielded
    (all_came met c.into_iter-p-iterator.result (cc) c.loop-p.yielded _ c.loop-p.yielded_by _ _ c.in-None.is c.next.ensures.steps)
    c.loop-p.invariant)
