use Rattle.std.proofs.Common.{◌∷◌, ◌++◌, codes, sym, ap, ◌∙◌, rules}
use Rattle.std.proofs.Output.{has_written_append, has_written_of_eq}
use Rattle.states.proofs.OneByOne.{all_came}
use Rattle.states.specs.Sets.{members}
use Rattle.answers.specs.Texts.{listed, trailed}
use Rattle.answers.proofs.Writing.{one_behind}
use Rattle.answers.proofs.rules.ListedDisplay.fmt.Goals as goal

pub loop-rule-preserved : goal.loop-rule-preserved
loop-rule-preserved g c = λ p.
    let text = g.I.Item.text c.args.self.now.item in
    let n = c.in-Some-rule.rule in
    has_written_of_eq _ _ _ _ _ (one_behind (codes ",") text (text c.in-Some.lowest) c.loop-rule.yielded n)
    (has_written_append _ _ _ _ (44 ∷ text n) _ (c.loop-rule.invariant p) (search rules))

pub returns-clause-writes : goal.returns-clause-writes
returns-clause-writes g c = λ p ok.
    let text = g.I.Item.text c.args.self.now.item in
    let first = c.in-Some.lowest in
    let rest = c.next.new.self in
    let came = all_came rest.rest c.into_iter-rule-iterator.result (ap (λ i. i.rest) c.into_iter-rule-iterator.ensures.into_iter_gives) c.loop-rule.yielded _ c.loop-rule.yielded_by _ _ c.in-None.is c.next-in-loop-rule.ensures.steps in
    let whole = ap members (sym c.members-rules.ensures) ∙ c.in-Some.ensures.steps in
    has_written_of_eq _ _ _ _ _ (ap (λ xs. text first ++ trailed (codes ",") text xs) came ∙ ap (listed text) (sym whole)) (c.loop-rule.invariant p)
