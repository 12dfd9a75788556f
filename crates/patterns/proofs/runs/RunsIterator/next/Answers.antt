use Rattle.std.proofs.Common.{sym, ◌∙◌, arith, rules}
use Rattle.patterns.proofs.Running.{next_run, last_run, no_run}
use Rattle.patterns.proofs.runs.RunsIterator.next.Goals as goal

pub returns-in_err-low-clause-steps : goal.returns-in_err-low-clause-steps
returns-in_err-low-clause-steps c =
    let e = no_run c.args.self.now.0 (c.in_err-low.ensures.0) in search rules

pub returns-else-holds-clause-steps : goal.returns-else-holds-clause-steps
returns-else-holds-clause-steps c =
    next_run _ _ _ _ c.loop-high.invariant.0 (omega arith) (sym c.holds.ensures ∙ c.if-holds.false)

pub returns-else-holds-clause-goes : goal.returns-else-holds-clause-goes
returns-else-holds-clause-goes c = let e = returns-else-holds-clause-steps c in search rules

pub returns-after-loop-high-clause-steps : goal.returns-after-loop-high-clause-steps
returns-after-loop-high-clause-steps c = last_run _ _ _ _ c.loop-high.invariant.0 (omega (arith, c.loop-high.invariant.1, c.loop-high-test.false))

pub returns-after-loop-high-clause-goes : goal.returns-after-loop-high-clause-goes
returns-after-loop-high-clause-goes c = let e = returns-after-loop-high-clause-steps c in search rules
