use Rattle.std.proofs.Common.{[], refl, subst}
use Rattle.patterns.specs.Buffers.{Adds}
use Rattle.patterns.proofs.Written.{put_more}
use Rattle.patterns.proofs.runs.put_runs.Goals as goal

pub loop-run-init : goal.loop-run-init
loop-run-init c = record {
  last = c.args.first;
  before = [];
  all = refl;
  put = subst (λ w. Adds c.args.sink.now w c.extend.new.self) c.command.ensures c.extend.ensures;
}

pub loop-run-preserved : goal.loop-run-preserved
loop-run-preserved c =
    put_more c.loop-run.invariant c.in-Some.ensures.steps
    (subst (λ w. Adds c.loop-run.sink w c.extend-in-loop-run.new.self) c.command-in-loop-run.ensures c.extend-in-loop-run.ensures) c.push.ensures
