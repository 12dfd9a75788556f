use Rattle.readings.proofs.Example.{repeated}
use Rattle.readings.proofs.repeated_history_steps.Goals as goal

pub returns : goal.returns
returns c = repeated
