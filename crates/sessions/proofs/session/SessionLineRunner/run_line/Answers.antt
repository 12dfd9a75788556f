use Rattle.std.proofs.Common.{ℕ, List, Ok, Err, string_bytes, Result, inr, MatchResult}
use Rattle.lines.specs.Lines.{Spells}
use Rattle.lines.specs.declared.command.Command.{Command}
use Rattle.lines.proofs.Decoding.{spells_decodable}
use Rattle.passes.specs.Runs.{Answers, Misses}
use Rattle.passes.specs.declared.fault.Fault.{Fault}
use Rattle.passes.specs.declared.fault.Fault.TheVariants.{Malformed, NoMemory}
use Rattle.sessions.specs.Sessions.{Lacks, Runs, RunsLine, Unfit}
use Rattle.sessions.specs.Views.{here_of}
use Rattle.sessions.specs.declared.session.Session.{Session}
use Rattle.sessions.proofs.session.SessionLineRunner.run_line.Goals as goal

-- what is answered of a command is answered of the line that spells it
spelled : (line : List ℕ) (c : Command) (s t : Session) (before after : List ℕ) (r : Result (Unit {0}) Fault) → Spells line c →
    MatchResult r (λ _. Answers (Runs c (here_of s) (here_of t)) before after) (λ f. Misses (Lacks c (here_of s)) f s t before after) →
    MatchResult r (λ _. Answers (RunsLine line (here_of s) (here_of t)) before after) (λ f. Misses (Unfit line (here_of s)) f s t before after)
spelled line c s t before after (Ok x) h k = (k.0, k.1, (c, h, k.2))
spelled line c s t before after (Err (Malformed x)) h k = (inr (c, h, k.0), k.1, k.2)
spelled line c s t before after (Err NoMemory) h k = tt

pub run-requires : goal.run-requires
run-requires c = spells_decodable c.args.line.now c.in_ok-command.command c.in_ok-command.ensures

pub returns : goal.returns
returns c =
    spelled c.args.line.now c.in_ok-command.command c.args.self.now c.run.new.self (string_bytes c.args.out.now) (string_bytes c.run.new.out) c.run.result
    c.in_ok-command.ensures c.run.ensures
