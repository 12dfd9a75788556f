use Rattle.std.proofs.Common.{w8}
use Rattle.std.proofs.Math.Facts.{Fits-lt-pow}
use Rattle.patterns.proofs.RuleTexts.{by_grammar}
use Rattle.patterns.proofs.calls.commands.Goals as goal

pub returns-in_err-length-clause-grammar : goal.returns-in_err-length-clause-grammar
returns-in_err-length-clause-grammar c = by_grammar c.args.text.now (λ k l. Fits-lt-pow {w = w8} (c.type_inv.text k))

pub returns-then-length-buffer-clause-grammar : goal.returns-then-length-buffer-clause-grammar
returns-then-length-buffer-clause-grammar c = by_grammar c.args.text.now (λ k l. Fits-lt-pow {w = w8} (c.type_inv.text k))

pub returns-clause-grammar : goal.returns-clause-grammar
returns-clause-grammar c = by_grammar c.args.text.now (λ k l. Fits-lt-pow {w = w8} (c.type_inv.text k))
