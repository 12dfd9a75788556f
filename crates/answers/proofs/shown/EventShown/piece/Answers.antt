use Rattle.std.proofs.Common.{Some, sym, ap}
use Rattle.symbols.proofs.Texts.{words_of_code}
use Rattle.answers.specs.Texts.{event_text}
use Rattle.answers.proofs.shown.EventShown.piece.Goals as goal

pub returns : goal.returns
unfolding event_text
returns c = ap Some (sym (words_of_code c.args.self))
