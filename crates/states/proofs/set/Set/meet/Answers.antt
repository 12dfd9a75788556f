use Rattle.std.proofs.Common.{rules, refl, ◌&&◌}
use lib.Bits.{bit_and}
use Rattle.states.proofs.Digits.{bit_and_digit}
use Rattle.states.proofs.Members.{has_op}
use Rattle.states.proofs.set.Set.meet.Goals as goal

pub returns : goal.returns
returns g c = has_op bit_and (λ x y. x && y) (λ x y p _ _ _. bit_and_digit x y p) refl c.args.self c.args.other c.by_words.result (λ k l. let h = c.by_words.ensures k l in search rules)
