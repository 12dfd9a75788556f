use Rattle.std.proofs.Common.{rules, refl, ◌||◌}
use lib.Bits.{bit_or}
use Rattle.states.proofs.Digits.{bit_or_digit}
use Rattle.states.proofs.Members.{has_op}
use Rattle.states.proofs.set.Set.union.Goals as goal

pub returns : goal.returns
returns g c = has_op bit_or (λ x y. x || y) (λ x y p _ _ _. bit_or_digit x y p) refl c.args.self c.args.other c.by_words.result (λ k l. search (rules, c.by_words.ensures k l))
