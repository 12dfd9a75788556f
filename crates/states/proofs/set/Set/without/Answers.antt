use Rattle.std.proofs.Common.{rules, ◌&&◌, not, refl, w64}
use lib.Bits.{bit_and}
use Rattle.states.proofs.Digits.{bit_without}
use Rattle.states.proofs.Members.{has_op}
use Rattle.std.specs.Int.{bit_not}
use Rattle.states.proofs.set.Set.without.Goals as goal

pub returns : goal.returns
returns g c =
    has_op (λ x y. bit_and x (bit_not w64 y)) (λ x y. x && not y) bit_without refl c.args.self c.args.other c.by_words.result
    (λ k l. search (rules, c.by_words.ensures k l))
