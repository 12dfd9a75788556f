use Rattle.std.proofs.Common.{ℕ, ◌/◌, ◌%◌, ◌^◌, eqb, get_or, sym, ap, ◌∙◌, arith}
use lib.Bits.{bit_and}
use Rattle.std.proofs.lemmas.Bool.{le-ltb}
use Rattle.states.proofs.Digits.{bit_tested}
use Rattle.states.proofs.Members.{has_word, has_above}
use Rattle.states.proofs.set.Set.holds.Goals as goal

pub returns-then-k : goal.returns-then-k
returns-then-k g c =
    let at = c.args.at in
    ap (λ (k : ℕ). eqb (bit_and (get_or c.args.self.words k 0 / 2 ^ (at % 64)) 1) 1) c.from-k.ensures
    ∙ bit_tested (get_or c.args.self.words (at / 64) 0) (at % 64) ∙ sym (has_word c.args.self at)

pub returns-else-k : goal.returns-else-k
returns-else-k g c = le-ltb _ _ c.if-k.false ∙ sym (has_above c.args.self c.args.at (omega arith))
