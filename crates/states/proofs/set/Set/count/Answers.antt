use Rattle.std.proofs.Common.{refl, ap, ◌∙◌, arith, ◌+◌, ◌*◌, ◌≡◌, ℕ, get_or}
use lib.Count.{ones}
use Rattle.states.specs.Sets.{has}
use Rattle.states.specs.Words.{tally}
use Rattle.states.proofs.Digits.{tally_below}
use Rattle.states.proofs.Members.{count_word}
use Rattle.states.proofs.set.Set.count.Goals as goal

pub loop-word-init : goal.loop-word-init
unfolding tally
loop-word-init g c = refl

pub overflow_add-count : goal.overflow_add-count
overflow_add-count g c =
    let s = c.args.self in
    let k = c.loop-word.word-index in
    omega (arith, g.bound-1.small, s.long, count_word s k, tally_below (has s) (64 * (k + 1)), c.loop-word.invariant)

pub loop-word-preserved : goal.loop-word-preserved
loop-word-preserved g c =
    ap (λ (x : ℕ). x + ones (get_or c.args.self.words c.loop-word.word-index 0)) c.loop-word.invariant ∙ count_word c.args.self c.loop-word.word-index

pub returns : goal.returns
returns g c = let e : c.loop-word.word-index ≡ g.row.WORDS = omega arith in c.loop-word.invariant ∙ ap (λ (k : ℕ). tally (has c.args.self) (64 * k)) e
