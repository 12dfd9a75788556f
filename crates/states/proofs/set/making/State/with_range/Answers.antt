use Rattle.std.proofs.Common.{◌≡◌, ℕ, ◌+◌, ◌<◌, ◌≤◌, Bool, ◌&&◌, ◌||◌, eqb, ltb, leb, ◌∙◌, arith}
use Rattle.std.proofs.lemmas.Bool.Decides.{nat_tests}
use Rattle.states.specs.Sets.{has}
use Rattle.states.proofs.set.making.State.with_range.Goals as goal

module _ (a : Bool) (low high p : ℕ) where
  -- n comes in too
  with_next : (b r : Bool) (n : ℕ) → low ≤ n → n ≤ high → b ≡ (a || (leb low p && leb p high && ltb p n)) → r ≡ (b || eqb p n)
      → r ≡ (a || (leb low p && leb p high && ltb p (n + 1)))
  with_next b r n l h e f = grind (arith, nat_tests)

  -- behind the last one all are in
  with_all : (n : ℕ) → high < n → (a || (leb low p && leb p high && ltb p n)) ≡ (a || (leb low p && leb p high))
  with_all n h = grind (arith, nat_tests)

pub loop-at-preserved : goal.loop-at-preserved
loop-at-preserved c p =
    with_next (has c.args.self p) c.args.low c.args.high p _ _ c.loop-at.at c.loop-at.auto.at c.loop-at-test.true
    (c.loop-at.invariant p) (c.with-out.ensures.alone (omega arith) p)

pub returns : goal.returns
returns c p = c.loop-at.invariant p ∙ with_all (has c.args.self p) c.args.low c.args.high p c.loop-at.at c.loop-at-test.false

pub returns-2 : goal.returns-2
returns-2 c p =
    with_next (has c.args.self p) c.args.low c.args.high p _ _ c.loop-at.at c.loop-at.auto.at c.loop-at-test.true
    (c.loop-at.invariant p) (c.with-out.ensures.alone (omega arith) p)
    ∙ with_all (has c.args.self p) c.args.low c.args.high p (c.loop-at.at + 1) (omega arith)
