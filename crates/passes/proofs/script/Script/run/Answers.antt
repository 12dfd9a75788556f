use Rattle.std.proofs.Common.{◌≡◌, [], string_bytes, sym, ◌∙◌, rules}
use Rattle.std.specs.String.{string_len}
use Rattle.std.proofs.lemmas.Bool.{eqb-true}
use Rattle.std.proofs.lemmas.List.{nil_from_length}
use Rattle.passes.specs.Places.{place_of}
use Rattle.passes.proofs.Running.{quiet_nowhere, quiet_on, quiet_last, quiet_end, goes_passes_less}
use Rattle.passes.proofs.script.Script.run.Goals as goal

pub loop-self-init : goal.loop-self-init
loop-self-init g c = quiet_nowhere (place_of g.S.LineRunner.seen c.args.self.now) (string_bytes c.args.out.now) (string_bytes c.args.errors.now)

pub loop-self-preserved : goal.loop-self-preserved
loop-self-preserved g c =
    let at = place_of g.S.LineRunner.seen in
    let empty : string_len c.pass.new.errors ≡ 0 = eqb-true _ _ (sym c.is_empty.ensures ∙ c.if-not-is_empty.false) in
    let none : string_bytes c.pass.new.errors ≡ [] = nil_from_length _ (search (empty, rules)) in
    quiet_on (at c.args.self.now) (at c.loop-self.self) (at c.pass.new.self) (string_bytes c.args.out.now) (string_bytes c.loop-self.out) (string_bytes c.pass.new.out)
    (string_bytes c.args.errors.now) (string_bytes c.loop-self.errors) (string_bytes c.pass.new.errors) c.loop-self.invariant c.in_ok-pass.ensures none

pub returns-then-len-ge-FULL-clause-less : goal.returns-then-len-ge-FULL-clause-less
returns-then-len-ge-FULL-clause-less g c = λ _.
    let at = place_of g.S.LineRunner.seen in
    let h = c.loop-self.invariant in
    let k = c.in_ok-pass.ensures in
    goes_passes_less (at c.args.self.now) (at c.loop-self.self) (at c.pass.new.self) h.0 k.0 h.3.0 k.3

pub returns-then-len-ge-FULL-clause-goes : goal.returns-then-len-ge-FULL-clause-goes
returns-then-len-ge-FULL-clause-goes g c =
    let at = place_of g.S.LineRunner.seen in
    quiet_last (at c.args.self.now) (at c.loop-self.self) (at c.pass.new.self) (string_bytes c.args.out.now) (string_bytes c.loop-self.out) (string_bytes c.pass.new.out)
    (string_bytes c.args.errors.now) (string_bytes c.loop-self.errors) (string_bytes c.pass.new.errors) c.loop-self.invariant c.in_ok-pass.ensures

pub returns-clause-goes : goal.returns-clause-goes
returns-clause-goes g c =
    let at = place_of g.S.LineRunner.seen in
    quiet_end (at c.args.self.now) (at c.loop-self.self) (string_bytes c.args.out.now) (string_bytes c.loop-self.out) (string_bytes c.args.errors.now) (string_bytes c.loop-self.errors) c.loop-self.invariant
