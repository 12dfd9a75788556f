use Rattle.std.proofs.Common.{string_bytes, subst, rules}
use Rattle.std.specs.Io.KnownBytes.{Appends as Grows}
use Rattle.passes.specs.Places.{place_of}
use Rattle.passes.proofs.Running.{appends_goes, writes_nothing, writes_on}
use Rattle.passes.proofs.script.Script.run_all.Goals as goal

pub loop-reports-init : goal.loop-reports-init
loop-reports-init g c = (writes_nothing (place_of g.S.LineRunner.seen c.args.self.now) _ _, search rules, search rules)

pub returns-then-not-more-clause-goes : goal.returns-then-not-more-clause-goes
returns-then-not-more-clause-goes g c =
    let at = place_of g.S.LineRunner.seen in
    let out = g.O.Write.contents in
    let err = g.E.Write.contents in
    let h = c.loop-reports.invariant in
    let wrote = subst (Grows (out c.loop-reports.out) (out c.write_all.new.self)) c.as_bytes.ensures.value c.in_ok-write_all.ensures.bytes in
    let told = subst (Grows (err c.loop-reports.errors) (err c.write_all-in-loop-reports.new.self)) c.as_bytes-in-loop-reports.ensures.value c.in_ok-write_all-2.ensures.bytes in
    writes_on (at c.args.self.now) (at c.loop-reports.self) (at c.run.new.self) (out c.args.out.now) (out c.loop-reports.out) (out c.write_all.new.self)
    (err c.args.errors.now) (err c.loop-reports.errors) (err c.write_all-in-loop-reports.new.self) (string_bytes c.loop-reports.answers) (string_bytes c.run.new.out)
    (string_bytes c.loop-reports.reports) (string_bytes c.run.new.errors) h.1 h.2 h.0
    (appends_goes (at c.loop-reports.self) (at c.run.new.self) (string_bytes c.loop-reports.answers) (string_bytes c.run.new.out) (string_bytes c.loop-reports.reports) (string_bytes c.run.new.errors) c.in_ok-more.ensures.goes) wrote told

pub loop-reports-preserved : goal.loop-reports-preserved
loop-reports-preserved g c =
    let at = place_of g.S.LineRunner.seen in
    let out = g.O.Write.contents in
    let err = g.E.Write.contents in
    let h = c.loop-reports.invariant in
    let wrote = subst (Grows (out c.loop-reports.out) (out c.write_all.new.self)) c.as_bytes.ensures.value c.in_ok-write_all.ensures.bytes in
    let told = subst (Grows (err c.loop-reports.errors) (err c.write_all-in-loop-reports.new.self)) c.as_bytes-in-loop-reports.ensures.value c.in_ok-write_all-2.ensures.bytes in (
      writes_on (at c.args.self.now) (at c.loop-reports.self) (at c.run.new.self) (out c.args.out.now) (out c.loop-reports.out) (out c.write_all.new.self)
          (err c.args.errors.now) (err c.loop-reports.errors) (err c.write_all-in-loop-reports.new.self) (string_bytes c.loop-reports.answers) (string_bytes c.run.new.out)
          (string_bytes c.loop-reports.reports) (string_bytes c.run.new.errors) h.1 h.2 h.0
          (appends_goes (at c.loop-reports.self) (at c.run.new.self) (string_bytes c.loop-reports.answers) (string_bytes c.run.new.out) (string_bytes c.loop-reports.reports) (string_bytes c.run.new.errors) c.in_ok-more.ensures.goes) wrote told,
      search rules,
      search rules,
    )
