use Rattle.std.proofs.Common.{◌≡◌, refl}
use Rattle.kept.specs.Steps.{keep}
use Rattle.kept.specs.Tables.{steps}
use Rattle.readings.specs.Runs.{meant}
use Rattle.readings.proofs.Bare.{asked_live, asked_right}
use Rattle.readings.proofs.Steps.{asked_works}
use Rattle.reader.specs.View.{view}
use Rattle.reader.proofs.reader.Reader.work_out.Goals as goal

pub returns-clause-works : goal.returns-clause-works
returns-clause-works g c =
    let v = view c.args.self.now in
    let code = g.B.Symbol.Symbol.code c.args.symbol in
    let kept : steps c.keep.new.self ≡ keep v.kept (meant v.book.meaning (c.args.state, code)) = cc in
    asked_works v _ c.args.state code c.requires.new c.next-next.ensures.after kept refl c.saturating_add-self.ensures

pub returns-clause-live : goal.returns-clause-live
returns-clause-live g c = asked_live (view c.args.self.now).book c.args.state _ (g.met.B.Book.lawful _) c.next-next.ensures.after c.next-next.ensures.value

pub invariant_of-self-clause-sound : goal.invariant_of-self-clause-sound
invariant_of-self-clause-sound g c =
    let v = view c.args.self.now in
    let code = g.B.Symbol.Symbol.code c.args.symbol in
    let kept : steps c.keep.new.self ≡ keep v.kept (meant v.book.meaning (c.args.state, code)) = cc in
    asked_right v.book c.args.state code v.kept c.requires.live c.args.self.now.sound c.next-next.ensures.after kept
