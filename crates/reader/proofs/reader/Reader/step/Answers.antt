use Rattle.std.proofs.Common.{◌≡◌, Some, sym, subst}
use Rattle.books.specs.Meaning.{Within}
use Rattle.kept.specs.Steps.{found}
use Rattle.readings.proofs.Bare.{goes_live}
use Rattle.readings.proofs.Steps.{kept_goes, kept_works}
use Rattle.reader.specs.View.{view}
use Rattle.reader.proofs.reader.Reader.step.Goals as goal

pub returns-in-Some-clause-works : goal.returns-in-Some-clause-works
returns-in-Some-clause-works g c =
    let v = view c.args.self.now in
    let code = g.B.Symbol.Symbol.code c.args.symbol in
    let e : found v.kept c.args.state code ≡ Some c.in-Some.next = cc in
    kept_works v c.args.state code _ c.args.self.now.fits e

pub returns-in-Some-clause-live : goal.returns-in-Some-clause-live
returns-in-Some-clause-live g c =
    let v = view c.args.self.now in
    let code = g.B.Symbol.Symbol.code c.args.symbol in
    let e : found v.kept c.args.state code ≡ Some c.in-Some.next = cc in
    subst (Within v.book.meaning) (sym (kept_goes v c.args.state code c.requires.some _ e)) (goes_live v (g.met.B.Book.lawful _) c.args.self.now.sound c.args.state code)
