use Rattle.std.proofs.lemmas.Slice.Eq.{slice_eq-Decides}
use Rattle.alike.proofs.Agreeing.{alike}
use Rattle.alike.proofs.Sights.{equality_decides}
use Rattle.alike.proofs.comparing.agree.Goals as goal

pub returns : goal.returns
returns c =
    let same = slice_eq-Decides equality_decides c.args.first.now c.args.second.now c.eq.result c.eq.ensures in
    record { same = same; equality = equality_decides; alike = alike c.args.first.now c.args.second.now c.eq.result same }
