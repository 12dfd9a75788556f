use Rattle.std.proofs.Common.{◌+◌, length, subst, sym}
use Rattle.patterns.specs.Classes.{members_left}
use Rattle.patterns.proofs.Ends.{Searched, started}
use Rattle.patterns.proofs.marks.class_body.Goals as goal

pub loop-member-init : goal.loop-member-init
loop-member-init c =
    subst (λ m. Searched c.args.text.place (members_left m) (members_left m) (c.args.text.place + 1 + length c.skip-inside.result.bytes.now)) (sym c.into_iter-member-iterator.ensures.into_iter_gives)
    (started c.args.text.place _ c.skip-inside.result c.skip-inside.ensures.bytes c.skip-inside.ensures.place)
