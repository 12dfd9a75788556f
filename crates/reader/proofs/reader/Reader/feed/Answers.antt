use Rattle.std.proofs.Common.{sym}
use Rattle.readings.proofs.Bare.{reads_bare}
use Rattle.readings.proofs.Onward.{feed_step, feed_empty}
use Rattle.reader.proofs.Feeds.{same_feed}
use Rattle.reader.proofs.reader.Reader.feed.Goals as goal

pub returns-then-is_empty-clause-meant : goal.returns-then-is_empty-clause-meant
returns-then-is_empty-clause-meant g c =
    let own = c.in_ok-walk.ensures in
    reads_bare (g.met.B.Book.lawful _) c.args.self.now.sound own.1.1
    (same_feed own.0 (feed_empty _ _ _ _ c.args.self.now.fits (sym c.if-is_empty.ensures.value)))

pub returns-clause-meant : goal.returns-clause-meant
returns-clause-meant g c =
    let own = c.in_ok-walk.ensures in
    reads_bare (g.met.B.Book.lawful _) c.args.self.now.sound own.1.1
    (same_feed own.0 (feed_step c.step-taken.ensures.works c.step-taken.ensures.state (sym c.if-is_empty.ensures.value)))
