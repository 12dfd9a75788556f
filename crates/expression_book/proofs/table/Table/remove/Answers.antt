use Rattle.expression_book.proofs.Removed.{removal_owned, removal_inside, removal_followed, removal_follows, removal_together}
use Rattle.expression_book.proofs.table.Table.remove.Goals as goal

pub invariant_of-self : goal.invariant_of-self
invariant_of-self c =
    let a = c.args.self.now in
    let r = c.args.rule.number in
    let is = c.positions-gone.ensures in
    let gone = c.positions-gone.result in
    let live = c.without-self.result in
    let rows = c.clear.new.rows in
    let lives = c.without-self.ensures in
    let cleared = c.clear.ensures.cleared in
    let kept = c.clear.ensures.kept in
    record {
      long = c.clear.ensures.size;
      owned = λ p h. rw c.remove.ensures (removal_owned a r rows gone live is lives cleared kept p h);
      starting = removal_inside a r rows gone live is lives cleared kept a.start c.without-self-2.result a.starting c.without-self-2.ensures;
      ending = removal_inside a r rows gone live is lives cleared kept a.ends c.without-self-3.result a.ending c.without-self-3.ensures;
      followed = removal_followed a r rows gone live is lives cleared kept;
      follows = removal_follows a r rows gone live is lives cleared kept;
      together = removal_together a r rows gone live is lives cleared kept;
    }
