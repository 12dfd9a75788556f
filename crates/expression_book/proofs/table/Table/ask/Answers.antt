use Rattle.std.proofs.Common.{◌+◌, ◌<◌, ◌≤◌, Ok, sym, ◌∙◌, arith}
use Rattle.states.specs.Sets.{has}
use Rattle.states.proofs.Digits.{tally_below}
use Rattle.expressions.specs.Rules.{live, needed}
use Rattle.expression_book.specs.Tables.{table_meaning}
use Rattle.expression_book.proofs.Asked.{new_asked, counted_asked, room_yes, room_no}
use Rattle.expression_book.proofs.Added.{live_size}
use Rattle.expression_book.proofs.table.Table.ask.Goals as goal

pub overflow_sub-count : goal.overflow_sub-count
overflow_sub-count c = omega (arith, c.count.ensures, tally_below (has c.args.self.now.live) 256)

pub returns-then-symbols-count-clause-answer : goal.returns-then-symbols-count-clause-answer
returns-then-symbols-count-clause-answer c =
    let m = table_meaning c.args.self.now in
    let n = c.in_ok-symbols.symbols in
    let many : 256 < live m + needed n = omega (arith, live_size c.args.self.now, c.count.ensures) in
    new_asked c.args.last m c.args.rule c.args.kind c.args.bytes.now _ c.in_ok-rule.ensures.answer
    (sym (room_no m n many) ∙ counted_asked c.args.last m c.args.bytes.now (Ok n) (omega arith) c.in_ok-symbols.ensures.answer)

pub returns-clause-answer : goal.returns-clause-answer
returns-clause-answer c =
    let m = table_meaning c.args.self.now in
    let n = c.in_ok-symbols.symbols in
    let few : live m + needed n ≤ 256 = omega (arith, live_size c.args.self.now, c.count.ensures) in
    new_asked c.args.last m c.args.rule c.args.kind c.args.bytes.now _ c.in_ok-rule.ensures.answer
    (sym (room_yes m n few) ∙ counted_asked c.args.last m c.args.bytes.now (Ok n) (omega arith) c.in_ok-symbols.ensures.answer)
