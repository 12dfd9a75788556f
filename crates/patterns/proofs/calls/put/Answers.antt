use Rattle.std.proofs.Common.{[], refl, rules, sym, ◌∙◌}
use Rattle.patterns.specs.Reading.{closed}
use Rattle.patterns.proofs.Wholes.{whole_read, whole_unbalanced}
use Rattle.patterns.proofs.calls.put.Goals as goal

pub returns-in-empty : goal.returns-in-empty
returns-in-empty c =
    let x = c.in_ok-rest.ensures in
    let same = sym (x.0.puts.same ∙ c.new-sink.ensures.same_buffer) in
    let held = x.0.puts.puts c.args.buffer.now [] c.new-sink.ensures.nothing in
    (closed x.0.level, whole_read c.args.text.now _ refl refl c.if-text-gt-LONGEST.false _ _ c.in_ok-rest.rest x c.in-empty.len_below, search (rules, held.bytes), held.many)

pub returns-else-rest-lt1 : goal.returns-else-rest-lt1
returns-else-rest-lt1 c = whole_unbalanced c.args.text.now _ refl refl c.if-text-gt-LONGEST.false _ _ c.in_ok-rest.rest c.in_ok-rest.ensures (search rules)
