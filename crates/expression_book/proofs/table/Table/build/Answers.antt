use Rattle.std.proofs.Common.{◌≡◌, ◌<◌, ◌≤◌, length, reverse, sym, ap, ◌∙◌, arith, rules}
use Rattle.std.proofs.lemmas.List.{length-reverse}
use Rattle.expression_book.specs.Parts.{stacked}
use Rattle.expression_book.proofs.Underway.{ready, accepted, turned_by, underway_none, underway_more}
use Rattle.expression_book.proofs.table.Table.build.Goals as goal

pub loop-rest-init : goal.loop-rest-init
loop-rest-init c =
    underway_none c.args.last c.args.bytes.now c.args.rule c.args.self.now (stacked c.new-waiting.result) (ap reverse c.new-waiting.ensures) c.requires.roomy

pub unwrap-command-requires : goal.unwrap-command-requires
unwrap-command-requires c =
    let some : 0 < length c.loop-rest.rest.now = search rules in
    let many : c.len.result ≡ length (stacked c.loop-rest.waiting) = c.len.ensures.value ∙ sym (length-reverse c.loop-rest.waiting.items) in
    accepted c.args.last c.args.bytes.now c.args.rule c.args.self.now c.loop-rest.rest.now (stacked c.loop-rest.waiting) c.loop-rest.self
    c.len.result c.loop-rest.invariant many some c.step.result c.step.ensures

pub obey-requires : goal.obey-requires
obey-requires c =
    let ps = stacked c.loop-rest.waiting in
    let some : 0 < length c.loop-rest.rest.now = search rules in
    let many : c.len.result ≡ length ps = c.len.ensures.value ∙ sym (length-reverse c.loop-rest.waiting.items) in
    let most : length ps ≤ 40 = omega (arith, c.len.ensures.fits) in
    let x = c.unwrap-command.result in
    let on = turned_by c.args.last c.args.bytes.now c.args.rule c.args.self.now c.loop-rest.rest.now ps c.loop-rest.self c.len.result
    c.loop-rest.invariant many some c.step.result c.step.ensures x c.unwrap-command.ensures in
    ready c.args.last c.args.bytes.now c.args.rule c.args.self.now c.loop-rest.rest.now ps c.loop-rest.self x.0 x.1.now c.loop-rest.invariant most
    c.requires.force on

pub loop-rest-preserved : goal.loop-rest-preserved
loop-rest-preserved c =
    let ps = stacked c.loop-rest.waiting in
    let u = c.loop-rest.invariant in
    let some : 0 < length c.loop-rest.rest.now = search rules in
    let many : c.len.result ≡ length ps = c.len.ensures.value ∙ sym (length-reverse c.loop-rest.waiting.items) in
    let x = c.unwrap-command.result in
    let on = turned_by c.args.last c.args.bytes.now c.args.rule c.args.self.now c.loop-rest.rest.now ps c.loop-rest.self c.len.result u many some
    c.step.result c.step.ensures x c.unwrap-command.ensures in
    underway_more c.args.last c.args.bytes.now c.args.rule c.args.self.now c.loop-rest.rest.now ps (stacked c.obey.new.waiting) c.loop-rest.self
    c.obey.new.self x.0 x.1.now u on (c.obey.ensures.built c.args.self.now u.waits u.built) c.obey.ensures.count
