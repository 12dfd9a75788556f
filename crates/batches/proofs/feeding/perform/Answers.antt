use Rattle.std.proofs.Common.{◌<◌, length, sym, ap, ◌∙◌, ap₂, arith}
use Rattle.batches.specs.Records.{ask_of, lines_of}
use Rattle.batches.specs.Records.Ask.{add, delete}
use Rattle.batches.specs.Runs.Ran.{adds, deletes}
use Rattle.batches.proofs.Denoted.{add_denoting, delete_denoting}
use Rattle.batches.proofs.Running.{line_more, change_more}
use Rattle.batches.proofs.feeding.perform.Goals as goal

pub returns-in-Line-clause-runs : goal.returns-in-Line-clause-runs
returns-in-Line-clause-runs c = λ buffer v asks at runs.
    let is = ap ask_of c.in-Line.is in
    let room : c.args.done.now.lines < length c.args.masks.now = omega (arith, c.requires.room, ap lines_of is) in
    line_more runs (ask_of c.args.found) c.in-Line.text.now c.read.result.rules c.read.result.count is room c.read.ensures.does c.read.ensures.meant

pub returns-in-Add-clause-runs : goal.returns-in-Add-clause-runs
returns-in-Add-clause-runs c = λ buffer v asks at runs.
    let told = c.note.ensures in
    let added = adds c.from.result c.from-in-Add.result c.in-Add.commands.now c.add.result runs.ran c.add.ensures.acts in
    change_more runs (ask_of c.args.found) (add c.from.result c.from-in-Add.result c.in-Add.commands.now) c.args.place c.add.result
    (ap ask_of c.in-Add.is ∙ sym (ap₂ (λ r k. add r k c.in-Add.commands.now) c.from.ensures c.from-in-Add.ensures)) at added
    (add_denoting c.from.result c.from-in-Add.result c.in-Add.commands.now _ 0 _ _ c.add.ensures.acts) told.lines told.refused told.first

pub returns-in-Delete-clause-runs : goal.returns-in-Delete-clause-runs
returns-in-Delete-clause-runs c = λ buffer v asks at runs.
    let told = c.note-in-Delete.ensures in
    let deleted = deletes c.from-in-Delete.result c.delete.result runs.ran c.delete.ensures.acts in
    change_more runs (ask_of c.args.found) (delete c.from-in-Delete.result) c.args.place c.delete.result
    (ap ask_of c.in-Delete.is ∙ sym (ap delete c.from-in-Delete.ensures)) at deleted
    (delete_denoting c.from-in-Delete.result _ 0 _ _ c.delete.ensures.acts) told.lines told.refused told.first
