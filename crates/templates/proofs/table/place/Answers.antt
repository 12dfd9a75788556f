use Rattle.std.proofs.Common.{◌≡◌, length, refl, subst, arith}
use Rattle.templates.specs.Tables.{Placed, place_more, place_all}
use Rattle.templates.proofs.table.place.Goals as goal

pub loop-i-preserved : goal.loop-i-preserved
loop-i-preserved c =
    let codes = c.codes_of-codes.result in (
      c.mark.array_long,
      place_more c.args.takes.now c.loop-i.takes c.mark.new.takes c.args.first c.args.template.now c.loop-i.i _ codes.start codes.end
          c.loop-i.invariant.1 c.loop-i-test.true refl c.codes_of-codes.ensures.codes c.mark.ensures,
    )

pub returns-clause-members : goal.returns-clause-members
returns-clause-members c =
    let all : c.loop-i.i ≡ length c.args.template.now = omega arith in
    place_all c.args.takes.now c.loop-i.takes c.args.first c.args.template.now
    (subst (Placed c.args.takes.now c.loop-i.takes c.args.first c.args.template.now) all c.loop-i.invariant.1)
