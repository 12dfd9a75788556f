use Rattle.std.proofs.Common.{◌≡◌, ◌<◌, false, length, refl, ap, ◌∙◌, arith}
use Rattle.std.proofs.lemmas.List.{get_or-set_same, get_or-set_other}
use Rattle.std.proofs.lemmas.Bool.{not-true}
use Rattle.states.specs.Sets.{State, has}
use Rattle.states.proofs.Members.{no_members}
use Rattle.expression_book.specs.declared.row.Row.{Row}
use Rattle.expression_book.specs.Rows.{blank}
use Rattle.expression_book.proofs.Grown.{size_more}
use Rattle.expression_book.proofs.table.Table.give.Goals as goal

pub returns : goal.returns
returns c =
    let a = c.args.self.now in
    let at = c.lowest_free-at.result in
    let row_of : State → Row = λ s. record { rule = c.args.rule; codes = c.args.codes; follow = s } in
    let w = row_of c.empty.result in
    let free : has a.live at ≡ false = not-true _ c.lowest_free-at.ensures.member in
    let below : at < 256 = omega arith in
    let within : at < length a.rows = let long = a.long in omega arith in
    record {
      holds = record { kinds = refl; start = refl; ends = refl; note = refl };
      free = free;
      live = c.with-self.ensures.alone below;
      fresh = get_or-set_same a.rows at w blank within ∙ ap row_of (no_members c.empty.result c.empty.ensures);
      kept = λ q d. get_or-set_other a.rows at q w blank d;
      count = size_more a.live c.with-self.result at below free (c.with-self.ensures.alone below);
    }
