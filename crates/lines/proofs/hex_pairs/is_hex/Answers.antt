use Rattle.std.proofs.Common.{rules, tests}
use Rattle.std.specs.Char.{is_ascii_hexdigit}
use Rattle.std.proofs.lemmas.Bool.{eqb-true}
use Rattle.std.proofs.lemmas.Bool.Decides.{Decides-at}
use Rattle.std.proofs.lemmas.Iterator.{YieldsList-from_slice}
use Rattle.std.proofs.lemmas.Iterator.Search.{all_from_yields_List}
use Rattle.lines.proofs.HexText.{hex_even, hex_test}
use Rattle.lines.proofs.hex_pairs.is_hex.Goals as goal

pub returns-then-digits-eq0 : goal.returns-then-digits-eq0
returns-then-digits-eq0 c =
    let digits = c.args.digits.now in
    let all = all_from_yields_List is_ascii_hexdigit _ _ c.all.result c.all.ensures.ran (YieldsList-from_slice digits cc) (λ x b q k. search (rules, tests)) in
    Decides-at c.all.result _ all (hex_test digits c.if-digits-eq0.true)

pub returns-else-digits-eq0 : goal.returns-else-digits-eq0
returns-else-digits-eq0 c =
    (λ e. absurd (c.if-digits-eq0.false (eqb-true _ _ e)), λ h. absurd (c.if-digits-eq0.false (hex_even c.args.digits.now h)))
