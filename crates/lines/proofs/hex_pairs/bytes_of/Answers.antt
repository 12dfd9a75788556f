use Rattle.std.proofs.Common.{sym, subst}
use Rattle.std.proofs.lemmas.Result.{err_from_is_err_and}
use Rattle.lines.specs.Hex.{Decodes}
use Rattle.lines.proofs.HexText.{decodes_err, decodes_ok}
use Rattle.lines.proofs.hex_pairs.bytes_of.Goals as goal

pub returns-in_err-decode : goal.returns-in_err-decode
returns-in_err-decode c =
    let p = err_from_is_err_and c.from_residual.result c.from_residual.ensures.1 in
    subst (Decodes c.args.digits.now) (sym p.1) (decodes_err c.args.digits.now c.in_err-decode.field-0.0 p.0 p.2 c.in_err-decode.ensures.err)

pub returns : goal.returns
returns c = decodes_ok c.args.digits.now c.in_ok-decode.field-0 c.in_ok-decode.ensures.ok
