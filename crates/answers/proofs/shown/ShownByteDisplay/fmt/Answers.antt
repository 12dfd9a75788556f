use Rattle.std.proofs.Common.{sym, ◌∙◌, subst, arith}
use Rattle.std.specs.Fmt.{DisplaysOnOk}
use Rattle.std.proofs.Output.{has_written_of_eq}
use Rattle.answers.proofs.Bytes.{hex_told, shown_plain}
use Rattle.answers.proofs.shown.ShownByteDisplay.fmt.Goals as goal

pub returns-then-is_plain-clause-writes : goal.returns-then-is_plain-clause-writes
returns-then-is_plain-clause-writes g c = λ p ok.
    has_written_of_eq _ _ _ _ _ (shown_plain c.args.self.now.0 c.from-itself.result (sym c.is_plain.ensures ∙ c.if-is_plain.true) c.from-itself.ensures) (c.write.ensures.writes p ok)

pub returns-else-is_plain-clause-writes : goal.returns-else-is_plain-clause-writes
returns-else-is_plain-clause-writes g c = λ p ok.
    subst (λ o. DisplaysOnOk g.W.Write.write_str_gives c.args.f.now c.write-else-is_plain.result o c.write-else-is_plain.new.self)
    (hex_told c.in_radix.result c.laid_out.result c.args.self.now.0 c.laid_out.ensures c.in_radix.ensures (omega arith) (sym c.is_plain.ensures ∙ c.if-is_plain.false)) c.write-else-is_plain.ensures.writes p ok
