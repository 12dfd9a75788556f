use Rattle.std.proofs.Common.{◌≡◌, Some, None, refl, ap, arith}
use Rattle.std.proofs.lemmas.Result.{err_from_is_err_and}
use Rattle.books.specs.declared.refusal.Refusal.TheVariants.{NoToken}
use Rattle.reader.specs.Seen.{best_told}
use Rattle.reader.proofs.Seeks.{looks, rest_length}
use Rattle.reader.proofs.reader.Reader.advance.Goals as goal

pub returns-in_err-best : goal.returns-in_err-best
returns-in_err-best g c =
    let place = c.args.place.now in
    let none : c.seek-seen.result.best ≡ None = grind (arith, c.in_err-best.ensures) in
    let refusal : c.in_err-best.field-0.0 ≡ NoToken place c.seek-seen.result.count = grind (arith, c.in_err-best.ensures) in
    let l = looks g.B.Symbol.Symbol.code c.args.text.now place _ (g.met.B.Book.lawful _) c.args.self.now.sound c.seek-seen.ensures.seeks (ap (best_told place) none) in
    let p = err_from_is_err_and c.from_residual.result c.from_residual.ensures.1 in
    rw (p.1, p.2, refusal) (record { read_token = l.0; peeked = l.1; token_meant = l.2; peek_meant = l.3; moves = refl; bound = c.requires })

pub returns : goal.returns
returns g c =
    let place = c.args.place.now in
    let some : c.seek-seen.result.best ≡ Some c.in_ok-best.best = grind (arith, c.in_ok-best.ensures) in
    let l = looks g.B.Symbol.Symbol.code c.args.text.now place _ (g.met.B.Book.lawful _) c.args.self.now.sound c.seek-seen.ensures.seeks (ap (best_told place) some) in
    let within = rw some at c.seek-seen.ensures.bound in
    record { read_token = l.0; peeked = l.1; token_meant = l.2; peek_meant = l.3; moves = (refl, refl); bound = omega (arith, within, rest_length c.args.text.now place, c.requires) }
