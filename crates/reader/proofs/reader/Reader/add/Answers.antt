use Rattle.std.proofs.Common.{sym, refl, ap, inr}
use Rattle.std.proofs.lemmas.Result.{err_from_is_err_and}
use Rattle.readings.specs.Readings.Told.{changed}
use Rattle.readings.specs.Calls.Call.{add as adding}
use Rattle.readings.proofs.Acting.{acts_does}
use Rattle.readings.proofs.Changed.{right_added}
use Rattle.reader.proofs.Changes.{same_reader}
use Rattle.reader.proofs.reader.Reader.add.Goals as goal

pub returns-in_err-add-clause-same : goal.returns-in_err-add-clause-same
returns-in_err-add-clause-same g c =
    let p = err_from_is_err_and c.from_residual-in_err-add.result c.from_residual-in_err-add.ensures.1 in
    rw p.1 (same_reader c.args.self.now c.add.new.self _ _ _ c.in_err-add.ensures.change)

pub returns-clause-acts : goal.returns-clause-acts
returns-clause-acts g c =
    let e = c.in_ok-edition.ensures in
    let h = c.in_ok-add.ensures in
    inr (inr (record {
      room = e.0;
      tells = ap changed e.1;
      count = refl;
      book = record { meaning = record { passed = sym h.answer; added = h.change.meaning; grown = h.grown }; note = h.change.note; noted = h.change.noted };
      lawful = g.met.B.Book.lawful _;
      kept = refl;
      edition = e.1;
      tally = refl;
    }))

pub returns-clause-does : goal.returns-clause-does
returns-clause-does g c =
    let book = g.B.ChangingBook in
    acts_does book.refusal book.grows book.shrinks (adding c.args.rule c.args.kind c.args.bytes.now) _ _ _ _ (returns-clause-acts g c)

pub invariant_of-self-2-clause-sound : goal.invariant_of-self-2-clause-sound
invariant_of-self-2-clause-sound g c = right_added _ (g.met.B.Book.lawful _) c.in_ok-add.ensures.change.meaning c.args.self.now.sound
