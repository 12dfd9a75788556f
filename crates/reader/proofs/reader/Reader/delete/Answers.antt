use Rattle.std.proofs.Common.{sym, refl, ap, ◌∙◌, subst, inr}
use Rattle.readings.specs.Views.{AllRight}
use Rattle.std.proofs.lemmas.Result.{err_from_is_err_and}
use Rattle.readings.specs.Readings.Told.{changed}
use Rattle.readings.specs.Calls.Call.{delete as deleting}
use Rattle.readings.proofs.Acting.{acts_does}
use Rattle.readings.proofs.Changed.{right_deleted}
use Rattle.readings.proofs.Dropped.{drops}
use Rattle.reader.proofs.Changes.{same_reader}
use Rattle.reader.proofs.reader.Reader.delete.Goals as goal

pub returns-in_err-delete-clause-same : goal.returns-in_err-delete-clause-same
returns-in_err-delete-clause-same g c =
    let p = err_from_is_err_and c.from_residual-in_err-delete.result c.from_residual-in_err-delete.ensures.1 in
    rw p.1 (same_reader c.args.self.now c.delete.new.self _ _ _ c.in_err-delete.ensures.change)

pub returns-clause-acts : goal.returns-clause-acts
returns-clause-acts g c =
    let e = c.in_ok-edition.ensures in
    let h = c.in_ok-delete.ensures in
    inr (inr (record {
      room = e.0;
      tells = ap changed e.1;
      count = refl;
      book = record { meaning = record { deleted = h.change.meaning; shrunk = h.shrunk }; note = h.change.note; noted = h.change.noted };
      lawful = g.met.B.Book.lawful _;
      kept = c.drop_touching.ensures ∙ drops c.args.rule _ _ h.change.meaning c.live-before.result c.live.result c.without-gone.result c.live-before.ensures c.live.ensures c.without-gone.ensures _;
      edition = e.1;
      tally = refl;
    }))

pub returns-clause-does : goal.returns-clause-does
returns-clause-does g c =
    let book = g.B.ChangingBook in
    acts_does book.refusal book.grows book.shrinks (deleting c.args.rule) _ _ _ _ (returns-clause-acts g c)

pub invariant_of-self-2-clause-sound : goal.invariant_of-self-2-clause-sound
invariant_of-self-2-clause-sound g c =
    let h = c.in_ok-delete.ensures.change.meaning in
    let left = c.drop_touching.ensures ∙ drops c.args.rule _ _ h c.live-before.result c.live.result c.without-gone.result c.live-before.ensures c.live.ensures c.without-gone.ensures _ in
    subst (AllRight _) (sym left) (right_deleted _ (g.met.B.Book.lawful _) h c.args.self.now.sound)
