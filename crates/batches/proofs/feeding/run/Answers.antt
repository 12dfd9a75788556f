use Rattle.std.proofs.Common.{subst}
use Rattle.readings.specs.Views.{View}
use Rattle.reader.specs.View.{view}
use Rattle.expression_book.specs.Tables.{book_model}
use Rattle.batches.specs.Runs.{RunsBatch}
use Rattle.batches.proofs.feeding.run.Goals as goal

pub returns : goal.returns
returns c =
    let new = c.new.ensures in
    let ran = c.in_ok-feed.ensures.done in
    record {
      book = book_model c.new.result;
      empty = new.rules;
      denoting = new.denoting;
      left = view c.feed.new.reader;
      runs = subst (λ (v : View). RunsBatch c.args.batch.now c.args.masks.now v (view c.feed.new.reader) c.feed.new.masks c.in_ok-feed.field-0) c.in_ok-reader.ensures.made ran;
    }
