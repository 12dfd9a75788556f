-- Changes of a reader's book.
use Rattle.std.proofs.Common.{◌≡◌, ◌^◌, ◌<◌}
use native.Mathlib.Bridge.{le_prop}
use mathlib.Core.HLevel.{is_prop→PathP}
use Rattle.kept.specs.Tables.{steps}
use Rattle.readings.specs.Views.{AllRight}
use Rattle.readings.specs.OneProof.{AllRight-prop}
use Rattle.reader.specs.declared.reader.Reader.{Reader}

-- a reader whose book is as it was is as it was
pub same_reader : {B S : Type 0} {p : _} {q : _} (r : Reader B S p q) (b : B) (h : r.tally < 2 ^ 32) (k : r.edition < 2 ^ 32)
    (s : AllRight (p.model b).meaning (steps r.kept)) → b ≡ r.book
    → ◌≡◌ {A = Reader B S p q} (record { book = b; kept = r.kept; edition = r.edition; tally = r.tally; fits = h; editions = k; sound = s }) r
same_reader {p = p} r b h k s e = λ i. record {
  book = e i;
  kept = r.kept;
  edition = r.edition;
  tally = r.tally;
  fits = le_prop h r.fits i;
  editions = le_prop k r.editions i;
  sound = is_prop→PathP (λ j. AllRight (p.model (e j)).meaning (steps r.kept)) (λ j. AllRight-prop (p.model (e j)).meaning (steps r.kept)) s r.sound i;
}
