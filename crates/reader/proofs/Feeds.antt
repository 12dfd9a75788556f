-- Feeding a walk under another name.
use Rattle.std.proofs.Common.{◌≡◌, ℕ, subst}
use Rattle.readings.specs.Views.{View}
use Rattle.readings.specs.Readings.{Told, Reads}
use Rattle.readings.specs.Readings.Reading.{feed}
use Rattle.reader.specs.declared.walk.Walk.{Walk}

pub same_feed : {v w : View} {t : Told} {n c : ℕ} {x y : Walk} → x ≡ y → Reads (feed x.edition x.state c) t n v w → Reads (feed y.edition y.state c) t n v w
same_feed {v} {w} {t} {n} {c} e r = subst (λ (z : Walk). Reads (feed z.edition z.state c) t n v w) e r
