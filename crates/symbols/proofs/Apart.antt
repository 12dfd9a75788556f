-- Two events with the same machine and kind are the same event.
use Rattle.std.proofs.Common.{◌≡◌, ◌<◌}
use mathlib.Core.HLevel.{is_prop→PathP}
use native.Mathlib.Bridge.{le_prop}
use Rattle.symbols.specs.declared.event.Event.{Event}

pub same_event : (x y : Event) → x.machine ≡ y.machine → x.kind ≡ y.kind → x ≡ y
same_event x y p q =
    λ i. record {
      machine = p i;
      kind = q i;
      ranges = is_prop→PathP (λ j. (p j < 16) × (q j < 4096)) (λ j a b k. (le_prop a.0 b.0 k, le_prop a.1 b.1 k)) x.ranges y.ranges i;
    }
