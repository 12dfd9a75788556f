-- An event's text, read off its code.
use Rattle.std.proofs.Common.{◌≡◌, ◌+◌, ◌*◌, ◌/◌, ◌%◌, ap₂, arith}
use Rattle.symbols.specs.Texts.{event_words}
use Rattle.symbols.specs.declared.event.Event.{Event}

pub words_of_code : (e : Event) → event_words ((4096 * e.machine + e.kind) / 4096) ((4096 * e.machine + e.kind) % 4096) ≡ event_words e.machine e.kind
words_of_code e =
    let r = e.ranges in
    ap₂ event_words {x = (4096 * e.machine + e.kind) / 4096} {y = e.machine} (omega arith) (omega arith)
