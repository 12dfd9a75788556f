use Rattle.std.proofs.Common.{map, vec_items}
use Rattle.event_words.proofs.Naming.{Done}
use Rattle.event_words.proofs.words.events_of.Given as goal

abbrev pub invariant-loop-word : goal.invariant-loop-word
invariant-loop-word l =
    (goal.iterator-loop-word).can_next l.word-iterator
    × (goal.iterator-loop-word).is_finite l.word-iterator
    × Done (map (λ w. w.now) l.yielded) (vec_items l.events) l.in_range
