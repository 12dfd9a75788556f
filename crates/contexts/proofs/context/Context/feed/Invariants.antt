use Rattle.std.proofs.Common.{◌≡◌, true, map, take, is_some, string_bytes}
use Rattle.passes.specs.Runs.{Answers}
use Rattle.contexts.specs.Uses.{FeedsEach}
use Rattle.contexts.specs.Contexts.{use_of}
use Rattle.contexts.proofs.context.Context.feed.Given as goal

abbrev pub invariant-loop-symbol : goal.invariant-loop-symbol
invariant-loop-symbol g l =
    Answers (FeedsEach (use_of l.initial.self) (take l.symbol-index (map g.B.Symbol.Symbol.code l.text)) (use_of l.self))
    (string_bytes l.initial.out) (string_bytes l.out)
    × (is_some l.self.walk ≡ true)
