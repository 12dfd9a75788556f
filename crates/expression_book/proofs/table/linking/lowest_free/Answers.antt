use Rattle.std.proofs.Common.{Bool, not, ◌&&◌, ap, ◌∙◌}
use Rattle.std.proofs.lemmas.Bool.{some_since}
use Rattle.states.specs.Sets.{has}
use Rattle.expression_book.proofs.Grown.{some_free}
use Rattle.expression_book.proofs.table.linking.lowest_free.Goals as goal

pub unwrap-requires : goal.unwrap-requires
unwrap-requires c =
    some_since _ _ _ c.lowest.ensures
    (some_free c.args.live c.without.result c.requires (λ p. c.without.ensures p ∙ ap (λ (b : Bool). b && not (has c.args.live p)) (c.full.ensures p)))
