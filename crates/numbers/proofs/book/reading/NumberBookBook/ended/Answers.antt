use Rattle.std.proofs.Common.{Bool, ◌&&◌, eqb, sym, ap, ◌∙◌}
use Rattle.std.proofs.lemmas.Bool.{lt-ltb, and_right}
use Rattle.states.proofs.Members.{is_rules_of}
use Rattle.numbers.proofs.book.reading.NumberBookBook.ended.Goals as goal

pub returns-then-holds : goal.returns-then-holds
returns-then-holds c =
    is_rules_of c.single.result _ (λ n l. c.single.ensures.within n ∙ ap (λ (b : Bool). eqb n 0 && b) (lt-ltb n 64 l ∙ c.if-holds.ensures))

pub returns-else-holds : goal.returns-else-holds
returns-else-holds c = is_rules_of c.empty.result _ (λ n l. c.empty.ensures n ∙ sym (and_right (eqb n 0) _ (sym c.if-holds.ensures)))
