use Rattle.std.proofs.Common.{◌≡◌, ℕ, Bool, false, ◌&&◌, ◌||◌, leb, ltb, sym, ap, ◌∙◌, arith}
use Rattle.std.proofs.lemmas.Bool.Decides.{nat_tests}
use Rattle.numbers.specs.Laws.{is_live}
use Rattle.numbers.proofs.book.reading.NumberBookBook.live.Goals as goal

up_to_five : (p : ℕ) → (false || (leb 0 p && leb p 5)) ≡ ltb p 6
up_to_five p = grind (arith, nat_tests)

pub returns : goal.returns
returns c p =
    c.with_range.ensures p ∙ ap (λ (b : Bool). b || (leb 0 p && leb p 5)) (c.empty.ensures p) ∙ up_to_five p ∙ sym (is_live p)
