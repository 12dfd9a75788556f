-- The steps of a table: how many there are, and that no two are from the same state by the same code. Assumes nothing.
use Rattle.std.proofs.Common.{◌≡◌, ℕ, true, List, [], ◌∷◌, ◌++◌, length, vec_items, vec_len, sym, ◌∙◌, arith}
use Rattle.kept.specs.declared.kept.Kept.{Kept}
use Rattle.kept.specs.declared.kept.Move.{Move}
use Rattle.kept.specs.Steps.{distinct, step, zipped}
use Rattle.kept.specs.Tables.{steps}
use Rattle.kept.proofs.Zipped.{length_zipped, zipped_push}

pub lengths : (t : Kept) → length (vec_items t.moves) ≡ length (vec_items t.codes)
lengths t =
    let c = t.codes.ok in
    let m = t.moves.ok in
    let l = t.level in
    omega arith

pub count_is : (t : Kept) → vec_len t.codes ≡ length (steps t)
unfolding steps
count_is t = t.codes.ok.0 ∙ sym (length_zipped _ _ (lengths t))

pub steps_distinct : (t : Kept) → distinct (steps t) ≡ true
unfolding steps
steps_distinct t = t.apart

-- the same with one more step at the end
pub pushed : (t : Kept) (cs : List ℕ) (ms : List Move) (c : ℕ) (m : Move) → cs ≡ vec_items t.codes ++ c ∷ [] → ms ≡ vec_items t.moves ++ m ∷ []
    → zipped cs ms ≡ steps t ++ step m.state c m.next ∷ []
unfolding steps
pushed t cs ms c m e f = (λ i. zipped (e i) (f i)) ∙ zipped_push _ _ c m (lengths t)
