use Rattle.std.proofs.Common.{◌≡◌, ◌≤◌, false, length, get_or, vec_items, Some, arith, sym, ap, ◌∙◌}
use Rattle.std.proofs.lemmas.List.{at_drop_all, get_or_default}
use Rattle.std.proofs.lemmas.Bool.{and_left, and_right, and_from, cond-true, cond-false, eq-eqb, ne_eqb}
use Rattle.states.specs.Sets.{same}
use Rattle.kept.specs.declared.kept.Move.{Move}
use Rattle.kept.specs.Steps.{step, from, found}
use Rattle.kept.specs.Tables.{steps}
use Rattle.kept.proofs.Zipped.{no_move, found_at}
use Rattle.kept.proofs.Tables.{lengths, count_is}
use Rattle.kept.proofs.kept.Kept.find.Goals as goal
use Rattle.kept.proofs.kept.Kept.find.Goals.{else-kept-code-via-then-kept-code+else-eq, else-kept-code-via-else-kept-code}

pub loop-i-preserved : goal.loop-i-preserved
unfolding steps
loop-i-preserved c =
    let t = c.args.self.now in
    let i = c.loop-i.i in
    let m = get_or (vec_items t.moves) i no_move in
    let code = ap (λ cs. get_or cs i 0) c.deref-kept-items.ensures.value in
    let move : (d : Move) → get_or c.as_slice-moves.result.now i d ≡ m = λ d. get_or_default _ i d no_move (omega arith) ∙ ap (λ ms. get_or ms i no_move) c.as_slice-moves.ensures.value in
    let apart : from (step m.state (get_or (vec_items t.codes) i 0) m.next) c.args.state c.args.code ≡ false = elim c.else-kept-code.branch [
      | else-kept-code-via-then-kept-code+else-eq w ↦ and_left _ _
          (ap (λ (m : Move). same m.state c.args.state) (sym (move w.index-moves-i.result)) ∙ sym w.if-eq.ensures.value)
      | else-kept-code-via-else-kept-code w ↦ and_right _ _ (ne_eqb _ _ (λ e. w.if-kept-code.false (code ∙ e)))
    ] in
    sym (found_at _ _ (lengths t) c.args.state c.args.code i (omega arith) ∙ cond-false _ _ _ apart) ∙ c.loop-i.invariant

pub returns-then-eq : goal.returns-then-eq
unfolding steps
returns-then-eq c =
    let t = c.args.self.now in
    let i = c.loop-i.i in
    let code = ap (λ cs. get_or cs i 0) c.deref-kept-items.ensures.value in
    let move : (d : Move) → get_or c.as_slice-moves.result.now i d ≡ get_or (vec_items t.moves) i no_move = λ d. get_or_default _ i d no_move (omega arith) ∙ ap (λ ms. get_or ms i no_move) c.as_slice-moves.ensures.value in
    let state = ap (λ (m : Move). same m.state c.args.state) (sym (move c.index-moves-i.result)) ∙ sym c.if-eq.ensures.value in
    let next = ap (λ (m : Move). m.next) (move c.index-moves-i-then-eq.result) in
    sym (found_at _ _ (lengths t) c.args.state c.args.code i (omega arith)
    ∙ cond-true _ _ _ (and_from _ _ state (eq-eqb _ _ (sym code ∙ c.if-kept-code.true))) ∙ ap Some (sym next)) ∙ c.loop-i.invariant

pub returns : goal.returns
unfolding found
returns c =
    let t = c.args.self.now in
    let done : length (steps t) ≤ c.loop-i.i = omega (arith, count_is t) in
    sym (at_drop_all (λ ks. found ks c.args.state c.args.code) (steps t) c.loop-i.i done) ∙ c.loop-i.invariant
