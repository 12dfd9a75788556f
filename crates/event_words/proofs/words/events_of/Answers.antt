use Rattle.std.proofs.Common.{◌≡◌, ◌==◌, None, Ok, Err, MatchOption, map, length, vec_items, sym, ap, ◌∙◌, subst, arith, rules, tests}
use Rattle.std.proofs.lemmas.Iterator.Consumers.{YieldsList-at, YieldsList-end, YieldsList-turn}
use Rattle.std.proofs.lemmas.Iterator.Splits.{YieldsList-from_slice_split}
use Rattle.std.proofs.lemmas.Result.{err_from_is_err_and}
use Rattle.event_words.specs.Words.{Named, Names, NamesEach, Spells, event_code, named, named_code}
use Rattle.event_words.specs.declared.words.NoEvents.TheVariants.{Malformed}
use Rattle.event_words.proofs.Naming.{Done, done_beyond, done_more, refused, words_some}
use Rattle.event_words.proofs.words.events_of.Goals as goal

pub returns-in_err-name : goal.returns-in_err-name
returns-in_err-name c =
    let text = c.args.text.now in
    let w = c.in-Some.word.now in
    let turn = YieldsList-turn
    (YieldsList-at c.into_iter-word-iterator.ensures.into_iter_gives
    (YieldsList-from_slice_split _ (λ b. b == 32) text c.split-word-items.ensures.rest c.split-word-items.ensures.done c.split-word-items.ensures.closure (λ x r q k. search (rules, tests))))
    c.loop-word.yielded _ c.loop-word.yielded_by _ _ c.in-Some.word c.in-Some.is c.next.ensures.steps in
    let none : c.name_of.result ≡ None = grind arith in
    let bad : c.in_err-name.field-0.0 ≡ Malformed = grind arith in
    let p = err_from_is_err_and c.from_residual.result c.from_residual.ensures.1 in
    subst (Spells text) (sym (p.1 ∙ ap Err (p.2 ∙ bad)))
    (refused text _ (length c.loop-word.yielded) w (words_some text (sym c.is_empty.ensures ∙ c.if-is_empty.false)) turn.0 turn.1
    (subst (λ o. MatchOption o ((n : Named) → Names w n → ⊥) (λ n. Names w (named n))) none c.name_of.ensures))

pub loop-word-preserved-in-Err : goal.loop-word-preserved-in-Err
loop-word-preserved-in-Err c =
    let n = named c.in_ok-name.name in
    let h = c.in-Err.ensures in
    let done = done_beyond c.loop-word.yielded c.in-Some.word n (vec_items c.loop-word.events) c.loop-word.in_range c.in-Err.refused c.loop-word.invariant.2 (search rules) (λ k. h k.0 k.1) in
    (c.loop-word.invariant.0, tt, done)

pub loop-word-preserved : goal.loop-word-preserved
loop-word-preserved c =
    let n = c.in_ok-name.name in
    let event = c.in-Ok.event in
    let h = c.in-Ok.ensures in
    let machine : event.machine ≡ n.machine = h.2 in
    let kind : event.kind ≡ n.kind = h.3 in
    let same : event_code event ≡ named_code (named n) = omega arith in
    (c.loop-word.invariant.0, tt, done_more c.loop-word.yielded c.in-Some.word (named n) (vec_items c.loop-word.events) _ event c.loop-word.in_range c.loop-word.invariant.2 (search rules) (h.0, h.1) same (search rules))

pub returns-in_err-in_range : goal.returns-in_err-in_range
returns-in_err-in_range c =
    let text = c.args.text.now in
    let end = YieldsList-end
    (YieldsList-at c.into_iter-word-iterator.ensures.into_iter_gives
    (YieldsList-from_slice_split _ (λ b. b == 32) text c.split-word-items.ensures.rest c.split-word-items.ensures.done c.split-word-items.ensures.closure (λ x r q k. search (rules, tests))))
    c.loop-word.yielded _ c.loop-word.yielded_by _ _ c.in-None.is c.next.ensures.steps in
    let out : c.loop-word.in_range ≡ Err c.in_err-in_range.field-0.0 = search rules in
    let d = subst (Done (map (λ w. w.now) c.loop-word.yielded) (vec_items c.loop-word.events)) out c.loop-word.invariant.2 in
    let e = end.0 ∙ sym (words_some text (sym c.is_empty.ensures ∙ c.if-is_empty.false)) in
    let p = err_from_is_err_and c.from_residual-in_err-in_range.result c.from_residual-in_err-in_range.ensures.1 in
    subst (Spells text) (sym (p.1 ∙ ap Err p.2)) (d.0, subst (λ ws. NamesEach ws d.0) e d.1, d.2)

pub returns : goal.returns
returns c =
    let text = c.args.text.now in
    let end = YieldsList-end
    (YieldsList-at c.into_iter-word-iterator.ensures.into_iter_gives
    (YieldsList-from_slice_split _ (λ b. b == 32) text c.split-word-items.ensures.rest c.split-word-items.ensures.done c.split-word-items.ensures.closure (λ x r q k. search (rules, tests))))
    c.loop-word.yielded _ c.loop-word.yielded_by _ _ c.in-None.is c.next.ensures.steps in
    let out : c.loop-word.in_range ≡ Ok c.in_ok-in_range.field-0 = search rules in
    let d = subst (Done (map (λ w. w.now) c.loop-word.yielded) (vec_items c.loop-word.events)) out c.loop-word.invariant.2 in
    let e = end.0 ∙ sym (words_some text (sym c.is_empty.ensures ∙ c.if-is_empty.false)) in
    (d.0, subst (λ ws. NamesEach ws d.0) e d.1, d.2.0, d.2.1)
