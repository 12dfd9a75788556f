use Rattle.std.proofs.Common.{◌≡◌, ◌≢◌, [], ◌∷◌, Some, ap, ◌∙◌, subst, refl, rules, ne_eqb}
use Rattle.std.proofs.lemmas.Result.{err_from_is_err_and}
use Rattle.patterns.specs.declared.faults.PatternFault.TheVariants.{Reserved}
use Rattle.patterns.specs.declared.marks.Mark.TheVariants.{Sign}
use Rattle.patterns.specs.Buffers.{Adds}
use Rattle.patterns.specs.Parsing.{sign_at}
use Rattle.patterns.specs.Reading.{any}
use Rattle.patterns.proofs.Parts.{same_mark, some_left, kept_back, literal_read, unmarked, atom_read, atom_refused, class_read, class_refused, no_atom, too_deep, bracket_refused, bracket_closed, choice_first, choice_more, choice_refused, repeat_read, joining_more}
use Rattle.patterns.proofs.parsing.+parsing.Goals as goal

pub atom-returns-in_err-mark : goal.atom-returns-in_err-mark
atom-returns-in_err-mark t c =
    let p = err_from_is_err_and c.from_residual.result c.from_residual.ensures.1 in
    rw (p.1, p.2) (unmarked c.args.depth c.args.text c.args.sink.now c.args.sink.now (some_left _ c.requires) _ c.in_err-mark.ensures)

pub atom-returns-in_err-put_class-in-Class : goal.atom-returns-in_err-put_class-in-Class
atom-returns-in_err-put_class-in-Class t c =
    let p = err_from_is_err_and c.from_residual-in_err-put_class-in-Class.result c.from_residual-in_err-put_class-in-Class.ensures.1 in
    rw (p.1, p.2) (class_refused c.args.depth c.args.text c.args.sink.now c.args.sink.now (some_left _ c.requires) c.in-Class.body c.in_ok-mark.rest (same_mark _ _ _ _ _ c.in-Class.is c.in_ok-mark.ensures) _ c.in_err-put_class-in-Class.ensures)

pub atom-returns-in_err-inner-in-Sign-eq40 : goal.atom-returns-in_err-inner-in-Sign-eq40
atom-returns-in_err-inner-in-Sign-eq40 t c =
    let p = err_from_is_err_and c.from_residual-in_err-inner-in-Sign-eq40.result c.from_residual-in_err-inner-in-Sign-eq40.ensures.1 in
    rw (p.1, p.2) (bracket_refused c.args.depth c.args.text c.args.sink.now c.args.sink.now (some_left _ c.requires) _ c.in_ok-mark.rest (same_mark _ _ _ _ _ c.in-Sign-eq40.is c.in_ok-mark.ensures)
    (search rules) c.if-depth-lt-MOST_OPEN.true c.args.sink.now c.args.sink.now _ c.in_err-inner-in-Sign-eq40.ensures)

pub atom-returns-in-Byte-eq123 : goal.atom-returns-in-Byte-eq123
atom-returns-in-Byte-eq123 t c =
    atom_refused c.args.depth c.args.text c.args.sink.now c.args.sink.now (some_left _ c.requires) _ c.in_ok-mark.rest (same_mark _ _ _ _ _ c.in-Byte-eq123.is c.in_ok-mark.ensures)
    (Reserved c.args.text.place) (λ l os. let e = kept_back c.in-Byte-eq123.field-0 (search rules) in simp e)

pub atom-returns-in_ok-put_class-in-Class : goal.atom-returns-in_ok-put_class-in-Class
atom-returns-in_ok-put_class-in-Class t c =
    class_read c.args.depth c.args.text _ _ (some_left _ c.requires) c.in-Class.body c.in_ok-mark.rest (same_mark _ _ _ _ _ c.in-Class.is c.in_ok-mark.ensures) c.in_ok-put_class-in-Class.ensures

pub atom-returns-in-Sign-eq46 : goal.atom-returns-in-Sign-eq46
atom-returns-in-Sign-eq46 t c =
    let e = let z : c.in-Sign-eq46.field-0 ≡ 46 = search rules in z in
    atom_read c.args.depth c.args.text _ _ (some_left _ c.requires) (Sign 46) c.in_ok-mark.rest (same_mark _ _ _ _ _ (c.in-Sign-eq46.is ∙ ap Sign e) c.in_ok-mark.ensures)
    any (λ l os. refl) c.extend.ensures

pub atom-returns-in_ok-inner-in-Sign-eq40 : goal.atom-returns-in_ok-inner-in-Sign-eq40
atom-returns-in_ok-inner-in-Sign-eq40 t c =
    rw c.ok_or.ensures.value (bracket_closed c.args.depth c.args.text _ _ (some_left _ c.requires) _ c.in_ok-mark.rest (same_mark _ _ _ _ _ c.in-Sign-eq40.is c.in_ok-mark.ensures)
    (search rules) c.if-depth-lt-MOST_OPEN.true c.in_ok-inner-in-Sign-eq40.inner c.in_ok-inner-in-Sign-eq40.ensures c.behind.result c.behind.ensures)

pub atom-returns-in-Sign-eq40-2 : goal.atom-returns-in-Sign-eq40-2
atom-returns-in-Sign-eq40-2 t c =
    too_deep c.args.depth c.args.text c.args.sink.now c.args.sink.now (some_left _ c.requires) _ c.in_ok-mark.rest (same_mark _ _ _ _ _ c.in-Sign-eq40.is c.in_ok-mark.ensures)
    (search rules) c.if-depth-lt-MOST_OPEN.false

pub atom-returns-in-Sign : goal.atom-returns-in-Sign
atom-returns-in-Sign t c =
    let a : c.in-Sign.field-0 ≢ 40 = search rules in
    let b : c.in-Sign.field-0 ≢ 46 = search rules in
    no_atom c.args.depth c.args.text c.args.sink.now c.args.sink.now (some_left _ c.requires) _ c.in_ok-mark.rest (same_mark _ _ _ _ _ c.in-Sign.is c.in_ok-mark.ensures)
    c.requires (ne_eqb _ 40 a) (ne_eqb _ 46 b)

pub atom-returns-in-Byte : goal.atom-returns-in-Byte
atom-returns-in-Byte t c =
    literal_read c.args.depth c.args.text _ _ (some_left _ c.requires) _ _ c.in_ok-mark.rest c.in_ok-mark.ensures c.extend-in-Byte.ensures (search rules)

pub choice-loop-behind-init : goal.choice-loop-behind-init
choice-loop-behind-init t c = choice_first _ _ _ _ _ c.in_ok-rest.ensures

pub choice-returns-in_err-rest-2 : goal.choice-returns-in_err-rest-2
choice-returns-in_err-rest-2 t c =
    let p = err_from_is_err_and c.from_residual-in_err-rest-2.result c.from_residual-in_err-rest-2.ensures.1 in
    rw (p.1, p.2) (choice_refused c.args.depth c.args.text _ _ _ _ c.loop-behind.invariant c.in-Some.ensures c.args.sink.now c.args.sink.now c.args.sink.now c.args.sink.now _ c.in_err-rest-2.ensures)

pub choice-loop-behind-preserved : goal.choice-loop-behind-preserved
choice-loop-behind-preserved t c = choice_more _ _ _ _ _ _ c.loop-behind.invariant c.in-Some.ensures _ _ _ c.in_ok-rest-2.ensures c.push.ensures

pub piece-loop-repeat-preserved : goal.piece-loop-repeat-preserved
piece-loop-repeat-preserved t c =
    let e : sign_at c.loop-repeat.rest.bytes.now ≡ Some c.in-Some.repeat = search rules in
    repeat_read _ _ c.loop-repeat.rest c.skip-rest.result c.in-Some.repeat _ c.loop-repeat.sink _ c.loop-repeat.invariant e c.skip-rest.ensures.bytes c.skip-rest.ensures.place
    (subst (λ b. Adds c.loop-repeat.sink (b ∷ []) c.push.new.self) c.letter.ensures c.push.ensures)

pub sequence-loop-rest-preserved : goal.sequence-loop-rest-preserved
sequence-loop-rest-preserved t c = joining_more _ _ _ _ _ c.loop-rest.invariant _ _ _ c.in_ok-rest-2.ensures.read c.in_ok-rest-2.ensures.whole c.push-in-loop-rest.ensures
