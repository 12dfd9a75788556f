use Rattle.std.proofs.Common.{◌≡◌, ℕ, zero, suc, Bool, true, ◌&&◌, ◌||◌, refl, ap, ap₂, ◌∙◌, arith, rules}
use Rattle.states.specs.Words.{some, digits_of}
use Rattle.states.specs.Sets.{State, has, with_members, words_of}
use Rattle.states.proofs.Members.{is_set_of}
use Rattle.expressions.specs.CodeRange.{contains}
use Rattle.numbers.specs.Number.{leads, number_next}
use Rattle.numbers.proofs.Rows.{Right, row_right, one_code, no_code, row_more}
use Rattle.numbers.proofs.table.step.Goals as goal
use Rattle.numbers.proofs.table.step.Goals.{then-holds+then-contains, else-holds, else-holds-via-then-holds+else-contains, else-holds-via-else-holds}

-- every row of the table is right
table_right : (c : goal.Joined-holds) (p : ℕ) → c.loop-p.p ≡ p → Right p c.row-item.result
unfolding with_members words_of digits_of
table_right c zero e = row_right 0 (rw e at c.row-item.is) (λ x. refl) refl
table_right c (suc zero) e = row_right 1 (rw e at c.row-item.is) (one_code 46) refl
table_right c (suc (suc zero)) e = row_right 2 (rw e at c.row-item.is) (λ x. refl) refl
table_right c (suc (suc (suc zero))) e = row_right 3 (rw e at c.row-item.is) (one_code 109) refl
table_right c (suc (suc (suc (suc zero)))) e = row_right 4 (rw e at c.row-item.is) (one_code 109) refl
table_right c (suc (suc (suc (suc (suc zero))))) e = row_right 5 (rw e at c.row-item.is) no_code refl
table_right c (suc (suc (suc (suc (suc (suc n)))))) e = absurd (omega arith)

pub loop-p-init : goal.loop-p-init
unfolding some
loop-p-init c q l = c.empty-out.ensures q

pub loop-p-preserved : goal.loop-p-preserved
loop-p-preserved c =
    row_more c.args.state c.loop-p.out c.if-holds.out c.args.code c.loop-p.p c.row-item.result (table_right c c.loop-p.p refl) c.loop-p.invariant (elim c.if-holds.branch [
      | then-holds+then-contains w ↦ λ q.
          (let united : has w.union-out.result q ≡ (has c.loop-p.out q || has c.row-item.result.follow q) = search (rules, w.union-out.ensures q) in
          let inside : true ≡ contains c.row-item.result.codes c.args.code = search (rules, w.if-contains.ensures) in
          ap (λ (t : State). has t q) w.out-is ∙ united
          ∙ ap₂ (λ (x y : Bool). has c.loop-p.out q || (x && y && has c.row-item.result.follow q)) w.if-holds.ensures inside)
      | else-holds w ↦ (elim w.else-holds.branch [
        | else-holds-via-then-holds+else-contains v ↦ λ q. grind arith
        | else-holds-via-else-holds v ↦ λ q. grind arith
      ])
    ])

pub returns : goal.returns
unfolding number_next
returns c = let e : c.loop-p.p ≡ 6 = omega arith in
    is_set_of c.loop-p.out _ (λ q l. c.loop-p.invariant q l ∙ ap (some (leads c.args.state c.args.code q)) e)
