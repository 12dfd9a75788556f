use Rattle.std.proofs.Common.{◌≡◌, not, rules, ap, ◌∙◌, arith}
use Rattle.std.proofs.lemmas.Fn.{filter_same}
use Rattle.std.specs.Slice.Iter.{iter_rest}
use borrow.Author.Tests.{tests}
use Rattle.states.specs.Sets.{shares}
use Rattle.kept.specs.Steps.{distinct}
use Rattle.kept.specs.Tables.{steps}
use Rattle.kept.proofs.Found.{distinct_kept_by}
use Rattle.kept.proofs.Zipped.{zipped_where}
use Rattle.kept.proofs.Tables.{lengths, steps_distinct}
use Rattle.kept.proofs.kept.Kept.drop_touching.Goals as goal

pub invariant_of-self : goal.invariant_of-self
unfolding steps
invariant_of-self c =
    let t = c.args.self.now in
    let moves = filter_same _ (λ m. not (shares m.state c.args.positions)) _ (λ x b f' k. search (rules, tests)) _ _ c.retain-2.ensures.filtered in
    let h = zipped_where (λ s. not (shares s c.args.positions)) _ (λ f ms. (iter_rest f.0 ≡ ms) × (f.1.0 ≡ c.args.positions)) (λ f x b f' m ms k i. search (rules, tests))
    _ _ _ _ _ (lengths t) (search rules, search rules) c.retain.ensures.filtered moves in
    record {
      level = omega (arith, h.0, c.retain.new.self.ok, c.retain-2.new.self.ok);
      room = search rules;
      few = search rules;
      apart = ap distinct h.1 ∙ distinct_kept_by _ (steps t) (steps_distinct t);
    }

pub returns : goal.returns
unfolding steps
returns c =
    let moves = filter_same _ (λ m. not (shares m.state c.args.positions)) _ (λ x b f' k. search (rules, tests)) _ _ c.retain-2.ensures.filtered in
    (zipped_where (λ s. not (shares s c.args.positions)) _ (λ f ms. (iter_rest f.0 ≡ ms) × (f.1.0 ≡ c.args.positions)) (λ f x b f' m ms k i. search (rules, tests))
    _ _ _ _ _ (lengths c.args.self.now) (search rules, search rules) c.retain.ensures.filtered moves).1
