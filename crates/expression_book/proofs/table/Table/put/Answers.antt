use Rattle.std.proofs.Common.{sym, ap, ◌∙◌, subst, inl, inr, arith}
use Rattle.std.proofs.lemmas.Bool.{or_cases}
use Rattle.states.specs.Sets.{has, size}
use Rattle.expressions.specs.declared.code_range.CodeRange.{CodeRange}
use Rattle.expression_book.specs.Building.{Gives}
use Rattle.expression_book.proofs.Finished.{body, body_copy, distinct, link_live, link_follows, link_together, end_rows, end_beside, first_live, end_live, started, ended_with}
use Rattle.expression_book.proofs.table.Table.put.Goals as goal

pub link-requires : goal.link-requires
link-requires c =
    let (e, spelled, room) = c.requires.roomy in
    let b = (c.build-part.ensures e spelled).0 in
    let g = subst (λ (k : CodeRange). Gives c.args.rule.number k c.give.result c.build-part.new.self c.give.new.self) c.none.ensures c.give.ensures in
    record {
      live = link_live _ c.args.rule.number _ _ _ e _ _ b g c.symbol-end.ensures;
      follows = link_follows _ c.args.rule.number _ _ _ e _ _ b g c.symbol-end.ensures;
      together = link_together _ c.args.rule.number _ _ _ e _ _ b g c.symbol-end.ensures;
    }

pub invariant_of-self-2 : goal.invariant_of-self-2
invariant_of-self-2 c =
    let t = c.link.new.self in
    let (e, spelled, room) = c.requires.roomy in
    let b = (c.build-part.ensures e spelled).0 in
    let g = subst (λ (k : CodeRange). Gives c.args.rule.number k c.give.result c.build-part.new.self c.give.new.self) c.none.ensures c.give.ensures in
    record {
      long = t.long;
      owned = t.owned;
      starting = λ p h. elim (or_cases (has t.start p) (has c.join.result.first p) (sym (c.union-self.ensures p) ∙ h)) [
        | inl s ↦ t.starting p s
        | inr s ↦ first_live _ c.args.rule.number _ _ _ e _ _ b g c.symbol-end.ensures t c.link.ensures c.join.result c.join.ensures p s
      ];
      ending = λ p h. elim (or_cases (has t.ends p) (has c.symbol-end.result.first p) (sym (c.union-self-2.ensures p) ∙ h)) [
        | inl s ↦ t.ending p s
        | inr s ↦ end_live _ c.args.rule.number _ _ _ e _ _ b g c.symbol-end.ensures t c.link.ensures c.join.result c.join.ensures p s
      ];
      followed = t.followed;
      follows = t.follows;
      together = t.together;
    }

pub returns : goal.returns
returns c e spelled =
    let made = c.build-part.ensures e spelled in
    let b = made.0 in
    let r = c.args.rule.number in
    let g = subst (λ (k : CodeRange). Gives r k c.give.result c.build-part.new.self c.give.new.self) c.none.ensures c.give.ensures in
    let s = c.symbol-end.ensures in
    let t = c.link.new.self in
    let l = c.link.ensures in
    let w = c.join.result in
    let j = c.join.ensures in
    record {
      body = body _ r _ _ _ e _ _ b g s;
      end = c.give.result;
      copy = body_copy _ r _ _ _ e _ _ b g s;
      distinct = distinct _ r _ _ _ e _ _ b g s;
      rows = end_rows _ r _ _ _ e _ _ b g s t l;
      rule = (end_beside _ r _ _ _ e _ _ b g s t l).rule;
      live = (end_beside _ r _ _ _ e _ _ b g s t l).live;
      kept = (end_beside _ r _ _ _ e _ _ b g s t l).kept;
      kinds = (end_beside _ r _ _ _ e _ _ b g s t l).holds.kinds ∙ c.put.ensures;
      start = started _ r _ _ _ e _ _ b g s t l w j c.union-self.result c.union-self.ensures;
      ends = ended_with _ r _ _ _ e _ _ b g s t l w j c.union-self-2.result c.union-self-2.ensures;
      note = (end_beside _ r _ _ _ e _ _ b g s t l).holds.note;
      count = omega (arith, made.1, g.count, ap size l.live);
    }
