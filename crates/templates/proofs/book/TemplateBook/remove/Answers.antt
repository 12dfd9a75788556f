use Rattle.std.proofs.Common.{◌%◌, Bool, not, ◌&&◌, ltb, sym, ap, ◌∙◌}
use Rattle.templates.specs.Tables.{at}
use Rattle.templates.specs.Templates.{owned}
use Rattle.templates.proofs.Invariants.{removal_taking}
use Rattle.templates.proofs.book.TemplateBook.remove.Goals as goal

pub invariant_of-self-clause-taking : goal.invariant_of-self-clause-taking
invariant_of-self-clause-taking c q p h =
    let a = c.args.self.now in
    let gone = c.clear.ensures.members q p ∙ ap (λ (x : Bool). at a.takes q p && not x) (c.block-gone.ensures p) in
    ap (λ ks. owned ks p && ltb (p % 32) 31) c.remove.ensures ∙ removal_taking a c.args.rule.number c.args.rule.below q p (sym gone ∙ h)
