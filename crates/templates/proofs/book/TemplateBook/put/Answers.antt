use Rattle.std.proofs.Common.{◌%◌, Bool, ◌&&◌, ◌||◌, eqb, ltb, sym, ap, ◌∙◌, arith}
use Rattle.states.specs.Sets.{has}
use Rattle.templates.specs.Templates.{owned}
use Rattle.templates.proofs.Invariants.{put_lives, put_starts, put_ending, put_taking}
use Rattle.templates.proofs.book.TemplateBook.put.Goals as goal

pub invariant_of-self : goal.invariant_of-self
invariant_of-self c =
    let a = c.args.self.now in
    let r = c.args.rule.number in
    let k = c.args.rule.kind in
    let t = c.args.bytes.now in
    let low = c.args.rule.below in
    record {
      size = c.place.ensures.size;
      lives = λ p. c.union-self.ensures p ∙ ap (λ (x : Bool). has a.live p || x) (c.block.ensures p) ∙ put_lives a r k low p ∙ sym (ap (λ ks. owned ks p) c.put.ensures);
      starts = λ p. c.with-self.ensures.alone (omega arith) p ∙ put_starts a r k low c.requires.free p ∙ sym (ap (λ ks. owned ks p && eqb (p % 32) 0) c.put.ensures);
      ending = λ p h. ap (λ ks. owned ks p) c.put.ensures ∙ put_ending a r k low t c.requires.short p (sym (c.with-self-2.ensures.alone (omega arith) p) ∙ h);
      taking = λ q p h. ap (λ ks. owned ks p && ltb (p % 32) 31) c.put.ensures ∙ put_taking a r k low t c.requires.short q p (sym (c.place.ensures.members q p) ∙ h);
    }
