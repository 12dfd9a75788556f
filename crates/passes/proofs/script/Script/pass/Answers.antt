use Rattle.std.proofs.Common.{[], string_bytes, sym, refl, ap, ◌∙◌, inl, inr, append-nil}
use Rattle.std.proofs.lemmas.Bool.{both_ways}
use Rattle.answers.specs.Texts.{malformed_line}
use Rattle.passes.proofs.Steps.{on_ok_map}
use Rattle.passes.proofs.script.Script.pass.Goals as goal

pub returns-then-is_skipped : goal.returns-then-is_skipped
returns-then-is_skipped g c = (
  record { answers = []; reports = [] },
  sym (append-nil (string_bytes c.args.out.now)),
  sym (append-nil (string_bytes c.args.errors.now)),
  record {
    script = c.args.script.now;
    line = c.part.result.first.now;
    here = c.requires;
    parts = c.part.ensures;
    count = c.saturating_add-self.ensures;
    done = inl (c.is_skipped.ensures.0 c.if-is_skipped.true, refl, refl, refl, refl);
  },
)

pub returns-in-Ok : goal.returns-in-Ok
returns-in-Ok g c =
    let h = c.in-Ok.ensures in (
      record { answers = h.0; reports = [] },
      h.1,
      sym (append-nil (string_bytes c.args.errors.now)),
      record {
        script = c.args.script.now;
        line = c.part.result.first.now;
        here = c.requires;
        parts = c.part.ensures;
        count = c.saturating_add-self.ensures;
        done = inr (inl (λ k. both_ways _ c.if-is_skipped.false (c.is_skipped.ensures.1 k), h.2, refl, refl));
      },
    )

pub returns-in-Err-Malformed : goal.returns-in-Err-Malformed
returns-in-Err-Malformed g c =
    let h = rw c.in-Err-Malformed.field-0-is at c.in-Err-Malformed.ensures in
    on_ok_map c.malformed.result
    (λ e. (
      record { answers = []; reports = malformed_line c.saturating_add-self.result c.in-Err-Malformed.expected },
      h.2 ∙ sym (append-nil (string_bytes c.args.out.now)),
      e,
      record {
        script = c.args.script.now;
        line = c.part.result.first.now;
        here = c.requires;
        parts = c.part.ensures;
        count = c.saturating_add-self.ensures;
        done =
            inr (inr (λ k. both_ways _ c.if-is_skipped.false (c.is_skipped.ensures.1 k), c.in-Err-Malformed.expected, h.0, ap g.S.LineRunner.seen h.1, refl, refl, refl));
      },
    ))
    c.malformed.ensures
