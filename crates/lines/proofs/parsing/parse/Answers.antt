use Rattle.std.proofs.Common.{◌≡◌, ℕ, List, Ok, Err, Option, Result, sym, refl, inl, inr, ap, ◌∙◌, subst}
use Rattle.lines.specs.Lines.{Answers, Expects, Makes, Misspells, Parses, joined, spelling}
use Rattle.lines.specs.Parts.{Parts}
use Rattle.lines.specs.declared.command.Command.{Command}
use Rattle.lines.specs.declared.command.Expected.{Expected}
use Rattle.lines.specs.declared.word.Word.{Word}
use Rattle.lines.proofs.Parting.{parts_joined}
use Rattle.lines.proofs.Refusing.{err_by}
use Rattle.lines.proofs.Spelling.{first_word, none_made}
use Rattle.lines.proofs.parsing.parse.Goals as goal

answered : (line first : List ℕ) (rest : Option (List ℕ)) → Parts 32 line first rest → (w : Word) → first ≡ spelling w → (r : Result Command Expected) → Parses (Makes w rest) (Expects w rest) r → Answers line r
answered line first rest parts w is (Ok c) h = (w, rest, parts_joined line first rest parts ∙ ap (λ f. joined f rest) is, h)
answered line first rest parts w is (Err x) h =
    (inr (w, rest, parts_joined line first rest parts ∙ ap (λ f. joined f rest) is, h.0), none_made Makes line first rest parts w is h.1)

pub returns-in_err-word : goal.returns-in_err-word
returns-in_err-word c =
    err_by _ _ c.in_err-word.field-0.0 c.from_residual.result c.from_residual.ensures.1 (
      subst (Misspells c.args.line.now) (sym c.in_err-word.ensures.0) (inl (
        refl,
        λ w rest e.
            let f = first_word {C = Unit {0}} (λ _ _ _. Unit {0}) _ _ _ c.part.ensures tt (w, rest, e, tt) in
            c.in_err-word.ensures.1 f.0 f.1,
      )),
      λ k h. let f = first_word Makes _ _ _ c.part.ensures k h in c.in_err-word.ensures.1 f.0 f.1,
    )

pub returns : goal.returns
returns c = answered _ _ _ c.part.ensures c.in_ok-word.word c.in_ok-word.ensures c.with_arguments.result c.with_arguments.ensures
