use Rattle.std.proofs.Common.{string_bytes, sym, refl, subst}
use Rattle.passes.specs.Runs.{Answers}
use Rattle.sessions.specs.Sessions.{Runs}
use Rattle.sessions.specs.Views.{here_of}
use Rattle.answers.specs.Texts.{new_line}
use Rattle.sessions.proofs.session.Session.run.Goals as goal

pub returns-in_ok-new_reader-in-New : goal.returns-in_ok-new_reader-in-New
returns-in_ok-new_reader-in-New c =
    let h = c.in_ok-self-in-New.ensures in
    subst (λ k. Answers (Runs k (here_of c.args.self.now) (here_of c.in_ok-self-in-New.field-0)) (string_bytes c.args.out.now) (string_bytes c.new_reader.new.out))
    (sym c.in-New.is) (new_line c.in-New.book c.in-New.edition, c.in_ok-new_reader-in-New.ensures, (h.0, h.1, h.2, refl))
