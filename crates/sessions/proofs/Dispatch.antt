-- What the reader in use answers is answered by the session that holds it.
use Rattle.std.proofs.Common.{◌≡◌, ℕ, List, Ok, Err, Result, sym, ap, ◌∙◌, subst, MatchResult}
use Rattle.lines.specs.declared.command.BookName.{BookName}
use Rattle.lines.specs.declared.command.Expected.{Expected}
use Rattle.passes.specs.Runs.{Answers, Misses}
use Rattle.passes.specs.declared.fault.Fault.{Fault}
use Rattle.passes.specs.declared.fault.Fault.TheVariants.{Malformed, NoMemory}
use Rattle.contexts.specs.Uses.{Use}
use Rattle.sessions.specs.Sessions.{Missing, Within}
use Rattle.sessions.specs.Views.{here_in, here_of}
use Rattle.sessions.specs.declared.session.AnyContext.{AnyContext}
use Rattle.sessions.specs.declared.session.Session.{Session}

-- the session s holds the context `cur`, which becomes `last`
module _ {B : Type 0} (pack : B → AnyContext) (R : BookName → Use → Use → List ℕ → Type 0) (L : BookName → Use → Expected → Type 0) (s : Session) (cur last : B) (before after : List ℕ) (is : s.context ≡ pack cur) where
  pub dispatched : (r : Result (Unit {0}) Fault) → (here_in (pack last)).book ≡ (here_in (pack cur)).book
      → MatchResult r (λ _. Answers (R (here_in (pack cur)).book (here_in (pack cur)).context (here_in (pack last)).context) before after) (λ f. Misses (Missing L (here_in (pack cur))) f cur last before after)
      → MatchResult r (λ _. Answers (Within R (here_of s) (here_in (pack last))) before after) (λ f. Misses (Missing L (here_of s)) f s (record { context = pack last }) before after)
  dispatched (Ok x) same h = subst (λ a. Answers (Within R (here_in a) (here_in (pack last))) before after) (sym is) (h.0, h.1, (same, h.2))
  dispatched (Err (Malformed x)) same h =
      (subst (λ a. Missing L (here_in a) x) (sym is) h.0, ap (λ c. record { context = pack c }) h.1 ∙ ap (λ a. record { context = a }) (sym is), h.2)
  dispatched (Err NoMemory) same h = tt
