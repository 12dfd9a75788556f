-- A session as its callers see it.
use Rattle.lines.specs.declared.command.BookName.TheVariants as name
use Rattle.sessions.specs.declared.session.AnyContext.{AnyContext}
use Rattle.sessions.specs.declared.session.AnyContext.TheVariants.{Numbers, Templates, Expressions, Events}
use Rattle.sessions.specs.declared.session.Session.{Session}
use Rattle.contexts.specs.Contexts.{use_of}
use Rattle.sessions.specs.Sessions.{Here}

-- a byte is its own code
abbrev pub here_in : AnyContext → Here
here_in (Numbers c) = record { book = name.Numbers; context = use_of c }
here_in (Templates c) = record { book = name.Templates; context = use_of c }
here_in (Expressions c) = record { book = name.Expressions; context = use_of c }
here_in (Events c) = record { book = name.Events; context = use_of c }

abbrev pub here_of : Session → Here
here_of s = here_in s.context
