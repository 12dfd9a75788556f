use Rattle.std.proofs.Common.{◌≡◌, ℕ, sym, refl, ap, ◌∙◌, subst}
use Rattle.books.specs.Meaning.{Model}
use Rattle.numbers.specs.contracts.book.reading.NumberBookBook.TheImpl.{ghosts as number_reading}
use Rattle.templates.specs.contracts.book.reading.TemplateBookBook.TheImpl.{ghosts as template_reading}
use Rattle.expression_book.specs.Tables.{book_model}
use Rattle.lines.specs.declared.command.BookName.{BookName}
use Rattle.lines.specs.declared.command.BookName.TheVariants as name
use Rattle.contexts.specs.Uses.{Use, new_use}
use Rattle.contexts.specs.Contexts.{use_of}
use Rattle.sessions.specs.Sessions.{Here, NewBook}
use Rattle.sessions.proofs.session.Session.new.Goals as goal

-- a new reader is in use, over a new book of the name that was asked for
opened : (book n : BookName) (u : Use) (b : Model) (edition : ℕ) → book ≡ n → NewBook n b → u ≡ new_use b edition →
    (x : Model) × NewBook book x × (◌≡◌ {A = Here} (record { book = n; context = u }) (record { book = book; context = new_use x edition }))
opened book n u b edition is new e =
    (b, subst (λ m. NewBook m b) (sym is) new, ap (λ x. record { book = n; context = x }) e ∙ ap (λ m. record { book = m; context = new_use b edition }) (sym is))

pub returns-in_ok-in_use-in-Numbers : goal.returns-in_ok-in_use-in-Numbers
returns-in_ok-in_use-in-Numbers c =
    opened c.args.book name.Numbers (use_of c.in_ok-in_use-in-Numbers.field-0) (number_reading.model c.new.result) c.args.edition c.in-Numbers.is
    c.new.ensures.model c.in_ok-in_use-in-Numbers.ensures

pub returns-in_ok-in_use-in-Templates : goal.returns-in_ok-in_use-in-Templates
returns-in_ok-in_use-in-Templates c =
    let h = c.new-in-Templates.ensures in
    opened c.args.book name.Templates (use_of c.in_ok-in_use-in-Templates.field-0) (template_reading.model c.new-in-Templates.result) c.args.edition c.in-Templates.is
    (h.rules, h.texts, h.note, refl) c.in_ok-in_use-in-Templates.ensures

pub returns-in_ok-in_use-in-Expressions : goal.returns-in_ok-in_use-in-Expressions
returns-in_ok-in_use-in-Expressions c =
    let h = c.new-in-Expressions.ensures in
    opened c.args.book name.Expressions (use_of c.in_ok-in_use-in-Expressions.field-0) (book_model c.new-in-Expressions.result) c.args.edition c.in-Expressions.is
    (h.rules, h.texts, h.note, refl) c.in_ok-in_use-in-Expressions.ensures

pub returns-in_ok-in_use-in-Events : goal.returns-in_ok-in_use-in-Events
returns-in_ok-in_use-in-Events c =
    let h = c.new-in-Events.ensures in
    opened c.args.book name.Events (use_of c.in_ok-in_use-in-Events.field-0) (book_model c.new-in-Events.result) c.args.edition c.in-Events.is
    (h.rules, h.texts, h.note, refl) c.in_ok-in_use-in-Events.ensures
