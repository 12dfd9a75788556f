-- What a command does in a session, and the text of its answer.
use Rattle.std.specs.Prelude.{◌≡◌, ℕ, false, ◌⊎◌, List, map, Some, None, Ok, Err, codes, Option, Result}
use Rattle.std.specs.List.{AllByRecursion}
use Rattle.states.specs.Sets.{has_rule}
use Rattle.books.specs.Meaning.{Model, counting}
use Rattle.books.specs.Refusals.{told}
use Rattle.books.specs.declared.refusal.Refusal.TheVariants.{NoSuchEvent}
use Rattle.books.specs.Texts.{meets}
use Rattle.books.specs.Changes.{delete_refusal}
use Rattle.readings.specs.Views.{View}
use Rattle.readings.specs.Readings.{Told}
use Rattle.readings.specs.Calls.{Call}
use Rattle.readings.specs.Calls.Call.{add, delete}
use Rattle.readings.specs.Changing.{Acts}
use Rattle.reader.specs.Answers.{change_refusal}
use Rattle.numbers.specs.Number.{number_model}
use Rattle.templates.specs.Templates.{TemplateAdded, TemplateDeleted, template_refusal}
use Rattle.expressions.specs.Rules.{refusal as expression_refusal}
use Rattle.alike.specs.Runs.{ExpressionActs}
use Rattle.patterns.specs.Outcome.{outcome}
use Rattle.patterns.specs.Reading.{E, written as written_commands}
use Rattle.patterns.specs.Refusals.{told as fault_told}
use Rattle.patterns.specs.declared.faults.PatternFault.{PatternFault}
use Rattle.event_words.specs.Words.{InRange, Named, NamesEach, named_code, words}
use Rattle.lines.specs.Hex.{written}
use Rattle.lines.specs.Lines.{Misspells, Spells}
use Rattle.lines.specs.declared.command.BookName.{BookName}
use Rattle.lines.specs.declared.command.BookName.TheVariants.{Numbers, Templates, Expressions, Events}
use Rattle.lines.specs.declared.command.Expected.{Expected}
use Rattle.lines.specs.declared.command.Expected.TheVariants as expected
use Rattle.lines.specs.declared.command.Task.{Task}
use Rattle.lines.specs.declared.command.Command.{Command}
use Rattle.lines.specs.declared.command.Command.TheVariants as command
use Rattle.answers.specs.Texts.{new_line, last_line, pattern_line, refused_line, shown_bytes, shown_events}
use Rattle.contexts.specs.Uses.{Use, new_use, Changes, Obeys, Shows, Takes, Wants, wanting, wanting_cursor, wanting_for}

-- The name of the book in use, and the reader over it.
pub record Here : Type 0 where
  pub book : BookName
  pub context : Use

-- the reader changes as R says of the book in use, which stays
abbrev pub Within : (BookName → Use → Use → List ℕ → Type 0) → Here → Here → List ℕ → Type 0
Within R h k answer = (k.book ≡ h.book) × R h.book h.context k.context answer

-- what is missing over the book in use, as L says
abbrev pub Missing : (BookName → Use → Expected → Type 0) → Here → Expected → Type 0
Missing L h x = L h.book h.context x

-- ── Changes ──

-- what a change does over templates: the rule is the template that its bytes spell; a deleted one is gone; the others stay
abbrev pub TemplateActs : Call → Told → ℕ → View → View → Type 0
TemplateActs = Acts template_refusal (λ r k bytes. TemplateAdded r bytes) TemplateDeleted

-- a rule is added by its bytes: to a template book, or to an expression book
abbrev pub AddsTemplate : List ℕ → ℕ → ℕ → List ℕ → Use → Use → List ℕ → Type 0
AddsTemplate word rule kind bytes u w answer =
    Changes word rule TemplateActs (add rule kind bytes) (change_refusal u.reader.edition (template_refusal u.reader.book.meaning rule kind bytes)) u w answer

abbrev pub AddsExpression : ℕ → List ℕ → ℕ → ℕ → List ℕ → Use → Use → List ℕ → Type 0
AddsExpression last word rule kind bytes u w answer =
    Changes word rule (ExpressionActs last) (add rule kind bytes) (change_refusal u.reader.edition (expression_refusal last u.reader.book.meaning rule kind bytes)) u w answer

-- a rule is added to the book of this name by its own bytes
abbrev pub Codes : BookName → ℕ → ℕ → List ℕ → Use → Use → List ℕ → Type 0
Codes Numbers rule kind bytes u w answer = ⊥
Codes Templates rule kind bytes u w answer = AddsTemplate (codes "code") rule kind bytes u w answer
Codes Expressions rule kind bytes u w answer = AddsExpression 255 (codes "code") rule kind bytes u w answer
Codes Events rule kind bytes u w answer = AddsExpression 65535 (codes "code") rule kind bytes u w answer

-- a rule is added by the commands that a pattern text comes to; where the text is refused, that is answered, and nothing else is done
abbrev pub AddsPattern : ℕ → ℕ → Result E PatternFault → Use → Use → List ℕ → Type 0
AddsPattern rule kind (Ok e) u w answer = AddsExpression 255 (codes "add") rule kind (written_commands e) u w answer
AddsPattern rule kind (Err f) u w answer = (w ≡ u) × (answer ≡ refused_line (fault_told f))

-- a rule is added to the book of this name by the text that a person types for it
abbrev pub Adds : BookName → ℕ → ℕ → List ℕ → Use → Use → List ℕ → Type 0
Adds Numbers rule kind text u w answer = ⊥
Adds Templates rule kind text u w answer = AddsTemplate (codes "add") rule kind text u w answer
Adds Expressions rule kind text u w answer = AddsPattern rule kind (outcome text) u w answer
Adds Events rule kind text u w answer = ⊥

-- a rule of the book of this name is deleted
abbrev DeletesRule : (Call → Told → ℕ → View → View → Type 0) → ℕ → Use → Use → List ℕ → Type 0
DeletesRule acts rule u w answer =
    Changes (codes "delete") rule acts (delete rule) (change_refusal u.reader.edition (delete_refusal u.reader.book.meaning rule)) u w answer

abbrev pub Deletes : BookName → ℕ → Use → Use → List ℕ → Type 0
Deletes Numbers rule u w answer = ⊥
Deletes Templates rule u w answer = DeletesRule TemplateActs rule u w answer
Deletes Expressions rule u w answer = DeletesRule (ExpressionActs 255) rule u w answer
Deletes Events rule u w answer = DeletesRule (ExpressionActs 65535) rule u w answer

-- what a change of the book of this name wants: a book whose rules can be changed
abbrev pub wanting_change : BookName → Option Expected
wanting_change Numbers = Some expected.Changing
wanting_change Templates = None
wanting_change Expressions = None
wanting_change Events = None

abbrev pub LacksChange : BookName → Use → Expected → Type 0
LacksChange book u x = wanting_change book ≡ Some x

-- and where a rule is added by what a person types, a book whose rules are typed
abbrev pub wanting_typed : BookName → Option Expected
wanting_typed Numbers = Some expected.Changing
wanting_typed Templates = None
wanting_typed Expressions = None
wanting_typed Events = Some expected.Code

abbrev pub LacksTyped : BookName → Use → Expected → Type 0
LacksTyped book u x = wanting_typed book ≡ Some x

-- whatever is in use suffices
abbrev pub NeverLacks : Use → Expected → Type 0
NeverLacks u x = ⊥

-- ── Pattern texts ──

-- what is answered of a pattern text: its commands, or its refusal
abbrev pub pattern_answer : Result E PatternFault → List ℕ
pattern_answer (Ok e) = pattern_line (written_commands e)
pattern_answer (Err f) = refused_line (fault_told f)

-- a pattern text is told, and what is in use stays
abbrev pub TellsPattern : List ℕ → Here → Here → List ℕ → Type 0
TellsPattern text h k answer = (k ≡ h) × (answer ≡ pattern_answer (outcome text))

-- ── Texts ──

-- Over events a text is words. Where one names no event, it is refused, and nothing else is done.
pub data TakesEvents (task : Task) (text : List ℕ) (u w : Use) : List ℕ → Type 0 where
  named : {answer : List ℕ} (ns : List Named) → NamesEach (words text) ns → AllByRecursion InRange ns → Takes task (map named_code ns) u w answer → TakesEvents task text u w answer
  refused : (ns : List Named) → NamesEach (words text) ns → (AllByRecursion InRange ns → ⊥) → w ≡ u → TakesEvents task text u w (refused_line (told NoSuchEvent))

-- what is done with a text over the book of this name
abbrev pub TakesText : BookName → Task → List ℕ → Use → Use → List ℕ → Type 0
TakesText Numbers task text u w answer = Takes task text u w answer
TakesText Templates task text u w answer = Takes task text u w answer
TakesText Expressions task text u w answer = Takes task text u w answer
TakesText Events task text u w answer = TakesEvents task text u w answer

-- what is expected of a text over events that is not taken: words, or what the task wants
pub data LacksEvents (task : Task) (text : List ℕ) (u : Use) : Expected → Type 0 where
  no_words : ((ns : List Named) → NamesEach (words text) ns → ⊥) → LacksEvents task text u expected.Events
  wanted : {x : Expected} (ns : List Named) → NamesEach (words text) ns → AllByRecursion InRange ns → wanting_for task u ≡ Some x → LacksEvents task text u x

abbrev pub LacksText : BookName → Task → List ℕ → Use → Expected → Type 0
LacksText Numbers task text u x = wanting_for task u ≡ Some x
LacksText Templates task text u x = wanting_for task u ≡ Some x
LacksText Expressions task text u x = wanting_for task u ≡ Some x
LacksText Events task text u x = LacksEvents task text u x

-- how the last token is shown
abbrev pub shown : BookName → List ℕ → List ℕ
shown Numbers = shown_bytes
shown Templates = shown_bytes
shown Expressions = shown_bytes
shown Events = shown_events

-- ── Commands ──

-- no rule is in force, no text meets one, and the book was not yet asked; its note counts how often it is
abbrev pub Blank : Model → Type 0
Blank b =
    ((rule : ℕ) → b.meaning.kind rule ≡ None) × ((text : List ℕ) (rule : ℕ) → has_rule (meets b.meaning text) rule ≡ false) × (b.note ≡ 0)
    × (b.noted ≡ counting)

-- a new book of this name
abbrev pub NewBook : BookName → Model → Type 0
NewBook Numbers b = b ≡ number_model 0
NewBook Templates b = Blank b
NewBook Expressions b = Blank b
NewBook Events b = Blank b

-- a command is run and answered
abbrev pub Runs : Command → Here → Here → List ℕ → Type 0
Runs (command.New book edition) h k answer =
    (b : Model) × NewBook book b × (k ≡ record { book = book; context = new_use b edition }) × (answer ≡ new_line book edition)
Runs (command.Add rule kind text) h k answer = Within (λ book. Adds book rule kind text.now) h k answer
Runs (command.Code rule kind digits) h k answer = Within (λ book. Codes book rule kind (written digits.now)) h k answer
Runs (command.Delete rule) h k answer = Within (λ book. Deletes book rule) h k answer
Runs (command.Pattern text) h k answer = TellsPattern text.now h k answer
Runs (command.PatternHex digits) h k answer = TellsPattern (written digits.now) h k answer
Runs (command.Plain task text) h k answer = Within (λ book. TakesText book task text.now) h k answer
Runs (command.Hex task digits) h k answer = Within (λ book. TakesText book task (written digits.now)) h k answer
Runs command.Last h k answer = Within (λ book. Shows (last_line (shown book))) h k answer
Runs (command.Order order) h k answer = Within (λ _. Obeys order) h k answer

-- x is what a command wants that is not there: a book that can be changed, or a cursor, or a walk, or words of events
abbrev pub Lacks : Command → Here → Expected → Type 0
Lacks (command.New book edition) h x = ⊥
Lacks (command.Add rule kind text) h x = Missing LacksTyped h x
Lacks (command.Code rule kind digits) h x = Missing LacksChange h x
Lacks (command.Delete rule) h x = Missing LacksChange h x
Lacks (command.Pattern text) h x = ⊥
Lacks (command.PatternHex digits) h x = ⊥
Lacks (command.Plain task text) h x = Missing (λ book. LacksText book task text.now) h x
Lacks (command.Hex task digits) h x = Missing (λ book. LacksText book task (written digits.now)) h x
Lacks command.Last h x = Missing (λ _. Wants wanting_cursor) h x
Lacks (command.Order order) h x = Missing (λ _. Wants (wanting order)) h x

-- ── Lines ──

-- the line spells a command, which is run and answered
abbrev pub RunsLine : List ℕ → Here → Here → List ℕ → Type 0
RunsLine line h k answer = (c : Command) × Spells line c × Runs c h k answer

-- x is expected of a line that cannot be run: it spells no command, for want of x, or it spells one that lacks x
abbrev pub Unfit : List ℕ → Here → Expected → Type 0
Unfit line h x = (Misspells line x × ((c : Command) → Spells line c → ⊥)) ⊎ ((c : Command) × Spells line c × Lacks c h x)
