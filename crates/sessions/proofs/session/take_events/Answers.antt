use Rattle.std.proofs.Common.{ℕ, List, ◌++◌, map, Ok, Err, string_bytes, Result, refl, ap, ◌∙◌, subst, MatchResult}
use Rattle.std.specs.List.{AllByRecursion}
use Rattle.symbols.specs.contracts.event.EventSymbol.TheImpl.{ghosts as event_symbol}
use Rattle.books.specs.Refusals.{told}
use Rattle.books.specs.declared.refusal.Refusal.TheVariants.{NoSuchEvent}
use Rattle.lines.specs.declared.command.Task.{Task}
use Rattle.event_words.specs.Words.{InRange, Named, NamesEach, Spells, named_code, words}
use Rattle.answers.specs.Texts.{refused_line}
use Rattle.contexts.specs.Contexts.{use_of}
use Rattle.passes.specs.Runs.{Answers, Misses}
use Rattle.contexts.specs.Uses.{Takes, Use, Wants, wanting_for}
use Rattle.passes.specs.declared.fault.Fault.{Fault}
use Rattle.passes.specs.declared.fault.Fault.TheVariants.{Malformed, NoMemory}
use Rattle.sessions.specs.Sessions.{LacksEvents, TakesEvents}
use Rattle.sessions.specs.Sessions.TakesEvents.{named, refused}
use Rattle.sessions.specs.Sessions.LacksEvents.{no_words, wanted}
use Rattle.sessions.proofs.session.take_events.Goals as goal

-- what is done with the events that a text names
taken : {S : Type 0} (task : Task) (text : List ℕ) (u w : Use) (s t : S) (before after : List ℕ) (ns : List Named) → NamesEach (words text) ns → AllByRecursion InRange ns → (r : Result (Unit {0}) Fault)
    → MatchResult r (λ _. Answers (Takes task (map named_code ns) u w) before after) (λ f. Misses (Wants (wanting_for task) u) f s t before after)
    → MatchResult r (λ _. Answers (TakesEvents task text u w) before after) (λ f. Misses (LacksEvents task text u) f s t before after)
taken task text u w s t before after ns names range (Ok x) h = (h.0, h.1, named ns names range h.2)
taken task text u w s t before after ns names range (Err (Malformed x)) h = (wanted ns names range h.0, h.1, h.2)
taken task text u w s t before after ns names range (Err NoMemory) h = tt

pub returns-in-Ok : goal.returns-in-Ok
returns-in-Ok c =
    let code = event_symbol.code in
    let task = c.args.task in
    let u = use_of c.args.context.now in
    let w = use_of c.take.new.self in
    let before = string_bytes c.args.out.now in
    let after = string_bytes c.take.new.out in
    let h = c.in-Ok.ensures in
    taken task c.args.text.now u w c.args.context.now c.take.new.self before after h.0 h.1 h.2 c.take.result
    (subst (λ cs. MatchResult c.take.result (λ _. Answers (Takes task cs u w) before after) (λ f. Misses (Wants (wanting_for task) u) f c.args.context.now c.take.new.self before after))
    (ap (map code) c.deref.ensures.value ∙ h.3) c.take.ensures)

pub returns-in-Err-Malformed : goal.returns-in-Err-Malformed
returns-in-Err-Malformed c = (no_words (subst (λ x. Spells c.args.text.now (Err x)) c.in-Err-Malformed.field-0-is c.in-Err-Malformed.ensures), refl, refl)

pub returns-in_ok-refused-in-Err-OutOfRange : goal.returns-in_ok-refused-in-Err-OutOfRange
returns-in_ok-refused-in-Err-OutOfRange c =
    let h = subst (λ x. Spells c.args.text.now (Err x)) c.in-Err-OutOfRange.field-0-is c.in-Err-OutOfRange.ensures in
    (refused_line (told NoSuchEvent), c.in_ok-refused-in-Err-OutOfRange.ensures ∙ ap (λ t. string_bytes c.args.out.now ++ refused_line t) c.tell.ensures, refused h.0 h.1 h.2 refl)
