use Rattle.std.proofs.Common.{string_bytes, refl, subst, map-id, MatchResult}
use Rattle.passes.specs.Runs.{Answers, Misses}
use Rattle.contexts.specs.Uses.{Takes, Wants, wanting_for}
use Rattle.sessions.specs.Sessions.{LacksText, TakesText}
use Rattle.sessions.specs.Views.{here_in}
use Rattle.sessions.specs.declared.session.AnyContext.TheVariants.{Numbers, Templates, Expressions, Events}
use Rattle.sessions.proofs.Dispatch.{dispatched}
use Rattle.sessions.proofs.session.Session.take.Goals as goal

pub returns-in-Numbers : goal.returns-in-Numbers
returns-in-Numbers c =
    let task = c.args.task in
    let text = c.args.text.now in
    let cur = c.in-Numbers.context in
    let last = c.take.new.self in
    let before = string_bytes c.args.out.now in
    let after = string_bytes c.take.new.out in
    dispatched Numbers (λ book. TakesText book task text) (λ book. LacksText book task text) c.args.self.now cur last before after c.in-Numbers.is c.take.result refl
    (subst (λ t. MatchResult c.take.result (λ _. Answers (Takes task t (here_in (Numbers cur)).context (here_in (Numbers last)).context) before after) (λ f. Misses (Wants (wanting_for task) (here_in (Numbers cur)).context) f cur last before after))
    (map-id text) c.take.ensures)

pub returns-in-Templates : goal.returns-in-Templates
returns-in-Templates c =
    let task = c.args.task in
    let text = c.args.text.now in
    let cur = c.in-Templates.context in
    let last = c.take-in-Templates.new.self in
    let before = string_bytes c.args.out.now in
    let after = string_bytes c.take-in-Templates.new.out in
    dispatched Templates (λ book. TakesText book task text) (λ book. LacksText book task text) c.args.self.now cur last before after c.in-Templates.is c.take-in-Templates.result refl
    (subst (λ t. MatchResult c.take-in-Templates.result (λ _. Answers (Takes task t (here_in (Templates cur)).context (here_in (Templates last)).context) before after) (λ f. Misses (Wants (wanting_for task) (here_in (Templates cur)).context) f cur last before after))
    (map-id text) c.take-in-Templates.ensures)

pub returns-in-Expressions : goal.returns-in-Expressions
returns-in-Expressions c =
    let task = c.args.task in
    let text = c.args.text.now in
    let cur = c.in-Expressions.context in
    let last = c.take-in-Expressions.new.self in
    let before = string_bytes c.args.out.now in
    let after = string_bytes c.take-in-Expressions.new.out in
    dispatched Expressions (λ book. TakesText book task text) (λ book. LacksText book task text) c.args.self.now cur last before after c.in-Expressions.is c.take-in-Expressions.result refl
    (subst (λ t. MatchResult c.take-in-Expressions.result (λ _. Answers (Takes task t (here_in (Expressions cur)).context (here_in (Expressions last)).context) before after) (λ f. Misses (Wants (wanting_for task) (here_in (Expressions cur)).context) f cur last before after))
    (map-id text) c.take-in-Expressions.ensures)

pub returns-in-Events : goal.returns-in-Events
returns-in-Events c =
    let task = c.args.task in
    let text = c.args.text.now in
    dispatched Events (λ book. TakesText book task text) (λ book. LacksText book task text) c.args.self.now c.in-Events.context c.take_events.new.context
    (string_bytes c.args.out.now) (string_bytes c.take_events.new.out) c.in-Events.is c.take_events.result refl c.take_events.ensures
