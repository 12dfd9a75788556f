use Rattle.std.proofs.Common.{◌≡◌, List, ◌∷◌, refl, ap, ◌∙◌}
use Rattle.expression_book.specs.declared.part.Part.{Part}
use Rattle.expression_book.specs.Parts.{stacked}
use Rattle.expression_book.proofs.Obeyed.{stacked_more, stacked_less, shows_plus, obey_empty, obey_symbol, obey_join, obey_either, obey_star, obey_plus, obey_optional}
use Rattle.expression_book.proofs.table.Table.obey.Goals as goal

pub returns-in-Empty-clause-built : goal.returns-in-Empty-clause-built
returns-in-Empty-clause-built c a =
    let t = c.args.self.now in
    let v = c.args.waiting.now in
    let k = c.empty.result in
    obey_empty a c.args.rule t t (stacked v) (stacked c.push.new.self) (stacked v) k c.args.command (stacked_more v c.push.new.self k c.push.ensures.items)
    c.in-Empty.is refl c.empty.ensures

pub returns-in-Symbol-clause-built : goal.returns-in-Symbol-clause-built
returns-in-Symbol-clause-built c a =
    let v = c.args.waiting.now in
    let w = c.push-in-Symbol.new.self in
    let k = c.symbol.result in
    obey_symbol a c.args.rule c.args.self.now c.give-at.new.self (stacked v) (stacked w) (stacked v) k c.args.command
    (stacked_more v w k c.push-in-Symbol.ensures.items) c.in-Symbol.codes c.give-at.result c.in-Symbol.is refl c.give-at.ensures c.symbol.ensures

pub returns-in-Join-clause-built : goal.returns-in-Join-clause-built
returns-in-Join-clause-built c a =
    let v = c.args.waiting.now in
    let w = c.push-in-Join.new.self in
    let left = c.pop-in-Join.new.self in
    let ka = c.unwrap-a.result in
    let kb = c.unwrap-b.result in
    let two : stacked v ≡ kb ∷ ka ∷ stacked left =
    stacked_less v c.pop.new.self c.pop.result kb c.pop.ensures.items c.unwrap-b.ensures
    ∙ ap (λ (xs : List Part). kb ∷ xs) (stacked_less c.pop.new.self left c.pop-in-Join.result ka c.pop-in-Join.ensures.items c.unwrap-a.ensures) in
    obey_join a c.args.rule c.args.self.now c.link.new.self (stacked v) (stacked w) (stacked left) c.join.result c.args.command
    (stacked_more left w c.join.result c.push-in-Join.ensures.items) ka kb two c.in-Join.is c.link.ensures c.join.ensures

pub returns-in-Either-clause-built : goal.returns-in-Either-clause-built
returns-in-Either-clause-built c a =
    let v = c.args.waiting.now in
    let w = c.push-in-Either.new.self in
    let left = c.pop-in-Either-2.new.self in
    let ka = c.unwrap-a-in-Either.result in
    let kb = c.unwrap-b-in-Either.result in
    let two : stacked v ≡ kb ∷ ka ∷ stacked left =
    stacked_less v c.pop-in-Either.new.self c.pop-in-Either.result kb c.pop-in-Either.ensures.items c.unwrap-b-in-Either.ensures
    ∙ ap (λ (xs : List Part). kb ∷ xs) (stacked_less c.pop-in-Either.new.self left c.pop-in-Either-2.result ka c.pop-in-Either-2.ensures.items c.unwrap-a-in-Either.ensures) in
    obey_either a c.args.rule c.args.self.now c.args.self.now (stacked v) (stacked w) (stacked left) c.either.result c.args.command
    (stacked_more left w c.either.result c.push-in-Either.ensures.items) ka kb two c.in-Either.is c.either.ensures

pub returns-in-Star-clause-built : goal.returns-in-Star-clause-built
returns-in-Star-clause-built c a =
    let v = c.args.waiting.now in
    let w = c.push-in-Star.new.self in
    let left = c.pop-in-Star.new.self in
    let k = c.unwrap-a-in-Star.result in
    obey_star a c.args.rule c.args.self.now c.link-in-Star.new.self (stacked v) (stacked w) (stacked left) c.optional.result c.args.command
    (stacked_more left w c.optional.result c.push-in-Star.ensures.items) k (stacked_less v left c.pop-in-Star.result k c.pop-in-Star.ensures.items c.unwrap-a-in-Star.ensures) c.in-Star.is c.link-in-Star.ensures c.optional.ensures.often

pub returns-in-Plus-clause-built : goal.returns-in-Plus-clause-built
returns-in-Plus-clause-built c a =
    let v = c.args.waiting.now in
    let w = c.push-in-Plus.new.self in
    let left = c.pop-in-Plus.new.self in
    let k = c.unwrap-a-in-Plus.result in
    obey_plus a c.args.rule c.args.self.now c.link-in-Plus.new.self (stacked v) (stacked w) (stacked left) k c.args.command
    (stacked_more left w k c.push-in-Plus.ensures.items) k (stacked_less v left c.pop-in-Plus.result k c.pop-in-Plus.ensures.items c.unwrap-a-in-Plus.ensures) c.in-Plus.is c.link-in-Plus.ensures (shows_plus k)

pub returns-in-Optional-clause-built : goal.returns-in-Optional-clause-built
returns-in-Optional-clause-built c a =
    let v = c.args.waiting.now in
    let w = c.push-in-Optional.new.self in
    let left = c.pop-in-Optional.new.self in
    let k = c.unwrap-part.result in
    obey_optional a c.args.rule c.args.self.now c.args.self.now (stacked v) (stacked w) (stacked left) c.optional-in-Optional.result c.args.command
    (stacked_more left w c.optional-in-Optional.result c.push-in-Optional.ensures.items) k (stacked_less v left c.pop-in-Optional.result k c.pop-in-Optional.ensures.items c.unwrap-part.ensures) c.in-Optional.is c.optional-in-Optional.ensures.once
