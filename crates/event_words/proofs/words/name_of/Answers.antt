use Rattle.std.proofs.Common.{◌≡◌, ℕ, List, Some, None, Ok, Err, Option, Result, MatchResult, sym, ap, ◌∙◌, subst, lit≤, rules}
use Rattle.std.specs.Option.{option_copied}
use Rattle.std.specs.Result.{result_ok}
use Rattle.lines.specs.Numerals.{Number}
use Rattle.lines.specs.Parts.{Parts}
use Rattle.lines.specs.declared.command.Expected.{Expected}
use Rattle.lines.specs.declared.command.Expected.TheVariants as expected
use Rattle.lines.proofs.Leading.{digits_lack}
use Rattle.lines.proofs.Parting.{one_parting}
use Rattle.event_words.specs.Words.{Named, Names}
use Rattle.event_words.proofs.words.name_of.Goals as goal

-- a word that names an event is parted at its point
named_parts : (word first : List ℕ) (rest : Option (List ℕ)) (n : Named) → Parts 46 word first rest → Names word n →
    (d : List ℕ) × (rest ≡ Some d) × Number first n.machine × Number d n.kind
named_parts word first rest n h k =
    let lacks = digits_lack 46 (lit≤ tt) k.0 k.3.0.1 in
    let s = one_parting 46 word first k.0 rest (Some k.1) h (lacks, k.2) in
    (k.1, s.1, subst (λ d. Number d n.machine) (sym s.0) k.3, k.4)

-- what gave no number writes none
no_number : (d : List ℕ) (r : Result ℕ Expected) → MatchResult r (λ n. Number d n) (λ x. (x ≡ expected.Number) × ((n : ℕ) → Number d n → ⊥)) → result_ok r ≡ None → (n : ℕ) → Number d n → ⊥
no_number d (Ok x) h e = cc
no_number d (Err x) h e = h.1

one : (o : Option (List ℕ)) (d e : List ℕ) → o ≡ Some d → o ≡ Some e → d ≡ e
one o d e h k = cc

pub returns-in_err-machine : goal.returns-in_err-machine
returns-in_err-machine c =
    let none : result_ok c.saturated.result ≡ None = search rules in
    rw c.from_residual.ensures (λ n h. no_number _ c.saturated.result c.saturated.ensures none n.machine (named_parts _ _ _ n c.part.ensures h).2)

pub returns-in_err-rest : goal.returns-in_err-rest
returns-in_err-rest c =
    rw c.from_residual-in_err-rest.ensures
    (λ n h.
    let k = named_parts _ _ _ n c.part.ensures h in
    let both : ◌≡◌ {A = Option (List ℕ)} None (Some k.0) = sym (ap option_copied c.in_err-rest.was) ∙ k.1 in
    cc)

pub returns-in_err-kind : goal.returns-in_err-kind
returns-in_err-kind c =
    let none : result_ok c.saturated-2.result ≡ None = search rules in
    rw c.from_residual-in_err-kind.ensures
    (λ n h.
    let k = named_parts _ _ _ n c.part.ensures h in
    let e : k.0 ≡ c.in_ok-rest.field-0.now = one _ _ _ k.1 (ap option_copied c.in_ok-rest.was) in
    no_number _ c.saturated-2.result c.saturated-2.ensures none n.kind (subst (λ d. Number d n.kind) e k.3))
