-- What is told of a pattern text is what the grammar's rules say, and a rule by its commands is met by what its pattern means.
use Rattle.std.proofs.Common.{◌≡◌, ℕ, ◌<◌, true, List, [], length, slice_index, Err, cond, ◌↔◌, sym, ap, subst, lt-ltb, le-ltb}
use Rattle.std.specs.List.{EachIndex}
use Rattle.states.specs.Sets.{has_rule}
use Rattle.books.specs.Texts.{meets}
use Rattle.expressions.specs.Expression.{plain, Language, Denotes}
use Rattle.expressions.proofs.Owned.{plain_denotes}
use Rattle.patterns.specs.declared.faults.PatternFault.TheVariants.{TooLong}
use Rattle.patterns.specs.Outcome.{outcome}
use Rattle.patterns.specs.Reading.{fresh, read}
use Rattle.patterns.specs.Rules.{ByGrammar, MetAsMeant}
use Rattle.patterns.proofs.GrammarMeant.{meant_by, meant_once, worked}
use Rattle.patterns.proofs.GrammarClasses.{class_runs}

met_as_meant : (text : List ℕ) → MetAsMeant text
met_as_meant text e p r m n o says adopts w =
    let same : plain e ≡ adopts.expression = (adopts.spelled (plain e)).0 says.spelled in
    let denoted = subst (λ x. has_rule (meets n w) r ≡ true ↔ Denotes x w) (sym same) (adopts.texts w) in
    let labelled = subst (λ (D : Language). has_rule (meets n w) r ≡ true ↔ D w) (plain_denotes e) denoted in
    (λ h. (says.denotes w).0 (labelled.0 h), λ h. labelled.1 ((says.denotes w).1 h))

module _ (text : List ℕ) where
  pub by_grammar : EachIndex text (λ k. slice_index text k < 256) → ByGrammar text
  by_grammar bytes = record {
    meant = meant_by text (outcome text) bytes (λ l. ap (λ z. cond z (Err TooLong) (read (length text) fresh [] 0 text)) (lt-ltb 256 (length text) l))
        (λ l. ap (λ z. cond z (Err TooLong) (read (length text) fresh [] 0 text)) (le-ltb 256 (length text) l));
    once = meant_once text;
    runs = class_runs;
    met = met_as_meant text;
    examples = worked;
  }
