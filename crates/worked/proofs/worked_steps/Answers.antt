use Rattle.std.proofs.Common.{◌≡◌, true, false, codes, refl}
use Rattle.states.specs.Words.{some, digits_of}
use Rattle.states.specs.Sets.{has, has_rule, with_members, words_of}
use Rattle.books.specs.Texts.{meets}
use Rattle.numbers.specs.Number.{number_meaning, number_next}
use Rattle.worked.proofs.Patterns.{choice_commands, empty_refused, falling_refused, sign_refused, bracket_refused}
use Rattle.worked.proofs.Texts.{texts}
use Rattle.worked.proofs.Tokens.{tokens}
use Rattle.worked.proofs.Changes.{added, deleted}
use Rattle.worked.proofs.worked_steps.Goals as goal

number : has_rule (meets number_meaning (codes "12.5mm")) 0 ≡ true
unfolding number_next some has with_members words_of digits_of
number = refl

no_number : has_rule (meets number_meaning (codes "12.")) 0 ≡ false
unfolding number_next some has with_members words_of digits_of
no_number = refl

pub returns : goal.returns
returns c = record {
  texts = texts;
  tokens = tokens;
  added = added;
  deleted = deleted;
  number = number;
  no_number = no_number;
  choice = choice_commands;
  empty_class = empty_refused;
  falling_range = falling_refused;
  sign_alone = sign_refused;
  bracket_alone = bracket_refused;
  together = refl;
}
