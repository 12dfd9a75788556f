-- Rules by pattern texts.
use Rattle.std.specs.Prelude.{◌≡◌, ℕ, true, List, Ok, ◌↔◌}
use Rattle.states.specs.Sets.{has_rule}
use Rattle.books.specs.Meaning.{Meaning}
use Rattle.books.specs.Texts.{meets}
use Rattle.expression_book.specs.Promises.{Adopts}
use Rattle.patterns.specs.Grammar.{Pattern}
use Rattle.patterns.specs.Meaning.{Means, Says, Meant, OneOutcome, ClassRuns, Worked}
use Rattle.patterns.specs.Outcome.{outcome}
use Rattle.patterns.specs.Reading.{E, written}

-- Where an expression book over bytes takes rule r by the commands of a pattern text, and so goes from m to n, the texts that meet the
-- rule are exactly those that the text's pattern means.
abbrev pub MetAsMeant : List ℕ → Type 0
MetAsMeant text =
    (e : E) (p : Pattern) (r : ℕ) (m n : Meaning) → outcome text ≡ Ok e → Says text e p → Adopts 255 r (written e) m n → (w : List ℕ)
    → has_rule (meets n w) r ≡ true ↔ Means p w

-- What is told of a pattern text is what the grammar's rules say of it, and nothing else could be told by them.
pub record ByGrammar (text : List ℕ) : Type 0 where
  pub meant : Meant text (outcome text)
  pub once : OneOutcome text
  -- a class gives its longest runs of bytes
  pub runs : ClassRuns
  pub met : MetAsMeant text
  pub examples : Worked
