-- What adding and deleting promise of the rules as expressions, beyond what every book promises.
use Rattle.std.specs.Prelude.{◌≡◌, ℕ, ◌+◌, true, false, ◌↔◌, List, ◌≢◌}
use Rattle.states.specs.Sets.{has_rule}
use Rattle.books.specs.Meaning.{Meaning}
use Rattle.books.specs.Texts.{meets}
use Rattle.readings.specs.Readings.{Told, Searches}
use Rattle.expressions.specs.Tokens.{DenotedBy, Finds}
use Rattle.expressions.specs.Expression.{Plain, symbols, Denotes}
use Rattle.expressions.specs.Commands.{Accepted}
use Rattle.expressions.specs.Rules.{Additive, Expressed, Means, live, needed}

-- From m to n rule r becomes the one expression that the bytes spell: exactly the texts that it denotes meet the rule, and as many
-- positions become live as it has symbols, and one for its end.
pub record Adopts (last r : ℕ) (bytes : List ℕ) (m n : Meaning) : Type 0 where
  pub expression : Plain
  pub spelled : (e : Plain) → Accepted last e bytes ↔ (e ≡ expression)
  pub means : Means n r expression
  pub texts : (text : List ℕ) → has_rule (meets n text) r ≡ true ↔ Denotes expression text
  pub positions : live n ≡ live m + needed (symbols expression)

-- From m to n every rule but r stays the expression that it was, and is met by the same texts.
pub record OthersStay (r : ℕ) (m n : Meaning) : Type 0 where
  pub expressions : (q : ℕ) (e : Plain) → (q ≢ r) → Means m q e → Means n q e
  pub texts : (q : ℕ) (text : List ℕ) → (q ≢ r) → has_rule (meets n text) q ≡ has_rule (meets m text) q

-- From m to n rule r is added: it becomes the expression that the bytes spell, every other rule stays, and a state leads where its
-- members lead alone.
pub record ExpressionAdded (last r : ℕ) (bytes : List ℕ) (m n : Meaning) : Type 0 where
  pub adopts : Adopts last r bytes m n
  pub others : OthersStay r m n
  pub additive : Additive n

-- From m to n rule r is deleted: no text meets it, every other rule stays, and a state leads where its members lead alone.
pub record ExpressionDeleted (r : ℕ) (m n : Meaning) : Type 0 where
  pub texts : (text : List ℕ) → has_rule (meets n text) r ≡ false
  pub others : OthersStay r m n
  pub additive : Additive n

-- Every rule in force is an expression. A whole text meets exactly the rules whose expressions denote it; a token is the longest
-- beginning, not empty, that some rule's expression denotes, with exactly the rules whose expressions denote it.
pub record Denoting (m : Meaning) : Type 0 where
  pub expressed : Expressed m
  pub texts : (text : List ℕ) → DenotedBy m text (meets m text)
  pub tokens : (rest : List ℕ) (place : ℕ) (t : Told) → Searches m m.next rest place t ↔ Finds m rest place t
