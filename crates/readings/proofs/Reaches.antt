-- Chains of calls that grow at their end.
use Rattle.std.proofs.Common.{◌≡◌, ℕ, List, [], ◌∷◌, ◌++◌, refl, subst}
use Rattle.readings.specs.Views.{View}
use Rattle.readings.specs.Readings.{Told}
use Rattle.readings.specs.Calls.{Call, Does}
use Rattle.readings.specs.Entries.{Entry}
use Rattle.readings.specs.Changing.{Chain}
use Rattle.readings.specs.Histories.{History}

module _ (does : Call → Told → ℕ → View → View → Type 0) where
  -- the entries are calls of the reader v, which leave w
  abbrev pub Reaches : View → List Entry → View → Type 0
  Reaches v [] w = w ≡ v
  Reaches v (e ∷ es) w = (u : View) × (e.book ≡ v.book.meaning) × does e.call e.told e.count v u × Reaches u es w

  -- one call more
  pub reaches_more : (v w u : View) (es : List Entry) (e : Entry) → Reaches v es w → e.book ≡ w.book.meaning → does e.call e.told e.count w u
      → Reaches v (es ++ e ∷ []) u
  reaches_more v w u [] e r b d =
      (u, subst (λ (x : View). e.book ≡ x.book.meaning) r b, subst (λ (x : View). does e.call e.told e.count x u) r d, refl)
  reaches_more v w u (f ∷ es) e r b d = (r.0, r.1, r.2, reaches_more r.0 w u es e r.3 b d)

  pub reaches_chain : (v w : View) (es : List Entry) → Reaches v es w → Chain does v es
  reaches_chain v w [] r = tt
  reaches_chain v w (e ∷ es) r = (r.0, r.1, r.2, reaches_chain r.0 w es r.3)

-- a chain of calls that do what they do over every book is a history
pub chain_history : (v : View) (es : List Entry) → Chain Does v es → History v es
chain_history v es h = h

-- and so is one that leaves a reader
pub reaches_history : (v w : View) (es : List Entry) → Reaches Does v es w → History v es
reaches_history v w es r = reaches_chain Does v w es r
