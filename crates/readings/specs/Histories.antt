-- Histories: any calls on one new reader, one after the other, and what every history promises about its readings.
use Rattle.std.specs.Prelude.{◌≡◌, ℕ, ◌+◌, ◌≤◌, true, false, List, [], ◌∷◌, ◌++◌, length, Some, ◌≢◌}
use Rattle.std.specs.List.{AllByRecursion}
use Rattle.books.specs.Meaning.{InForce}
use Rattle.kept.specs.Steps.{most}
use Rattle.readings.specs.Views.{View}
use Rattle.readings.specs.Readings.{Reading, Bare}
use Rattle.readings.specs.Calls.{Does}
use Rattle.readings.specs.Changing.{Chain}
use Rattle.readings.specs.Entries.{Entry, reading, is_changed, deleted, any_edition, met_in, counts, among, kept_after, unkept}

-- the entries are calls of the reader v, one after the other
abbrev pub History : View → List Entry → Type 0
History v es = Chain Does v es

-- no deletion of a rule in force at e was accepted in mid
abbrev pub Stayed : Entry → List Entry → Type 0
Stayed e mid = (r : ℕ) → InForce e.book r → AllByRecursion (λ d. deleted d ≢ Some r) mid

-- no rule is in force at e' that was not at e
abbrev pub NoOthers : Entry → Entry → Type 0
NoOthers e e' = (r : ℕ) → InForce e'.book r → InForce e.book r

-- each pair that e met is kept at its end
abbrev pub StepsKept : List Entry → Entry → Type 0
StepsKept pre e = AllByRecursion (λ p. among (kept_after (pre ++ e ∷ [])) p ≡ true) (met_in e)

-- What holds of the readings in the history es of a new reader.
pub record Stands (es : List Entry) : Type 0 where
  -- Each reading tells what its bare reading tells.
  pub as_bare : (pre post : List Entry) (e : Entry) (x : Reading)
      → es ≡ pre ++ (e ∷ post) → reading e ≡ Some x
      → Bare e.book x e.told
  -- The same reading again works out no step, if the rules of the first stayed, later ones are gone, and the steps of
  -- the first were kept.
  pub again : (pre mid post : List Entry) (e e' : Entry) (x x' : Reading)
      → es ≡ pre ++ (e ∷ (mid ++ (e' ∷ post)))
      → reading e ≡ Some x → reading e' ≡ Some x' → any_edition x ≡ any_edition x'
      → Stayed e mid → NoOthers e e' → StepsKept pre e
      → e'.count ≡ 0
  -- Readings with no change accepted between them work out, all together, one step for each distinct pair that they meet
  -- and that was not kept before, if the table holds them all.
  pub once : (pre mid post : List Entry)
      → es ≡ pre ++ (mid ++ post)
      → AllByRecursion (λ e. is_changed e.told ≡ false) mid
      → length (kept_after pre) + length (unkept pre mid) ≤ most
      → counts mid ≡ length (unkept pre mid)
