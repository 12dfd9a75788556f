-- What histories promise is not empty: there is a history that meets every premise.
use Rattle.std.specs.Prelude.{◌≡◌, ℕ, ◌+◌, ◌≤◌, true, false, [], ◌∷◌, length, Some}
use Rattle.std.specs.List.{AllByRecursion}
use Rattle.states.specs.Sets.{Rules}
use Rattle.states.specs.Sets.{no_rule}
use Rattle.books.specs.Meaning.{Lawful}
use Rattle.kept.specs.Steps.{most}
use Rattle.readings.specs.Views.{View}
use Rattle.readings.specs.Readings.{Reading}
use Rattle.readings.specs.Readings.Told.{ended}
use Rattle.readings.specs.Entries.{Entry, reading, is_changed, counts, kept_after, unkept}
use Rattle.readings.specs.Histories.{History, Stayed, NoOthers, StepsKept}

-- A text that meets a rule is read, a second rule is added, the text is read twice, the second rule is deleted, and the text is
-- read again. All together the readings work out this many steps.
pub record Repeated (steps : ℕ) : Type 0 where
  pub reader : View
  pub new : reader.kept ≡ []
  pub lawful : Lawful reader.book.meaning
  pub first : Entry
  pub added : Entry
  pub second : Entry
  pub third : Entry
  pub removed : Entry
  pub last : Entry
  pub history : History reader (first ∷ added ∷ second ∷ third ∷ removed ∷ last ∷ [])
  pub text : Reading
  pub readings : AllByRecursion (λ e. reading e ≡ Some text) (first ∷ second ∷ third ∷ last ∷ [])
  pub accepted : AllByRecursion (λ e. is_changed e.told ≡ true) (added ∷ removed ∷ [])
  pub rules : Rules
  pub meets : (first.told ≡ ended rules) × (no_rule rules ≡ false)
  -- the premises of `again`, for the first reading and the last
  pub stayed : Stayed first (added ∷ second ∷ third ∷ removed ∷ [])
  pub others : NoOthers first last
  pub steps_kept : StepsKept [] first
  -- the premises of `once`, for the two readings between the changes
  pub unchanged : AllByRecursion (λ e. is_changed e.told ≡ false) (second ∷ third ∷ [])
  pub room : length (kept_after (first ∷ added ∷ [])) + length (unkept (first ∷ added ∷ []) (second ∷ third ∷ [])) ≤ most
  pub each : (first.count ≡ 1) × (second.count ≡ 1) × (third.count ≡ 0) × (last.count ≡ 0)
  pub together : counts (first ∷ added ∷ second ∷ third ∷ removed ∷ last ∷ []) ≡ steps
