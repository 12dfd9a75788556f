-- The answer of a run in numbers.
use Rattle.std.specs.Prelude.{◌≡◌, ℕ, List, Some, None, Ok, Err, Option, Result}
use Rattle.books.specs.Refusals.{told}
use Rattle.batches.specs.declared.done.Done.{Done}
use Rattle.batches.specs.declared.done.Refused.{Refused}
use Rattle.batches.specs.declared.done.RunFault.{RunFault}
use Rattle.batches.specs.declared.done.RunFault.TheVariants.{Batch, NoMemory}
use Rattle.batches.specs.declared.done.BatchFault.TheVariants.{Malformed, NoRoom}
use Rattle.batches.specs.Runs.{Runs}
use Rattle.batch.specs.declared.outcome.Status.{Status}
use Rattle.batch.specs.declared.outcome.Status.TheVariants as is
use Rattle.batch.specs.declared.outcome.RefusedChange.{RefusedChange}
use Rattle.batch.specs.declared.outcome.BatchOutcome.{BatchOutcome}

abbrev pub status_of : Result Done RunFault → Status
status_of (Ok done) = is.Run
status_of (Err (Batch (Malformed m))) = is.Malformed
status_of (Err (Batch (NoRoom lines))) = is.NoRoom
status_of (Err NoMemory) = is.NoMemory

abbrev pub number_of : Status → ℕ
number_of is.Run = 0
number_of is.Malformed = 1
number_of is.NoRoom = 2
number_of is.NoMemory = 3

-- no change was refused
abbrev pub no_change : RefusedChange
no_change = record { begin = 0; place = 0; number = 0; layer = 0 }

abbrev pub first_of : Option Refused → RefusedChange
first_of None = no_change
first_of (Some r) = record { begin = r.place; place = (told r.refusal).place; number = (told r.refusal).number; layer = (told r.refusal).layer }

abbrev pub nothing : BatchOutcome
nothing = record { place = 0; lines = 0; refused = 0; first = no_change }

abbrev pub outcome_of : Result Done RunFault → BatchOutcome
outcome_of (Ok done) = record nothing { lines = done.lines; refused = done.refused; first = first_of done.first }
outcome_of (Err (Batch (Malformed m))) = record nothing { place = m.place }
outcome_of (Err (Batch (NoRoom lines))) = record nothing { lines = lines }
outcome_of (Err NoMemory) = nothing

-- the bytes were run as `Runs` says, and its answer is told in numbers
abbrev pub Called : List ℕ → List ℕ → List ℕ → BatchOutcome → ℕ → Type 0
Called bytes buffer masks outcome status =
    (answer : Result Done RunFault) × Runs bytes buffer masks answer × (outcome ≡ outcome_of answer) × (status ≡ number_of (status_of answer))
