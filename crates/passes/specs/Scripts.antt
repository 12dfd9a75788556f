-- Running a script, line by line, in the terms of what runs one line.
use Rattle.std.specs.Prelude.{◌≡◌, ℕ, suc, ◌+◌, min, Bool, true, ◌⊎◌, List, [], ◌++◌, length, Some, None, Option}
use Rattle.std.specs.Io.KnownBytes.{Appends as Grows}
use Rattle.lines.specs.Parts.{Parts}
use Rattle.lines.specs.Lines.{Skipped}
use Rattle.answers.specs.Texts.{malformed_line}
use Rattle.lines.specs.declared.command.Expected.{Expected}

-- How far a script was run: what is seen of the runner, the lines that are left, if any, how many were passed, and whether
-- one of those was malformed.
pub record Place (V : Type 0) : Type 0 where
  pub here : V
  pub rest : Option (List ℕ)
  pub line : ℕ
  pub malformed : Bool

-- one more than the bytes that are left, or nothing: less with each line
abbrev pub left : Option (List ℕ) → ℕ
left None = 0
left (Some rest) = suc (length rest)

-- what is written on the way: answers and reports
pub record Written : Type 0 where
  pub answers : List ℕ
  pub reports : List ℕ

-- how a line is run that turns what is seen, and is answered
abbrev pub Running : Type 0 → Type 1
Running V = List ℕ → V → V → List ℕ → Type 0

-- what is expected of a line that cannot be run
abbrev pub Expecting : Type 0 → Type 1
Expecting V = List ℕ → V → Expected → Type 0

-- the line is a comment
abbrev Skips : {V : Type 0} → List ℕ → Place V → Place V → Written → Type 0
Skips line p q w = Skipped line × (q.here ≡ p.here) × (q.malformed ≡ p.malformed) × (w.answers ≡ []) × (w.reports ≡ [])

-- the line is run
abbrev RunsLine : {V : Type 0} → Running V → List ℕ → Place V → Place V → Written → Type 0
RunsLine runs line p q w = (Skipped line → ⊥) × runs line p.here q.here w.answers × (q.malformed ≡ p.malformed) × (w.reports ≡ [])

-- the line cannot be run, which is reported
abbrev Reports : {V : Type 0} → Expecting V → List ℕ → Place V → Place V → Written → Type 0
Reports unfit line p q w =
    (Skipped line → ⊥) × (expected : Expected) × unfit line p.here expected × (q.here ≡ p.here) × (q.malformed ≡ true) × (w.answers ≡ [])
    × (w.reports ≡ malformed_line q.line expected)

-- one line is passed. A line ends at byte 10
pub record Passes {V : Type 0} (runs : Running V) (unfit : Expecting V) (p q : Place V) (w : Written) : Type 0 where
  pub script : List ℕ
  pub line : List ℕ
  pub here : p.rest ≡ Some script
  pub parts : Parts 10 script line q.rest
  pub count : q.line ≡ min (p.line + 1) 18446744073709551615
  pub done : Skips line p q w ⊎ (RunsLine runs line p q w ⊎ Reports unfit line p q w)

-- Lines are passed in turn, and what is written for each follows what was written before.
pub data Goes {V : Type 0} (runs : Running V) (unfit : Expecting V) (p : Place V) : Place V → Written → Type 0 where
  stays : Goes runs unfit p p (record { answers = []; reports = [] })
  then : {q r : Place V} {v w : Written} → Goes runs unfit p q v → Passes runs unfit q r w → Goes runs unfit p r (record { answers = v.answers ++ w.answers; reports = v.reports ++ w.reports })

-- Lines are passed in turn, of which only the last may be reported.
abbrev pub GoesToReport : {V : Type 0} → Running V → Expecting V → Place V → Place V → Written → Type 0
GoesToReport {V} runs unfit p q w =
    (Goes runs unfit p q w × (w.reports ≡ []))
    ⊎ ((m : Place V) × (v : Written) × (u : Written) × Goes runs unfit p m v × (v.reports ≡ []) × Passes runs unfit m q u
    × (w ≡ record { answers = v.answers ++ u.answers; reports = u.reports }))

-- what is appended to the texts of answers and reports, as R says
abbrev pub Appends : (Written → Type 0) → List ℕ → List ℕ → List ℕ → List ℕ → Type 0
Appends R answers answers' reports reports' =
    (w : Written) × (answers' ≡ answers ++ w.answers) × (reports' ≡ reports ++ w.reports) × R w

-- what is appended to what two writers hold, where that is known, as R says
abbrev pub AppendsKnown : (Written → Type 0) → Option (List ℕ) → Option (List ℕ) → Option (List ℕ) → Option (List ℕ) → Type 0
AppendsKnown R answers answers' reports reports' = (w : Written) × Grows answers answers' w.answers × Grows reports reports' w.reports × R w
