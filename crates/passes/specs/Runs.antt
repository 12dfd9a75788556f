-- What is done for a line, and what is written of it. What callers see of s is `seen s`; R holds of that before, that after,
-- and the answer.
use Rattle.std.specs.Prelude.{◌≡◌, ℕ, List, ◌++◌, string_bytes, OnOk, MatchResult, Result, String}
use Rattle.std.specs.declared.alloc.AllocError.{AllocError}
use Rattle.lines.specs.declared.command.Expected.{Expected}
use Rattle.passes.specs.declared.fault.Fault.{Fault}
use Rattle.passes.specs.declared.fault.Fault.TheVariants.{Malformed, NoMemory}

-- what is written behind the text `before` is an answer that R holds of
abbrev pub Answers : (List ℕ → Type 0) → List ℕ → List ℕ → Type 0
Answers R before after = (answer : List ℕ) × (after ≡ before ++ answer) × R answer

-- What misses x, as `lacks` says, is not done, and changes nothing. Where there is no memory, the answer may be written in part.
abbrev pub Misses : {S : Type 0} → (Expected → Type 0) → Fault → S → S → List ℕ → List ℕ → Type 0
Misses lacks (Malformed x) s t before after = lacks x × (t ≡ s) × (after ≡ before)
Misses lacks NoMemory s t before after = Unit {0}

-- it is done and answered as R says, or memory is missing
abbrev pub Done : {S V T Z : Type 0} → Result T AllocError → (S → V) → (V → V → List ℕ → Type 0) → S → S → String Z → String Z → Type 0
Done result seen R s t before after = OnOk result (Answers (R (seen s) (seen t)) (string_bytes before) (string_bytes after))

-- it is done and answered as R says, or it misses what `lacks` says, or memory is missing
abbrev pub Ran : {S V T Z : Type 0} → Result T Fault → (S → V) → (V → V → List ℕ → Type 0) → (V → Expected → Type 0) → S → S → String Z → String Z → Type 0
Ran result seen R lacks s t before after =
    MatchResult result (λ _. Answers (R (seen s) (seen t)) (string_bytes before) (string_bytes after))
    (λ f. Misses (lacks (seen s)) f s t (string_bytes before) (string_bytes after))
