-- A search for a token, half done: which beginning of the part read so far is the longest that ends a rule.
use Rattle.std.proofs.Common.{◌≡◌, ℕ, ◌+◌, ◌-◌, ◌^◌, ◌<◌, ◌≤◌, true, false, List, [], ◌∷◌, ◌++◌, length, take, drop, Some, None, Option, IfSome, sym, refl, ap, ◌∙◌, subst, ap₂, inl, inr, append_assoc, append-nil, arith, length-append, take_at}
use lib.Seq.{take-append-add}
use Rattle.std.proofs.lemmas.Bool.{cases_lt}
use Rattle.states.specs.Sets.{State}
use Rattle.states.specs.Sets.{Rules}
use Rattle.states.specs.Sets.{is_empty, no_rule}
use Rattle.books.specs.Meaning.{Meaning, Lawful}
use Rattle.books.specs.Texts.{after}
use Rattle.readings.specs.Views.{View}
use Rattle.readings.specs.Runs.{goes, met, Works}
use Rattle.readings.specs.Readings.{Told, Reads, Searches, ended_by}
use Rattle.readings.specs.Readings.Reading.{token, peek}
use Rattle.readings.specs.Readings.Told.{matched, refused}
use Rattle.readings.specs.Readings.Searches.{finds, fails}
use Rattle.readings.proofs.Runs.{works_meaning, works_goes}
use Rattle.readings.proofs.Positions.{ended_empty}
use Rattle.readings.proofs.Onward.{Onward, onward_none, onward_step, stuck, Over, onward_works}

-- the rules that the first k codes end, as the reader goes
abbrev ended_at : View → List ℕ → ℕ → Rules
ended_at v text k = ended_by v.book.meaning (goes v) text k

-- a beginning by its length, and the rules that it ends
abbrev pub Ended : Type 0
Ended = ℕ × Rules

-- no beginning is longer than one of no symbol
abbrev pub best_length : Option Ended → ℕ
best_length None = 0
best_length (Some b) = b.0

-- A search of `text` for a token, by the reader v₀, has worked out n steps, which left the reader v. It stands at s, before
-- `rest`. `best` is the longest beginning so far, not empty, that ends a rule, if there is one.
pub record Sought (v₀ : View) (text : List ℕ) (v : View) (s : State) (rest : List ℕ) (n : ℕ) (best : Option Ended) : Type 0 where
  pub onward : Onward v₀ v₀.book.meaning.start text v s rest n
  pub past : List ℕ
  pub parts : text ≡ past ++ rest
  pub here : after (goes v₀) v₀.book.meaning.start past ≡ s
  pub within : best_length best ≤ length past
  pub ends : IfSome best (λ b. (1 ≤ b.0) × (no_rule b.1 ≡ false) × (b.1 ≡ ended_at v₀ text b.0))
  pub longer : (k : ℕ) → best_length best < k → k ≤ length past → no_rule (ended_at v₀ text k) ≡ true

-- nothing is read yet
pub sought_none : (v : View) (text : List ℕ) → v.tally < 2 ^ 32 → Sought v text v v.book.meaning.start text 0 None
sought_none v text l = record {
  onward = onward_none v v.book.meaning.start text l;
  past = [];
  parts = refl;
  here = refl;
  within = omega arith;
  ends = tt;
  longer = λ k g h. absurd (omega arith);
}

after_append : (next : State → ℕ → State) (s : State) (cs ds : List ℕ) → after next s (cs ++ ds) ≡ after next (after next s cs) ds
after_append next s [] ds = refl
after_append next s (c ∷ cs) ds = after_append next (next s c) cs ds

-- ---- one step more

module _ {v₀ v w : View} {s t : State} {text rest : List ℕ} {c n k : ℕ} {best : Option Ended} {rules' : Rules} (o : Sought v₀ text v s (c ∷ rest) n best)
    (e : is_empty s ≡ false) (x : Works ((s, c) ∷ []) k v w) (g : t ≡ goes v s c) (r : rules' ≡ w.book.meaning.ended t) where
  parts_step : text ≡ (o.past ++ c ∷ []) ++ rest
  parts_step = o.parts ∙ sym (append_assoc o.past (c ∷ []) rest)

  here_step : after (goes v₀) v₀.book.meaning.start (o.past ++ c ∷ []) ≡ t
  here_step =
      after_append (goes v₀) v₀.book.meaning.start o.past (c ∷ [])
      ∙ ap₂ (λ (f : State → ℕ → State) (q : State). f q c) (sym (works_goes o.onward.works)) o.here ∙ sym g

  -- the rules that the part read ends now
  ended_here : (j : ℕ) → j ≡ length o.past + 1 → ended_at v₀ text j ≡ rules'
  ended_here j q =
      ap (λ (cs : List ℕ). v₀.book.meaning.ended (after (goes v₀) v₀.book.meaning.start cs))
      (ap (take j) parts_step ∙ take_at (o.past ++ c ∷ []) rest j (length-append o.past (c ∷ []) ∙ sym q))
      ∙ ap₂ (λ (m : Meaning) (q : State). m.ended q) (sym (works_meaning o.onward.works) ∙ sym (works_meaning x)) here_step
      ∙ sym r

  -- the part read ends no rule
  pub sought_past : no_rule rules' ≡ true → Sought v₀ text w t rest (n + k) best
  sought_past none =
      let l = length-append o.past (c ∷ []) in
      let b = o.within in
      record {
        onward = onward_step o.onward e x g;
        past = o.past ++ c ∷ [];
        parts = parts_step;
        here = here_step;
        within = omega arith;
        ends = o.ends;
        longer = λ j a h. elim (cases_lt j (length o.past + 1)) [
          | inl y ↦ o.longer j a (omega arith)
          | inr y ↦ ap no_rule (ended_here j (omega arith)) ∙ none
        ];
      }

  -- the part read ends a rule
  pub sought_here : (i : ℕ) → no_rule rules' ≡ false → i + length rest ≡ length text → Sought v₀ text w t rest (n + k) (Some (i, rules'))
  sought_here i some q =
      let l = length-append o.past (c ∷ []) in
      let z = ap length o.parts ∙ length-append o.past (c ∷ rest) in
      let j : i ≡ length o.past + 1 = omega arith in
      record {
        onward = onward_step o.onward e x g;
        past = o.past ++ c ∷ [];
        parts = parts_step;
        here = here_step;
        within = omega arith;
        ends = (omega arith, some, sym (ended_here i j));
        longer = λ l' a h. absurd (omega arith);
      }

-- ---- the search is over

pub sought_within : {v₀ v : View} {s : State} {text rest : List ℕ} {n : ℕ} {best : Option Ended} → Sought v₀ text v s rest n best
    → best_length best + length rest ≤ length text
sought_within {v₀} {v} {s} {text} {rest} o = let l = ap length o.parts ∙ length-append o.past rest in let b = o.within in omega arith

-- no longer beginning ends a rule
over_longer : {v₀ v : View} {s : State} {text rest : List ℕ} {n : ℕ} {best : Option Ended} → Lawful v₀.book.meaning → Sought v₀ text v s rest n best
    → Over s rest → (k : ℕ) → best_length best < k → k ≤ length text → no_rule (ended_at v₀ text k) ≡ true
over_longer {v₀} {v} {s} {text} {rest} law o (inl e) k b l =
    let z = ap length (o.parts ∙ ap (λ (cs : List ℕ). o.past ++ cs) e ∙ append-nil o.past) in
    o.longer k b (omega arith)
over_longer {v₀} {v} {s} {text} {rest} law o (inr e) k b l = elim (cases_lt (length o.past) k) [
  | inl y ↦ (let q : k ≡ length o.past + (k - length o.past) = omega arith in
      let m = v₀.book.meaning in
      let to : after (goes v₀) m.start (take k text) ≡ s =
      ap (after (goes v₀) m.start) (ap₂ take q o.parts ∙ take-append-add o.past rest (k - length o.past))
      ∙ after_append (goes v₀) m.start o.past (take (k - length o.past) rest)
      ∙ ap (λ (p : State). after (goes v₀) p (take (k - length o.past) rest)) o.here
      ∙ stuck v₀ s (take (k - length o.past) rest) e in
      ap (λ (p : State). no_rule (m.ended p)) to ∙ ended_empty m law s e)
  | inr y ↦ o.longer k b y
]

-- a search of the rest of a text tells what a token there, or a peek, is to tell
reads_search : {t : Told} {n : ℕ} {v w : View} (text rest : List ℕ) (place : ℕ) → drop place text ≡ rest
    → Searches v.book.meaning (goes v) rest place t → Works (met (goes v) v.book.meaning.start rest) n v w
    → Reads (token text place) t n v w × Reads (peek text place) t n v w
reads_search {t} {n} {v} {w} text rest place e =
    subst (λ (cs : List ℕ). Searches v.book.meaning (goes v) cs place t → Works (met (goes v) v.book.meaning.start cs) n v w
    → Reads (token text place) t n v w × Reads (peek text place) t n v w) e
    (λ a b. (record { tells = a; works = b }, record { tells = a; works = b }))

-- what the search tells: the token that it found at the place, or refusal 14 there
abbrev pub ended_told : ℕ → Option Ended → Told
ended_told place None = refused 14 1 place
ended_told place (Some b) = matched place b.0 b.1

module _ {v₀ v : View} {s : State} {rest left : List ℕ} {n : ℕ} (law : Lawful v₀.book.meaning) (z : Over s left) (place : ℕ) where
  searches : (best : Option Ended) → Sought v₀ rest v s left n best → Searches v₀.book.meaning (goes v₀) rest place (ended_told place best)
  searches None o = fails (λ k l h. over_longer law o z k (omega arith) h)
  searches (Some b) o =
      let l = sought_within o in
      let e = o.ends in
      subst (λ (rs : Rules). Searches v₀.book.meaning (goes v₀) rest place (matched place b.0 rs)) (sym e.2)
      (finds b.0 (record { some = e.0; within = omega arith; ends = ap no_rule (sym e.2) ∙ e.1; longer = over_longer law o z }))

  pub sought_reads : {best : Option Ended} → Sought v₀ rest v s left n best → (text : List ℕ) → drop place text ≡ rest
      → Reads (token text place) (ended_told place best) n v₀ v × Reads (peek text place) (ended_told place best) n v₀ v
  sought_reads {best} o text d = reads_search text rest place d (searches best o) (onward_works o.onward z)
