-- What a search that is over tells.
use Rattle.std.proofs.Common.{◌≡◌, ℕ, ◌-◌, ◌≤◌, Bool, true, false, cond, List, map, length, take, drop, Some, None, Option, sym, refl, ap, ◌∙◌, subst, arith, length-drop, take_all}
use Rattle.std.specs.Option.{option_map}
use Rattle.std.specs.Int.{from_bool}
use Rattle.std.proofs.lemmas.List.{drop-map}
use Rattle.states.specs.Sets.{State}
use Rattle.books.specs.Meaning.{Lawful}
use Rattle.readings.specs.Views.{View, AllRight}
use Rattle.readings.specs.Readings.{Told, Reads, ReadsAsMeant}
use Rattle.readings.specs.Readings.Reading.{token, peek}
use Rattle.readings.proofs.Bare.{reads_bare}
use Rattle.readings.proofs.Onward.{Over}
use Rattle.readings.proofs.Sought.{Ended, Sought, ended_told, sought_reads}
use Rattle.reader.specs.declared.seeking.Best.{Best}
use Rattle.reader.specs.Seen.{best_told}

abbrev pub ended : Best → Ended
ended b = (b.length, b.rules)

told_same : (place : ℕ) (o : Option Best) → ended_told place (option_map ended o) ≡ best_told place o
told_same place None = refl
told_same place (Some b) = refl

module _ {v₀ v : View} {s : State} {rest left : List ℕ} {n : ℕ} (best : Option Best) (o : Sought v₀ rest v s left n (option_map ended best)) where
  pub seeks_over : Lawful v₀.book.meaning → Over s left → (text : List ℕ) (place : ℕ) → drop place text ≡ rest
      → Reads (token text place) (best_told place best) n v₀ v × Reads (peek text place) (best_told place best) n v₀ v
  seeks_over l z text place d = subst Both (told_same place best) (sought_reads l z place o text d)
    where
      Both : Told → Type 0
      Both t = Reads (token text place) t n v₀ v × Reads (peek text place) t n v₀ v

-- a step that was worked out counts one
pub counted : (b : Bool) (k : ℕ) → k ≡ from_bool b → (cond b 1 0 ≡ k) × (k ≤ 1)
counted true k e = (sym e, omega arith)
counted false k e = (sym e, omega arith)

-- ---- the part `&text[place..]`

pub rest_is : {X : Type 0} (text : List X) (place : ℕ) → take (length text - place) (drop place text) ≡ drop place text
rest_is text place = take_all _ _ (simp length-drop (omega arith))

pub rest_length : {X : Type 0} (text : List X) (place : ℕ) → length (take (length text - place) (drop place text)) ≡ length text - place
rest_length text place = ap length (rest_is text place) ∙ length-drop place text

-- what a search there tells of the token and of the peek, over the reader's own steps and over the book's
pub looks : {X : Type 0} (code : X → ℕ) (text : List X) (place : ℕ) {v w : View} {n : ℕ} (best : Option Best) {t : Told} → Lawful v.book.meaning
    → AllRight v.book.meaning v.kept
    → ((all : List ℕ) (at : ℕ) → drop at all ≡ map code (take (length text - place) (drop place text))
    → Reads (token all at) (best_told at best) n v w × Reads (peek all at) (best_told at best) n v w)
    → best_told place best ≡ t
    → Reads (token (map code text) place) t n v w × Reads (peek (map code text) place) t n v w
    × ReadsAsMeant (token (map code text) place) t n v w × ReadsAsMeant (peek (map code text) place) t n v w
looks code text place best law sound seeks e =
    let found = seeks (map code text) place (drop-map code place text ∙ ap (map code) (sym (rest_is text place))) in
    let read_token = rw e at found.0 in
    let peeked = rw e at found.1 in
    (read_token, peeked, reads_bare law sound law.starts read_token, reads_bare law sound law.starts peeked)
