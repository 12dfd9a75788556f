-- Templates, the texts that fit them, and the template book as positions and states.
use Rattle.std.specs.Prelude.{◌≡◌, ℕ, zero, suc, ◌+◌, ◌*◌, ◌/◌, ◌%◌, ◌<◌, Bool, true, false, cond, ◌&&◌, ◌↔◌, List, [], ◌∷◌, ◌++◌, length, is_some, Some, None, Option, ◌==◌, ◌≢◌, nat_le, slice_index_or}
use Rattle.states.specs.Sets.{State, has, has_rule, nothing, set_of, rules_of}
use Rattle.states.specs.Words.{some}
use Rattle.books.specs.Meaning.{Meaning, Model, counting, is}
use Rattle.books.specs.Changes.{first_no, new_rule}
use Rattle.books.specs.Texts.{meets}
use Rattle.books.specs.declared.faults.BookFault.{BookFault}
use Rattle.books.specs.declared.faults.BookFault.TheVariants.{Length}

-- ---- the texts, as lists of codes

-- a template's byte b takes the code c: '#' the digits, '?' every byte, any other byte itself
abbrev pub takes_byte : ℕ → ℕ → Bool
takes_byte b c = cond (b == 35) (nat_le 48 c && nat_le c 57) (cond (b == 63) (nat_le c 255) (c == b))

-- the text is as long as the template, and each byte takes the code at its place
abbrev pub Fits : List ℕ → List ℕ → Type 0
Fits [] [] = Unit {0}
Fits [] (c ∷ cs) = ⊥
Fits (b ∷ bs) [] = ⊥
Fits (b ∷ bs) (c ∷ cs) = (takes_byte b c ≡ true) × Fits bs cs

-- byte i of the template takes c
abbrev pub takes_at : List ℕ → ℕ → ℕ → Bool
takes_at [] i c = false
takes_at (b ∷ bs) zero c = takes_byte b c
takes_at (b ∷ bs) (suc i) c = takes_at bs i c

-- ---- the book, by the kinds of its rules, the positions that take each code, and the positions that end a rule.
-- Rule r in force owns the 32 positions from 32 × r, and position 32 × r + i says that i bytes of its template are matched.

-- position p is of a rule in force
abbrev pub owned : List (Option ℕ) → ℕ → Bool
owned kinds p = is_some (slice_index_or kinds (p / 32) None)

-- by the code c, the state s leads to the positions one above those of its own that take c
abbrev pub leads : List State → State → ℕ → ℕ → Bool
leads takes s c zero = false
leads takes s c (suc p) = has s p && has (slice_index_or takes c nothing) p

abbrev pub template_meaning : List (Option ℕ) → List State → State → Meaning
template_meaning kinds takes ends = record {
  kind = λ r. slice_index_or kinds r None;
  owner = λ p. cond (owned kinds p) (Some (p / 32)) None;
  start = set_of (λ p. owned kinds p && p % 32 == 0);
  next = λ s c. set_of (leads takes s c);
  ended = λ s. rules_of (λ r. some (λ p. has s p && (has ends p && p / 32 == r)) 256);
}

-- the book by its note too, which counts the questions for a next state
abbrev pub template_model : List (Option ℕ) → List State → State → ℕ → Model
template_model kinds takes ends note = record { meaning = template_meaning kinds takes ends; note = note; noted = counting }

-- ---- what the rules of a book are

-- Rule r is the template: of its 32 positions the start holds the first, to which no step leads. By a code that byte i takes, a
-- step leads from the position behind i bytes to the one behind i + 1. The position behind the last byte ends the rule.
pub record Template (r : ℕ) (bytes : List ℕ) (m : Meaning) : Type 0 where
  pub owns : (p : ℕ) → is (m.owner p) r ≡ (p / 32 == r)
  pub starts : (i : ℕ) → i < 32 → has m.start (32 * r + i) ≡ (i == 0)
  pub first : (s : State) (c : ℕ) → has (m.next s c) (32 * r) ≡ false
  pub steps : (s : State) (c i : ℕ) → i < 31 → has (m.next s c) (32 * r + (i + 1)) ≡ (has s (32 * r + i) && takes_at bytes i c)
  pub ends : (s : State) → has_rule (m.ended s) r ≡ has s (32 * r + length bytes)

-- From m to n every rule but r stays the template that it was, and is met by the same texts.
pub record OthersStay (r : ℕ) (m n : Meaning) : Type 0 where
  pub templates : (q : ℕ) (bytes : List ℕ) → (q ≢ r) → Template q bytes m → Template q bytes n
  pub texts : (q : ℕ) (text : List ℕ) → (q ≢ r) → has_rule (meets n text) q ≡ has_rule (meets m text) q

-- From m to n rule r becomes the template, met by exactly the texts that fit it.
pub record TemplateAdded (r : ℕ) (bytes : List ℕ) (m n : Meaning) : Type 0 where
  pub template : Template r bytes n
  pub texts : (text : List ℕ) → has_rule (meets n text) r ≡ true ↔ Fits bytes text
  pub others : OthersStay r m n

-- From m to n rule r goes: no text meets it.
pub record TemplateDeleted (r : ℕ) (m n : Meaning) : Type 0 where
  pub texts : (text : List ℕ) → has_rule (meets n text) r ≡ false
  pub others : OthersStay r m n

-- ---- why adding is refused: by what every book asks first of a new rule, and for a template not of 1 to 31 bytes

abbrev pub template_refusal : Meaning → ℕ → ℕ → List ℕ → Option BookFault
template_refusal m r k bytes = first_no (new_rule 8 (m.kind r) r k ++ (nat_le 1 (length bytes) && nat_le (length bytes) 31, Length) ∷ [])
