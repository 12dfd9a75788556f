-- The questions about an adding: what a yes to all of them tells. Assumes nothing.
use Rattle.std.proofs.Common.{◌≡◌, ℕ, ◌+◌, ◌<◌, ◌≤◌, Bool, true, false, cond, not, leb, ltb, ◌↔◌, List, length, is_some, Some, None, Ok, Err, Option, Result, sym, refl, ap, ap₂, ◌∙◌, arith}
use Rattle.std.proofs.lemmas.Bool.{leb-true, le-leb, lt-leb, both_ways}
use Rattle.std.specs.Option.{option_or}
use Rattle.std.proofs.lemmas.Bool.Decides.{nat_tests}
use Rattle.books.specs.Meaning.{Meaning}
use Rattle.books.specs.Changes.{first_no, new_rule}
use Rattle.books.specs.declared.faults.BookFault.{BookFault}
use Rattle.books.specs.declared.faults.BookFault.TheVariants.{Number, Kind, Taken, Length, Full}
use Rattle.books.specs.declared.faults.CommandFault.{CommandFault}
use Rattle.expressions.specs.Expression.{Plain, symbols}
use Rattle.expressions.specs.Commands.{read_all, counted, Accepted}
use Rattle.expressions.specs.Rules.{live, needed, room_for, refusal}
use Rattle.expressions.proofs.Runs.{accepted_right}

-- below the next number is up to it
up_to : (r n : ℕ) → ltb r (n + 1) ≡ leb r n
up_to r n = grind (arith, nat_tests)

-- the questions that every book asks come first
first_asked : (last : ℕ) (m : Meaning) (r k : ℕ) (bytes : List ℕ) →
    refusal last m r k bytes ≡ option_or (first_no (new_rule 64 (m.kind r) r k)) (cond (leb (length bytes) 1024) (room_for m (counted (read_all last bytes))) (Some Length))
first_asked last m r k bytes =
    let later = cond (leb (length bytes) 1024) (room_for m (counted (read_all last bytes))) (Some Length) in
    ap₂ (λ (x y : Bool). cond x (cond y (cond (is_some (m.kind r)) (Some Taken) later) (Some Kind)) (Some Number)) (sym (up_to r 63)) (sym (up_to k 4095))
    ∙ by (ltb r 64) (ltb k 4096) (is_some (m.kind r)) later
  where
    by : (x y z : Bool) (later : Option BookFault) → cond x (cond y (cond z (Some Taken) later) (Some Kind)) (Some Number)
        ≡ option_or (cond x (cond y (cond (not z) None (Some Taken)) (Some Kind)) (Some Number)) later
    by true true true later = refl
    by true true false later = refl
    by true false z later = refl
    by false y z later = refl

-- and the others where these get a yes
pub new_asked : (last : ℕ) (m : Meaning) (r k : ℕ) (bytes : List ℕ) (o : Option BookFault) → None ≡ first_no (new_rule 64 (m.kind r) r k)
    → o ≡ cond (leb (length bytes) 1024) (room_for m (counted (read_all last bytes))) (Some Length) → o ≡ refusal last m r k bytes
new_asked last m r k bytes o e is =
    is
    ∙ sym (first_asked last m r k bytes
    ∙ ap (λ (x : Option BookFault). option_or x (cond (leb (length bytes) 1024) (room_for m (counted (read_all last bytes))) (Some Length))) (sym e))

-- where the bytes are not too many, and the commands were counted
pub counted_asked : (last : ℕ) (m : Meaning) (bytes : List ℕ) (s : Result ℕ CommandFault) → length bytes ≤ 1024 → s ≡ counted (read_all last bytes)
    → room_for m s ≡ cond (leb (length bytes) 1024) (room_for m (counted (read_all last bytes))) (Some Length)
counted_asked last m bytes s short is =
    ap (room_for m) is ∙ sym (ap (λ (x : Bool). cond x (room_for m (counted (read_all last bytes))) (Some Length)) (le-leb (length bytes) 1024 short))

-- every question about the call itself gets a yes
pub all_asked : (last : ℕ) (m : Meaning) (r k : ℕ) (bytes : List ℕ) (s : Result ℕ CommandFault) → r ≤ 63 → k ≤ 4095 → is_some (m.kind r) ≡ false → length bytes ≤ 1024
    → s ≡ counted (read_all last bytes) → room_for m s ≡ refusal last m r k bytes
all_asked last m r k bytes s number kind free short is =
    let inner = room_for m (counted (read_all last bytes)) in
    ap (room_for m) is
    ∙ sym (ap (λ (x : Bool). cond x (cond (leb k 4095) (cond (is_some (m.kind r)) (Some Taken) (cond (leb (length bytes) 1024) inner (Some Length))) (Some Kind)) (Some Number)) (le-leb r 63 number)
    ∙ ap (λ (x : Bool). cond x (cond (is_some (m.kind r)) (Some Taken) (cond (leb (length bytes) 1024) inner (Some Length))) (Some Kind)) (le-leb k 4095 kind)
    ∙ ap (λ (x : Bool). cond x (Some Taken) (cond (leb (length bytes) 1024) inner (Some Length))) free
    ∙ ap (λ (x : Bool). cond x inner (Some Length)) (le-leb (length bytes) 1024 short))

-- there is room for so many symbols and the end, or there is none
pub room_yes : (m : Meaning) (n : ℕ) → live m + needed n ≤ 256 → room_for m (Ok n) ≡ None
room_yes m n h = ap (λ (x : Bool). cond x None (Some Full)) (le-leb (live m + needed n) 256 h)

pub room_no : (m : Meaning) (n : ℕ) → 256 < live m + needed n → room_for m (Ok n) ≡ Some Full
room_no m n h = ap (λ (x : Bool). cond x None (Some Full)) (lt-leb (live m + needed n) 256 h)

-- ---- no refusal

yes : (b : Bool) (o : Option BookFault) (f : BookFault) → cond b o (Some f) ≡ None → (b ≡ true) × (o ≡ None)
yes true o f e = (refl, e)
yes false o f e = let z : ◌≡◌ {A = ℕ} 0 1 = cc in absurd (omega arith)

no : (b : Bool) (o : Option BookFault) (f : BookFault) → cond b (Some f) o ≡ None → (b ≡ false) × (o ≡ None)
no true o f e = let z : ◌≡◌ {A = ℕ} 0 1 = cc in absurd (omega arith)
no false o f e = (refl, e)

-- what an adding that is not refused has
pub record Asked (last : ℕ) (m : Meaning) (r k : ℕ) (bytes : List ℕ) : Type 0 where
  pub number : r < 64
  pub kind : k < 4096
  pub free : m.kind r ≡ None
  pub expression : Plain
  pub spelled : read_all last bytes ≡ Ok expression
  pub room : live m + needed (symbols expression) ≤ 256

none : (o : Option ℕ) → is_some o ≡ false → o ≡ None
none None e = refl
none (Some x) e = absurd (both_ways (is_some (Some x)) e refl)

roomy : (m : Meaning) (s : Result Plain CommandFault) → room_for m (counted s) ≡ None → (e : Plain) × (s ≡ Ok e) × (live m + needed (symbols e) ≤ 256)
roomy m (Ok e) h = (e, refl, leb-true _ 256 (yes (leb (live m + needed (symbols e)) 256) None Full h).0)
roomy m (Err f) h = let z : ◌≡◌ {A = ℕ} 0 1 = cc in absurd (omega arith)

pub asked : (last : ℕ) (m : Meaning) (r k : ℕ) (bytes : List ℕ) → refusal last m r k bytes ≡ None → Asked last m r k bytes
asked last m r k bytes h =
    let one = yes (leb r 63) _ Number h in
    let two = yes (leb k 4095) _ Kind one.1 in
    let three = no (is_some (m.kind r)) _ Taken two.1 in
    let four = yes (leb (length bytes) 1024) _ Length three.1 in
    let (e, spelled, room) = roomy m (read_all last bytes) four.1 in
    let number = leb-true r 63 one.0 in
    let kind = leb-true k 4095 two.0 in
    record { number = omega arith; kind = omega arith; free = none (m.kind r) three.0; expression = e; spelled = spelled; room = room }

-- the bytes spell this expression and no other
pub only_spelled : (last : ℕ) (bytes : List ℕ) (e : Plain) → read_all last bytes ≡ Ok e → (d : Plain) → Accepted last d bytes ↔ (d ≡ e)
only_spelled last bytes e spelled d = (
  λ h. same ((accepted_right last bytes d).1 h),
  λ h. (accepted_right last bytes d).0 (spelled ∙ ap (λ (x : Plain). Ok x) (sym h)),
)
  where
    same : read_all last bytes ≡ Ok d → d ≡ e
    same h = cc
