-- A number that comes first is parted from what follows in one way only.
use Rattle.std.proofs.Common.{◌≡◌, ℕ, ◌<◌, ◌≤◌, min, List, [], ◌∷◌, Some, Ok, Err, Option, Result, sym, inr, ap, ◌∙◌, subst, arith, lit≤}
use Rattle.std.specs.Str.Parse.{AllDigits, digits_value}
use Rattle.std.specs.Char.{digit_value}
use Rattle.lines.specs.Numerals.{Number, last}
use Rattle.lines.specs.Parts.{Lacks, Parts}
use Rattle.lines.specs.Lines.{ExpectsLed, Leads, Led, Parses, joined}
use Rattle.lines.specs.declared.command.Command.{Command}
use Rattle.lines.specs.declared.command.Expected.{Expected}
use Rattle.lines.proofs.Parting.{joined_parts, one_parting}

-- digits hold no mark that is no digit
pub digits_lack : (mark : ℕ) → 10 ≤ digit_value mark → (d : List ℕ) → AllDigits 10 d → Lacks mark d
digits_lack mark high [] h = tt
digits_lack mark high (c ∷ d) h = (λ e. let v = subst (λ b. digit_value b < 10) e h.0 in absurd (omega (arith, v)), digits_lack mark high d h.1)

digits_no_space : (d : List ℕ) → AllDigits 10 d → Lacks 32 d
digits_no_space = digits_lack 32 (lit≤ tt)

-- a text that leads with a number has it before the first space
pub leads_parted : (text first : List ℕ) (rest more : Option (List ℕ)) (n : ℕ) → Parts 32 text first rest → Leads (Some text) n more → Number first n
leads_parted text first rest more n h k =
    let e : text ≡ joined k.0 more = cc k.1 in
    let s = one_parting 32 text first k.0 rest more h (subst (λ t. Parts 32 t k.0 more) (sym e) (joined_parts k.0 more (digits_no_space k.0 k.2.0.1))) in
    subst (λ d. Number d n) (sym s.0) k.2

-- a text leads with one number, behind which one rest stands
pub leads_one : (rest m m' : Option (List ℕ)) (n n' : ℕ) → Leads rest n m → Leads rest n' m' → (n ≡ n') × (m ≡ m')
leads_one rest m m' n n' h k =
    let e : joined h.0 m ≡ joined k.0 m' = cc (h.1, k.1) in
    let p = joined_parts h.0 m (digits_no_space h.0 h.2.0.1) in
    let q = joined_parts k.0 m' (digits_no_space k.0 k.2.0.1) in
    let s = one_parting 32 (joined h.0 m) h.0 k.0 m m' p (subst (λ t. Parts 32 t k.0 m') (sym e) q) in
    (h.2.1 ∙ ap (λ d. min (digits_value 10 d) last) s.0 ∙ sym k.2.1, s.1)

-- what refuses every command behind the number that leads refuses every command that a number leads
pub led_refused : (makes : ℕ → Option (List ℕ) → Command → Type 0) (rest more : Option (List ℕ)) (n : ℕ) → Leads rest n more →
    ((c : Command) → makes n more c → ⊥) → (c : Command) → Led makes rest c → ⊥
led_refused makes rest more n h none c k =
    let s = leads_one rest k.1 more k.0 n k.2 h in
    none c (subst (λ m. makes n m c) s.1 (subst (λ x. makes x k.1 c) s.0 k.3))

-- what is answered behind the number that leads is answered of the whole
pub led_answers : (makes : ℕ → Option (List ℕ) → Command → Type 0) (expects : Option (List ℕ) → Expected → Type 0) (rest more : Option (List ℕ)) (n : ℕ) →
    Leads rest n more → (r : Result Command Expected) → Parses (makes n more) (expects more) r → Parses (Led makes rest) (ExpectsLed expects rest) r
led_answers makes expects rest more n h (Ok c) k = (n, more, h, k)
led_answers makes expects rest more n h (Err e) k = (inr (n, more, h, k.0), led_refused makes rest more n h k.1)
