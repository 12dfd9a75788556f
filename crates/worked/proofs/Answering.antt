-- Calls one after the other, which answer what lines say. Assumes nothing.
use Rattle.std.proofs.Common.{◌≡◌, ℕ, ◌+◌, ◌<◌, ◌≤◌, true, false, not, leb, List, [], ◌∷◌, ◌++◌, map, length, is_some, Some, None, filter, refl, ap, ◌∙◌, subst}
use Rattle.states.specs.Sets.{rules_of}
use Rattle.books.specs.Meaning.{Meaning, touches}
use Rattle.books.specs.Changes.{Added, Deleted}
use Rattle.books.specs.Texts.{after}
use Rattle.kept.specs.Steps.{most}
use Rattle.readings.specs.Views.{View}
use Rattle.readings.specs.Runs.{Pair, met}
use Rattle.readings.specs.Readings.{Told}
use Rattle.readings.specs.Readings.Reading.{whole}
use Rattle.readings.specs.Readings.Told.{changed, ended}
use Rattle.readings.specs.Calls.{Call, final}
use Rattle.readings.specs.Entries.{Entry}
use Rattle.expressions.specs.Expression.{Plain, symbols}
use Rattle.expressions.specs.Rules.{Additive, needed, live}
use Rattle.alike.specs.Runs.{ExpressionActs, Runs}
use Rattle.worked.specs.Lines.{Line, commands, line_of, these, adds, deletes, reads}
use Rattle.worked.proofs.Rules.{Expressions, Has, denoted_by, text_meets, text_meets_all, in_force, with_rule, asked}
use Rattle.worked.proofs.Pairs.{way, met_way, meets_touched}
use Rattle.worked.proofs.Calls.{At, new_pairs, reading_line, adding_line, deleting_line}
use Rattle.worked.proofs.Patterns.{Spelled}

-- the calls of these lines, made of the reader v, answer what the lines say
abbrev pub Answered : View → List Line → Type 0
Answered v ls =
    (es : List Entry) → Runs 255 v es → map (λ (e : Entry). e.call) es ≡ map (λ (l : Line). l.call) ls → map line_of es ≡ ls

pub answered_none : (v : View) → Answered v []
answered_none v [] h e = refl
answered_none v (x ∷ es) h e = cc

pub answered_more : (v : View) (l : Line) (ls : List Line)
    → ((t : Told) (n : ℕ) (w : View) → ExpressionActs 255 l.call t n v w → (t ≡ l.told) × (n ≡ l.count) × Answered w ls) → Answered v (l ∷ ls)
answered_more v l ls does [] h e = cc
answered_more v l ls does (x ∷ es) (w, at, act, more) e =
    let call : x.call ≡ l.call = cc in
    let calls : map (λ (e : Entry). e.call) es ≡ map (λ (l : Line). l.call) ls = cc in
    let d = does x.told x.count w (subst (λ (c : Call). ExpressionActs 255 c x.told x.count v w) call act) in
    let rest = d.2 es more calls in
    λ i. record { call = call i; told = d.0 i; count = d.1 i } ∷ rest i

-- Of a reader whose book has these rules, and of the lines behind a call, from the reader that the call leaves.
module _ {v : View} {m : Meaning} {edition : ℕ} {K : List Pair} {rules : Expressions} {k : ℕ} (at : At v m edition K) (has : Has m rules k) where
  pub adding : (r kind : ℕ) (text : List ℕ) (e : Plain) (next : ℕ) (ls : List Line) → Spelled text e → leb r 63 ≡ true → leb kind 4095 ≡ true
      → is_some (rules r) ≡ false → leb (k + needed (symbols e)) 256 ≡ true → edition < final → edition + 1 ≡ next
      → ((n : Meaning) (w : View) → Added r kind m n → Additive n → Has n (with_rule r (Some e) rules) (k + needed (symbols e)) → At w n next K → Answered w ls)
      → Answered v (adds r kind text next ∷ ls)
  adding r kind text e next ls spelled number small free room low then more = answered_more v (adds r kind text next) ls (λ t c w act.
      let a = adding_line r kind (commands text) e at has (asked r kind (commands text) e has number small free spelled.short spelled.reads room) spelled.reads low act in
      (a.tells ∙ ap changed then, a.count, more a.book w a.added a.additive a.has (subst (λ (i : ℕ). At w a.book i K) then a.leaves)))

  pub deleting : (r next : ℕ) (ls : List Line) → is_some (rules r) ≡ true → edition < final → edition + 1 ≡ next
      → ((n : Meaning) (w : View) → Deleted r m n → Additive n → Has n (with_rule r None rules) (live n)
      → At w n next (filter (λ (p : Pair). not (touches m r p.0)) K) → Answered w ls)
      → Answered v (deletes r next ∷ ls)
  deleting r next ls force low then more = answered_more v (deletes r next) ls (λ t c w act.
      let d = deleting_line r at has (in_force m r (rules r) (has.rule r) ∙ force) low act in (
        d.tells ∙ ap changed then,
        d.count,
        more d.book w d.deleted d.additive d.has (subst (λ (i : ℕ). At w d.book i (filter (λ (p : Pair). not (touches m r p.0)) K)) then d.leaves),
      ))

  module _ (additive : Additive m) where
    -- a reading of a whole text that meets the new pairs D
    pub reading : (text rs : List ℕ) (D : List Pair) (ls : List Line) → (rules_of (λ r. denoted_by text (rules r))).words ≡ (these rs).words
        → new_pairs m K (whole text) ≡ D → length K + length D ≤ most → ((w : View) → At w m edition (K ++ D) → Answered w ls)
        → Answered v (reads text rs (length D) ∷ ls)
    reading text rs D ls met new room more = answered_more v (reads text rs (length D)) ls (λ t n w act.
        let r = reading_line (ended (these rs)) D at has.lawful.starts (λ t tells. tells ∙ ap ended (text_meets_all has additive text (these rs) met)) new room act in
        (r.0, r.1, more w r.2))

-- a text that a rule's expression denotes holds positions of the rule on its way, which is met whole
module _ {m : Meaning} {rules : Expressions} {k : ℕ} (has : Has m rules k) (additive : Additive m) (r : ℕ) (text : List ℕ) where
  pub denoted_touches : denoted_by text (rules r) ≡ true → touches m r (after m.next m.start text) ≡ true
  denoted_touches d = meets_touched m has.lawful r (after m.next m.start text) (text_meets has additive text r ∙ d)

  pub denoted_met : denoted_by text (rules r) ≡ true → met m.next m.start text ≡ way m.next m.start text
  denoted_met d = met_way m has.lawful r m.start text (denoted_touches d)
