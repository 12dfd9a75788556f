-- A book's rules as expressions: which rules a text meets, and what an adding and a deletion make of them. Assumes nothing.
use Rattle.std.proofs.Common.{◌≡◌, ℕ, ◌+◌, Bool, true, false, cond, eqb, leb, List, length, is_some, Some, None, Ok, Option, Result, refl, sym, ap, ◌∙◌, subst, inl, inr}
use Rattle.std.proofs.lemmas.Bool.{both_ways, cases_eq, cond-true, cond-false, eq-eqb, ne_eqb}
use Rattle.std.proofs.lemmas.Bool.Decides.{same_from_decides}
use Rattle.states.specs.Sets.{Rules, has_rule, rules_of}
use Rattle.states.proofs.Members.{is_rules_of, same_words}
use Rattle.books.specs.Meaning.{Meaning, InForce, Lawful}
use Rattle.books.specs.Texts.{meets}
use Rattle.books.specs.Changes.{Added, Deleted}
use Rattle.books.specs.declared.faults.CommandFault.{CommandFault}
use Rattle.expressions.specs.Expression.{Plain, symbols}
use Rattle.expressions.specs.Commands.{read_all, counted}
use Rattle.expressions.specs.Rules.{Means, Additive, live, needed, room_for, refusal}
use Rattle.expressions.proofs.Texts.{meets_denoted}
use Rattle.expressions.proofs.Alike.{ends_none}
use Rattle.expressions.proofs.Counting.{tally_none}
use Rattle.expressions.proofs.Runs.{accepted_right}
use Rattle.expression_book.specs.Promises.{ExpressionAdded, ExpressionDeleted}
use Rattle.worked.specs.Lines.{NoRules}
use Rattle.worked.proofs.Denoted.{denoted, denoted_right}

-- ---- which rules a book has

-- the expression of a rule; none where it is not in force
abbrev pub Expressions : Type 0
Expressions = ℕ → Option Plain

abbrev pub IsRule : Meaning → ℕ → Option Plain → Type 0
IsRule m r None = m.kind r ≡ None
IsRule m r (Some e) = InForce m r × Means m r e

-- the book has these rules and no others, and so many live positions
pub record Has (m : Meaning) (rules : Expressions) (n : ℕ) : Type 0 where
  pub lawful : Lawful m
  pub rule : (r : ℕ) → IsRule m r (rules r)
  pub positions : live m ≡ n

abbrev pub no_rules : Expressions
no_rules r = None

pub has_none : (m : Meaning) → NoRules m → Has m no_rules 0
has_none m new = record {
  lawful = new.lawful;
  rule = new.none;
  positions = tally_none _ 256 (λ p l. free p (m.owner p) refl);
}
  where
    free : (p : ℕ) (o : Option ℕ) → m.owner p ≡ o → is_some (m.owner p) ≡ false
    free p None e = ap is_some e
    free p (Some r) e = absurd (both_ways _ (ap is_some (new.none r)) (new.lawful.owners p r e).1)

-- ---- which rules a text meets

abbrev pub denoted_by : List ℕ → Option Plain → Bool
denoted_by text None = false
denoted_by text (Some e) = denoted e text

module _ {m : Meaning} {rules : Expressions} {n : ℕ} (has : Has m rules n) (additive : Additive m) where
  rule_met : (text : List ℕ) (r : ℕ) (o : Option Plain) → IsRule m r o → has_rule (meets m text) r ≡ denoted_by text o
  rule_met text r None k = ends_none m r _ has.lawful (ap is_some k)
  rule_met text r (Some e) k = same_from_decides _ _ (meets_denoted m r e has.lawful additive k.1 text) (denoted_right e text)

  pub text_meets : (text : List ℕ) (r : ℕ) → has_rule (meets m text) r ≡ denoted_by text (rules r)
  text_meets text r = rule_met text r (rules r) (has.rule r)

  -- all of them
  pub text_meets_all : (text : List ℕ) (out : Rules) → (rules_of (λ r. denoted_by text (rules r))).words ≡ out.words → meets m text ≡ out
  text_meets_all text out e = is_rules_of (meets m text) (λ r. denoted_by text (rules r)) (λ r l. text_meets text r) ∙ same_words _ out e

-- whether a rule is in force
pub in_force : (m : Meaning) (r : ℕ) (o : Option Plain) → IsRule m r o → is_some (m.kind r) ≡ is_some o
in_force m r None k = ap is_some k
in_force m r (Some e) k = k.0

-- ---- one rule changed

-- the rules where rule r is this one, or none
abbrev pub with_rule : ℕ → Option Plain → Expressions → Expressions
with_rule r o rules q = cond (eqb r q) o (rules q)

module _ {m n : Meaning} {rules : Expressions} {k : ℕ} (has : Has m rules k) (law : Lawful n) (r : ℕ) where
  stays : (q : ℕ) (o : Option Plain) → n.kind q ≡ m.kind q → ((e : Plain) → Means m q e → Means n q e) → IsRule m q o → IsRule n q o
  stays q None same others i = same ∙ i
  stays q (Some e) same others i = (ap is_some same ∙ i.0, others e i.1)

  turned : (o : Option Plain) → IsRule n r o → ((q : ℕ) → (q ≡ r → ⊥) → n.kind q ≡ m.kind q)
      → ((q : ℕ) (e : Plain) → (q ≡ r → ⊥) → Means m q e → Means n q e) → (q : ℕ) → IsRule n q (with_rule r o rules q)
  turned o here kinds others q = elim (cases_eq r q) [
    | inl e ↦ subst (IsRule n q) (sym (cond-true (eqb r q) o (rules q) (eq-eqb r q e))) (subst (λ (x : ℕ). IsRule n x o) e here)
    | inr d ↦ subst (IsRule n q) (sym (cond-false (eqb r q) o (rules q) (ne_eqb r q d)))
        (stays q (rules q) (kinds q (λ e. d (sym e))) (λ e. others q e (λ x. d (sym x))) (has.rule q))
  ]

  pub rule_added : {kind : ℕ} {bytes : List ℕ} (e : Plain) → Added r kind m n → ExpressionAdded 255 r bytes m n → read_all 255 bytes ≡ Ok e
      → Has n (with_rule r (Some e) rules) (k + needed (symbols e))
  rule_added {kind} {bytes} e a x reads =
      let same : e ≡ x.adopts.expression = (x.adopts.spelled e).0 ((accepted_right 255 bytes e).0 reads) in
      record {
        lawful = law;
        rule = turned (Some e) (ap is_some a.after, subst (Means n r) (sym same) x.adopts.means) a.elsewhere.kinds x.others.expressions;
        positions = x.adopts.positions ∙ ap (λ (l : ℕ). l + needed (symbols x.adopts.expression)) has.positions
            ∙ ap (λ (d : Plain). k + needed (symbols d)) (sym same);
      }

  pub rule_deleted : {l : ℕ} → Deleted r m n → ExpressionDeleted r m n → live n ≡ l → Has n (with_rule r None rules) l
  rule_deleted d x count = record { lawful = law; rule = turned None d.after d.elsewhere.kinds x.others.expressions; positions = count }

-- every question about an adding gets a yes
pub asked : {m : Meaning} {rules : Expressions} {n : ℕ} (r kind : ℕ) (bytes : List ℕ) (e : Plain) → Has m rules n → leb r 63 ≡ true → leb kind 4095 ≡ true
    → is_some (rules r) ≡ false → leb (length bytes) 1024 ≡ true → read_all 255 bytes ≡ Ok e → leb (n + needed (symbols e)) 256 ≡ true
    → refusal 255 m r kind bytes ≡ None
asked {m} {rules} r kind bytes e has number small free short reads room =
    cond-true (leb r 63) _ _ number ∙ cond-true (leb kind 4095) _ _ small ∙ cond-false (is_some (m.kind r)) _ _ (in_force m r (rules r) (has.rule r) ∙ free)
    ∙ cond-true (leb (length bytes) 1024) _ _ short ∙ ap (λ (s : Result ℕ CommandFault). room_for m s) (ap counted reads)
    ∙ cond-true (leb (live m + needed (symbols e)) 256) _ _ (ap (λ (l : ℕ). leb (l + needed (symbols e)) 256) has.positions ∙ room)
