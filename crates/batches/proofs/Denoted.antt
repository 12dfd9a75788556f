-- Where every rule is an expression, every one is so after a call. Assumes nothing.
use Rattle.std.proofs.Common.{◌≡◌, ℕ, List, is_some, sym, ap, ◌∙◌, subst, inl, inr}
use Rattle.std.proofs.lemmas.Bool.{both_ways, cases_eq}
use Rattle.books.specs.Meaning.{Meaning, InForce, Lawful}
use Rattle.books.specs.Changes.{Elsewhere}
use Rattle.books.specs.Texts.{meets}
use Rattle.books.specs.declared.faults.BookFault.{BookFault}
use Rattle.states.specs.Sets.{Rules}
use Rattle.kept.specs.Steps.{Step}
use Rattle.readings.specs.Views.{View}
use Rattle.readings.specs.Readings.{Told, ReadsAsMeant}
use Rattle.readings.specs.Readings.Reading.{whole}
use Rattle.readings.specs.Readings.Told.{ended}
use Rattle.readings.specs.Calls.{ChangesOr}
use Rattle.readings.specs.Calls.Call.{add, delete}
use Rattle.readings.proofs.Runs.{works_meaning}
use Rattle.expressions.specs.Expression.{Plain}
use Rattle.expressions.specs.Rules.{Means, Expressed, Additive}
use Rattle.expressions.specs.Tokens.{DenotedBy}
use Rattle.expressions.proofs.Tokens.{meets_all, search_denoted}
use Rattle.expression_book.specs.Promises.{Denoting}
use Rattle.alike.specs.Runs.{ExpressionActs}
use Rattle.alike.proofs.Changing.{Writes, Strikes}

-- a change of rule r, after which that rule is an expression if it is in force
expressed_after : (m n : Meaning) (r : ℕ) → Elsewhere r m n → ((q : ℕ) (e : Plain) → (q ≡ r → ⊥) → Means m q e → Means n q e)
    → (InForce n r → (e : Plain) × Means n r e) → Expressed m → Expressed n
expressed_after m n r elsewhere stay here all q force = elim (cases_eq q r) [
  | inl e ↦ subst (λ (x : ℕ). (e : Plain) × Means n x e) (sym e) (here (subst (InForce n) e force))
  | inr d ↦ (let (e, is) = all q (ap is_some (sym (elsewhere.kinds q d)) ∙ force) in (e, stay q e d is))
]

denoting_from : (m : Meaning) → Lawful m → Additive m → Expressed m → Denoting m
denoting_from m lawful additive all =
    record { expressed = all; texts = meets_all m lawful additive all; tokens = search_denoted m lawful additive all }

added_denoting : (r k : ℕ) (bytes : List ℕ) (m n : Meaning) → Lawful n → Writes 255 r k bytes m n → Denoting m → Denoting n
added_denoting r k bytes m n lawful w d =
    let x = w.grown in
    denoting_from n lawful x.additive
    (expressed_after m n r w.added.elsewhere x.others.expressions (λ _. (x.adopts.expression, x.adopts.means)) d.expressed)

deleted_denoting : (r : ℕ) (m n : Meaning) → Lawful n → Strikes r m n → Denoting m → Denoting n
deleted_denoting r m n lawful w d =
    denoting_from n lawful w.shrunk.additive
    (expressed_after m n r w.deleted.elsewhere w.shrunk.others.expressions (λ h. absurd (both_ways _ (ap is_some w.deleted.after) h)) d.expressed)

-- a change that is refused leaves the book
unless_refused : (because : BookFault → Type 0) (change : Meaning → Meaning → Type 0) (steps : List Step) (t : Told) (n : ℕ) (v w : View)
    → ((m' : Meaning) → Lawful m' → change v.book.meaning m' → Denoting v.book.meaning → Denoting m') → ChangesOr because change steps t n v w
    → Denoting v.book.meaning → Denoting w.book.meaning
unless_refused because change steps t n v w go (inl x) d = subst (λ (u : View). Denoting u.book.meaning) (sym x.1.same) d
unless_refused because change steps t n v w go (inr (inl x)) d = subst (λ (u : View). Denoting u.book.meaning) (sym x.1.2.same) d
unless_refused because change steps t n v w go (inr (inr x)) d = go w.book.meaning x.lawful x.book.meaning d

pub add_denoting : (r k : ℕ) (bytes : List ℕ) (t : Told) (n : ℕ) (v w : View) → ExpressionActs 255 (add r k bytes) t n v w
    → Denoting v.book.meaning → Denoting w.book.meaning
add_denoting r k bytes t n v w = unless_refused _ _ _ t n v w (added_denoting r k bytes v.book.meaning)

pub delete_denoting : (r : ℕ) (t : Told) (n : ℕ) (v w : View) → ExpressionActs 255 (delete r) t n v w → Denoting v.book.meaning → Denoting w.book.meaning
delete_denoting r t n v w = unless_refused _ _ _ t n v w (deleted_denoting r v.book.meaning)

module _ (text : List ℕ) (rules : Rules) (n : ℕ) (v w : View) (reads : ReadsAsMeant (whole text) (ended rules) n v w) (d : Denoting v.book.meaning) where
  -- the line meets exactly the rules whose expressions denote it
  pub read_denoted : DenotedBy v.book.meaning text rules
  read_denoted =
      let met : meets v.book.meaning text ≡ rules = cc (reads.0.tells) in
      subst (DenotedBy v.book.meaning text) met (d.texts text)

  pub read_denoting : Denoting w.book.meaning
  read_denoting = subst Denoting (sym (works_meaning reads.0.works)) d
