-- Books with the same rules are met by the same texts, have as many live positions, and refuse alike. Assumes nothing.
use Rattle.std.proofs.Common.{◌≡◌, ℕ, ◌+◌, false, cond, leb, List, length, is_some as option_is_some, Some, None, Ok, Err, Option, Result, sym, refl, ap, ◌∙◌, ap₂, inl, inr}
use Rattle.std.proofs.lemmas.Bool.{both_ways, cases_Bool}
use Rattle.states.specs.Sets.{State, has_rule}
use Rattle.states.specs.Words.{tally}
use Rattle.states.proofs.Members.{same_rules}
use Rattle.books.specs.Meaning.{Meaning, Lawful, is, touches}
use Rattle.books.specs.Texts.{meets}
use Rattle.books.specs.declared.faults.CommandFault.{CommandFault}
use Rattle.books.specs.declared.faults.BookFault.{BookFault}
use Rattle.books.specs.declared.faults.BookFault.TheVariants.{Number, Kind, Taken, Length, Full}
use Rattle.expressions.specs.Commands.{read_all, counted}
use Rattle.expressions.specs.Rules.{Additive, SameRules, needed, live, refusal, room_for}
use Rattle.expressions.proofs.Members.{same_test, is_some, touched}
use Rattle.expressions.proofs.Texts.{meets_denoted}
use Rattle.expressions.proofs.Counting.{tally_none, owned_count, sum_same, live_count}

-- ---- a rule that is not in force

owns_none : (m : Meaning) (r : ℕ) → Lawful m → option_is_some (m.kind r) ≡ false → (p : ℕ) → is (m.owner p) r ≡ false
owns_none m r law out p = elim (cases_Bool (is (m.owner p) r)) [
  | inl t ↦ absurd (both_ways _ out (law.owners p r (is_some (m.owner p) r t)).1)
  | inr t ↦ t
]

pub ends_none : (m : Meaning) (r : ℕ) (s : State) → Lawful m → option_is_some (m.kind r) ≡ false → has_rule (m.ended s) r ≡ false
ends_none m r s law out = law.ends r s (elim (cases_Bool (touches m r s)) [
  | inl t ↦ (let w = touched m r s t in absurd (both_ways _ out (law.owners w.0 r w.2).1))
  | inr t ↦ t
])

-- ---- the same rules

module _ (m n : Meaning) (lawful : Lawful m) (lawful' : Lawful n) (same : SameRules m n) where
  out_too : (r : ℕ) → option_is_some (m.kind r) ≡ false → option_is_some (n.kind r) ≡ false
  out_too r out = ap option_is_some (same.kinds r) ∙ out

  owned_same : (r : ℕ) → tally (λ p. is (n.owner p) r) 256 ≡ tally (λ p. is (m.owner p) r) 256
  owned_same r = elim (cases_Bool (option_is_some (m.kind r))) [
    | inl t ↦ (let (e, a, b) = same.expressions r t in owned_count n r e lawful' b ∙ sym (owned_count m r e lawful a))
    | inr t ↦ tally_none _ 256 (λ p l. owns_none n r lawful' (out_too r t) p) ∙ sym (tally_none _ 256 (λ p l. owns_none m r lawful t p))
  ]

  -- as many positions are live
  pub live_same : live n ≡ live m
  live_same = live_count n lawful' ∙ sum_same _ _ 64 (λ r l. owned_same r) ∙ sym (live_count m lawful)

  -- adding is refused alike
  pub refusal_same : (last r k : ℕ) (bytes : List ℕ) → refusal last n r k bytes ≡ refusal last m r k bytes
  refusal_same last r k bytes =
      ap₂ (λ (o : Option ℕ) (f : Option BookFault). cond (leb r 63) (cond (leb k 4095) (cond (option_is_some o) (Some Taken) (cond (leb (length bytes) 1024) f (Some Length))) (Some Kind)) (Some Number))
      (same.kinds r) (room (counted (read_all last bytes)))
    where
      room : (c : Result ℕ CommandFault) → room_for n c ≡ room_for m c
      room (Ok s) = ap (λ (x : ℕ). cond (leb (x + needed s) 256) None (Some Full)) live_same
      room (Err f) = refl

  module _ (additive : Additive m) (additive' : Additive n) where
    -- the same texts meet the same rules
    pub meets_same : (text : List ℕ) → meets n text ≡ meets m text
    meets_same text = same_rules (meets n text) (meets m text) (λ r l. rule r)
      where
        rule : (r : ℕ) → has_rule (meets n text) r ≡ has_rule (meets m text) r
        rule r = elim (cases_Bool (option_is_some (m.kind r))) [
          | inl t ↦ (
              let (e, a, b) = same.expressions r t in
              let one = meets_denoted m r e lawful additive a text in
              let two = meets_denoted n r e lawful' additive' b text in
              same_test _ _ (λ h. one.1 (two.0 h)) (λ h. two.1 (one.0 h)))
          | inr t ↦ ends_none n r _ lawful' (out_too r t) ∙ sym (ends_none m r _ lawful t)
        ]
