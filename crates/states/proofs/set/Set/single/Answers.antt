use Rattle.std.proofs.Common.{◌≡◌, ℕ, zero, suc, ◌+◌, ◌*◌, ◌/◌, ◌%◌, ◌^◌, ◌<◌, ◌≤◌, List, cond, eqb, get_or, ap, ◌∙◌, ap₂, sym, refl, subst, inl, inr, rules, arith}
use Rattle.std.specs.Array.{IsFromFnResultFrom, IsFromFnResult}
use Rattle.std.specs.Fn.{Called}
use Rattle.std.proofs.lemmas.Bool.{cases_eq}
use Rattle.std.proofs.lemmas.Nat.{one_shl}
use denote.Param.Members.{Mut}
use Rattle.states.proofs.Members.{has_single, alone}
use Rattle.states.proofs.set.Set.single.Goals as goal

-- the calls of `from_fn`, of which each answers v and leaves the closure as it was
module _ {F : Type 0} {g : Mut F (ℕ × Unit {0}) ℕ} {f : F} (v : ℕ → ℕ) (call : (i y : ℕ) (q : F) → Called g f (i, tt) y q → (y ≡ v i) × (q ≡ f)) (ys : List ℕ) where
  made_from : (i n : ℕ) (p : F) → p ≡ f → IsFromFnResultFrom g p ys i n → (k : ℕ) → i ≤ k → k < i + n → get_or ys k 0 ≡ v k
  made_from i zero p e h k low high = absurd (omega arith)
  made_from i (suc n) p e h k low high =
      let one = call i h.1 h.0 (subst (λ (q : F). Called g q (i, tt) h.1 h.0) e h.3) in
      elim (cases_eq k i) [
        | inl s ↦ ap (λ (x : ℕ). get_or ys x 0) s ∙ h.2.1 0 ∙ one.0 ∙ ap v (sym s)
        | inr d ↦ made_from (i + 1) n h.0 one.1 h.4 k (omega arith) (omega arith)
      ]

  made_by : (n : ℕ) → IsFromFnResult g f ys n → (k : ℕ) → k < n → get_or ys k 0 ≡ v k
  made_by n h k l = made_from 0 n f refl h.each k (omega arith) (omega arith)

pub returns-clause-within : goal.returns-clause-within
returns-clause-within g c =
    let at = c.args.at in
    let own : c.from-k.result ≡ at / 64 = omega arith in
    has_single _ at (λ i l.
    made_by (λ i. cond (eqb i c.from-k.result) (1 * 2 ^ (at % 64) % 2 ^ 64) 0) (λ i y q h. search rules) c.from_fn.result _ c.from_fn.ensures.items i l
    ∙ ap₂ (λ (k w : ℕ). cond (eqb i k) w 0) own (one_shl (at % 64) 64 (omega arith)))

pub returns-clause-alone : goal.returns-clause-alone
returns-clause-alone g c = λ l. alone _ c.args.at l (returns-clause-within g c)
