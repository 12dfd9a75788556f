-- How many positions a rule and a book have. Assumes nothing.
use Rattle.std.proofs.Common.{◌≡◌, ℕ, zero, suc, ◌+◌, ◌<◌, Bool, true, false, cond, ◌||◌, eqb, is_some as option_is_some, Some, None, Option, sym, refl, ap, ◌∙◌, ap₂, inl, inr, arith}
use Rattle.std.proofs.lemmas.Bool.{both_ways, cases_eq, eqb-true, eq-eqb, ne_eqb, or_cases, or_left, or_right}
use Rattle.states.specs.Words.{tally}
use Rattle.states.proofs.Digits.{tally_same}
use Rattle.books.specs.Meaning.{Meaning, InForce, Lawful, is}
use Rattle.expressions.specs.Expression.{Expr, empty, symbol, join, either, star, plus, optional, Plain, Labelled, plain, symbols}
use Rattle.expressions.specs.Positions.{Owns, Distinct, followed_by}
use Rattle.expressions.specs.Rules.{Means, needed, live}
use Rattle.expressions.proofs.Members.{same_test, is_some, some_is}

-- ---- the positions of an expression

-- whether a symbol carries the position
abbrev carries : Labelled → ℕ → Bool
carries empty p = false
carries (symbol l low high) p = eqb l p
carries (join a b) p = carries a p || carries b p
carries (either a b) p = carries a p || carries b p
carries (star a) p = carries a p
carries (plus a) p = carries a p
carries (optional a) p = carries a p

carries_owned : (e : Labelled) (p : ℕ) → carries e p ≡ true → Owns e p
carries_owned empty p h = both_ways false refl h
carries_owned (symbol l low high) p h = eqb-true l p h
carries_owned (join a b) p h = elim (or_cases (carries a p) (carries b p) h) [ inl x ↦ inl (carries_owned a p x) | inr x ↦ inr (carries_owned b p x) ]
carries_owned (either a b) p h = elim (or_cases (carries a p) (carries b p) h) [ inl x ↦ inl (carries_owned a p x) | inr x ↦ inr (carries_owned b p x) ]
carries_owned (star a) p h = carries_owned a p h
carries_owned (plus a) p h = carries_owned a p h
carries_owned (optional a) p h = carries_owned a p h

owned_carries : (e : Labelled) (p : ℕ) → Owns e p → carries e p ≡ true
owned_carries empty p h = absurd h
owned_carries (symbol l low high) p h = eq-eqb l p h
owned_carries (join a b) p (inl h) = or_left _ _ (owned_carries a p h)
owned_carries (join a b) p (inr h) = or_right _ _ (owned_carries b p h)
owned_carries (either a b) p (inl h) = or_left _ _ (owned_carries a p h)
owned_carries (either a b) p (inr h) = or_right _ _ (owned_carries b p h)
owned_carries (star a) p h = owned_carries a p h
owned_carries (plus a) p h = owned_carries a p h
owned_carries (optional a) p h = owned_carries a p h

pub tally_none : (f : ℕ → Bool) (n : ℕ) → ((p : ℕ) → p < n → f p ≡ false) → tally f n ≡ 0
unfolding tally
tally_none f zero h = refl
tally_none f (suc n) h = ap₂ (λ (x : ℕ) (t : Bool). x + cond t 1 0) (tally_none f n (λ p l. h p (omega arith))) (h n (omega arith))

tally_one : (l n : ℕ) → l < n → tally (eqb l) n ≡ 1
unfolding tally
tally_one l zero h = absurd (omega arith)
tally_one l (suc n) h = elim (cases_eq l n) [
  | inl e ↦ ap₂ (λ (x : ℕ) (t : Bool). x + cond t 1 0) (tally_none (eqb l) n (λ p k. ne_eqb l p (λ x. omega arith))) (eq-eqb l n e)
  | inr d ↦ ap₂ (λ (x : ℕ) (t : Bool). x + cond t 1 0) (tally_one l n (omega arith)) (ne_eqb l n d)
]

-- two tests that no number passes both
tally_either : (f g : ℕ → Bool) (n : ℕ) → ((p : ℕ) → f p ≡ true → g p ≡ true → ⊥) → tally (λ p. f p || g p) n ≡ tally f n + tally g n
unfolding tally
tally_either f g zero h = refl
tally_either f g (suc n) h =
    let here : cond (f n || g n) 1 0 ≡ cond (f n) 1 0 + cond (g n) 1 0 = one (f n) (g n) (h n) in
    let rest = tally_either f g n h in
    omega arith
  where
    one : (a b : Bool) → (a ≡ true → b ≡ true → ⊥) → cond (a || b) 1 0 ≡ cond a 1 0 + cond b 1 0
    one true true k = absurd (k refl refl)
    one true false k = refl
    one false true k = refl
    one false false k = refl

-- an expression with distinct positions has as many as symbols
tally_carries : (e : Labelled) (n : ℕ) → Distinct e → ((p : ℕ) → Owns e p → p < n) → tally (carries e) n ≡ symbols e
tally_carries empty n d h = tally_none _ n (λ p l. refl)
tally_carries (symbol l low high) n d h = tally_one l n (h l refl)
tally_carries (join a b) n d h =
    tally_either (carries a) (carries b) n (λ p x y. d.2 p (carries_owned a p x) (carries_owned b p y))
    ∙ ap₂ (λ (x y : ℕ). x + y) (tally_carries a n d.0 (λ p o. h p (inl o))) (tally_carries b n d.1 (λ p o. h p (inr o)))
tally_carries (either a b) n d h =
    tally_either (carries a) (carries b) n (λ p x y. d.2 p (carries_owned a p x) (carries_owned b p y))
    ∙ ap₂ (λ (x y : ℕ). x + y) (tally_carries a n d.0 (λ p o. h p (inl o))) (tally_carries b n d.1 (λ p o. h p (inr o)))
tally_carries (star a) n d h = tally_carries a n d h
tally_carries (plus a) n d h = tally_carries a n d h
tally_carries (optional a) n d h = tally_carries a n d h

pub symbols_plain : {L : Type 0} (e : Expr L) → symbols (plain e) ≡ symbols e
symbols_plain empty = refl
symbols_plain (symbol l low high) = refl
symbols_plain (join a b) = ap₂ (λ (x y : ℕ). x + y) (symbols_plain a) (symbols_plain b)
symbols_plain (either a b) = ap₂ (λ (x y : ℕ). x + y) (symbols_plain a) (symbols_plain b)
symbols_plain (star a) = symbols_plain a
symbols_plain (plus a) = symbols_plain a
symbols_plain (optional a) = symbols_plain a

-- ---- the positions of a rule

-- a rule owns as many positions as its expression has symbols, and its end
pub owned_count : (m : Meaning) (r : ℕ) (e : Plain) → Lawful m → Means m r e → tally (λ p. is (m.owner p) r) 256 ≡ needed (symbols e)
owned_count m r e law means =
    let E = followed_by means.body means.end in
    let same : (p : ℕ) → is (m.owner p) r ≡ carries E p = λ p.
    same_test _ _ (λ h. owned_carries E p ((means.owns p).0 (is_some (m.owner p) r h)))
    (λ h. some_is (m.owner p) r ((means.owns p).1 (carries_owned E p h))) in
    tally_same (λ p. is (m.owner p) r) (carries E) 256 (λ p l. same p)
    ∙ tally_carries E 256 means.distinct (λ p o. (law.owners p r ((means.owns p).1 o)).0)
    ∙ ap needed (sym (symbols_plain means.body) ∙ ap symbols means.copy)

-- ---- the positions of a book, rule by rule

-- the sum of f over the numbers below n
abbrev pub sum : (ℕ → ℕ) → ℕ → ℕ
sum f zero = 0
sum f (suc n) = sum f n + f n

pub sum_same : (f g : ℕ → ℕ) (n : ℕ) → ((r : ℕ) → r < n → f r ≡ g r) → sum f n ≡ sum g n
sum_same f g zero h = refl
sum_same f g (suc n) h = ap₂ (λ (x y : ℕ). x + y) (sum_same f g n (λ r l. h r (omega arith))) (h n (omega arith))

sum_plus : (f g : ℕ → ℕ) (n : ℕ) → sum (λ r. f r + g r) n ≡ sum f n + sum g n
sum_plus f g zero = refl
sum_plus f g (suc n) = let rest = sum_plus f g n in omega arith

sum_none : (f : ℕ → ℕ) (n : ℕ) → ((r : ℕ) → r < n → f r ≡ 0) → sum f n ≡ 0
sum_none f zero h = refl
sum_none f (suc n) h = ap₂ (λ (x y : ℕ). x + y) (sum_none f n (λ r l. h r (omega arith))) (h n (omega arith))

-- one owner counts once
sum_owner : (o : Option ℕ) (n : ℕ) → ((r : ℕ) → o ≡ Some r → r < n) → sum (λ r. cond (is o r) 1 0) n ≡ cond (option_is_some o) 1 0
sum_owner None n h = sum_none _ n (λ r l. refl)
sum_owner (Some q) n h = once n (h q refl)
  where
    once : (n : ℕ) → q < n → sum (λ r. cond (eqb q r) 1 0) n ≡ 1
    once zero l = absurd (omega arith)
    once (suc n) l = elim (cases_eq q n) [
      | inl e ↦ ap₂ (λ (x : ℕ) (t : Bool). x + cond t 1 0) (sum_none _ n (λ r k. ap (λ (t : Bool). cond t 1 0) (ne_eqb q r (λ x. omega arith)))) (eq-eqb q n e)
      | inr d ↦ ap₂ (λ (x : ℕ) (t : Bool). x + cond t 1 0) (once n (omega arith)) (ne_eqb q n d)
    ]

-- the owned positions, counted by their owners, which are below k
owners_count : (owner : ℕ → Option ℕ) (k : ℕ) → ((p r : ℕ) → owner p ≡ Some r → r < k) → (n : ℕ) →
    tally (λ p. option_is_some (owner p)) n ≡ sum (λ r. tally (λ p. is (owner p) r) n) k
unfolding tally
owners_count owner k h zero = sym (sum_none _ k (λ r l. refl))
owners_count owner k h (suc n) =
    ap₂ (λ (x y : ℕ). x + y) (owners_count owner k h n) (sym (sum_owner (owner n) k (h n)))
    ∙ sym (sum_plus (λ r. tally (λ p. is (owner p) r) n) (λ r. cond (is (owner n) r) 1 0) k)

-- the live positions are those of the rules
pub live_count : (m : Meaning) → Lawful m → live m ≡ sum (λ r. tally (λ p. is (m.owner p) r) 256) 64
live_count m law = owners_count m.owner 64 (λ p r o. in_force r (law.owners p r o).1) 256
  where
    in_force : (r : ℕ) → InForce m r → r < 64
    in_force r h = by (m.kind r) refl h
      where
        by : (o : Option ℕ) → m.kind r ≡ o → option_is_some o ≡ true → r < 64
        by None e k = absurd (both_ways false refl k)
        by (Some x) e k = (law.rules r x e).0
