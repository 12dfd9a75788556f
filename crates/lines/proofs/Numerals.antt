-- Decimal digits, taken one after the other by `try_fold`.
use Rattle.std.proofs.Common.{◌≡◌, ℕ, zero, suc, ◌+◌, ◌-◌, ◌*◌, ◌^◌, ◌<◌, min, List, [], ◌∷◌, length, map, get_or, Some, None, Option, MatchOption, Bor, sym, refl, ap, ◌∙◌, subst, arith}
use denote.Param.Members.{Mut}
use Rattle.std.specs.Char.{digit_value}
use Rattle.std.specs.ControlFlow.{continue_value}
use Rattle.std.specs.declared.ops.ControlFlow.{ControlFlow}
use Rattle.std.specs.Fn.{Called}
use Rattle.std.specs.Iterator.{TryFoldTurn, TryFoldsItems, YieldsThen}
use Rattle.std.specs.List.{FoldsTo}
use Rattle.std.specs.Str.Parse.{AllDigits, digits_value, digits_value_after}
use Rattle.std.proofs.lemmas.Iterator.{YieldsList}
use Rattle.std.proofs.lemmas.Iterator.Consumers.{YieldsList-end, YieldsList-turn}

-- the last number of 64 bits, at which a number that is too large stays
abbrev pub top : ℕ
top = 2 ^ 64 - 1

-- what taking one digit more answers
abbrev pub TakesDigit : ℕ → ℕ → Option ℕ → Type 0
TakesDigit n c r = MatchOption r (digit_value c < 10 → ⊥) (λ m. (digit_value c < 10) × (m ≡ min (min (n * 10) top + digit_value c) top))

-- what taking all digits answers
abbrev pub TakesDigits : List ℕ → Option ℕ → Type 0
TakesDigits ds r = MatchOption r (AllDigits 10 ds → ⊥) (λ n. AllDigits 10 ds × (n ≡ min (digits_value 10 ds) top))

-- each of the digits is one
digit_in : (ds : List ℕ) (i : ℕ) (d : ℕ) → AllDigits 10 ds → i < length ds → digit_value (get_or ds i d) < 10
digit_in [] i d h l = absurd (omega arith)
digit_in (c ∷ cs) zero d h l = h.0
digit_in (c ∷ cs) (suc i) d h l = digit_in cs i d h.1 (omega arith)

module _ {F : Type 0} (E : Type 0) (g : Mut F (ℕ × (Bor ℕ × Unit {0})) (Option ℕ)) (call : (f : F) (n : ℕ) (x : Bor ℕ) (r : Option ℕ) (h : F) → Called g f (n, (x, tt)) r h → TakesDigit n x.now r) where
  -- the turns that went on
  turns : (xs : List (Bor ℕ)) (p q : F × ℕ) (n : ℕ) → p.1 ≡ min n top → FoldsTo {P = F × ℕ} (TryFoldTurn g (λ r (b : ControlFlow E ℕ). r ≡ continue_value b)) p xs q
      → AllDigits 10 (map (λ x. x.now) xs) × (q.1 ≡ min (digits_value_after 10 n (map (λ x. x.now) xs)) top)
  turns [] p q n e k = (tt, ap (λ (w : F × ℕ). w.1) (sym k) ∙ e)
  turns (x ∷ xs) p q n e k =
      let d = subst (TakesDigit p.1 x.now) k.1.2 (call p.0 p.1 x k.1.0 k.0.0 k.1.1) in
      let rest = turns xs k.0 q (n * 10 + digit_value x.now) (omega arith) k.2 in
      ((d.0, rest.0), rest.1)

  module _ {S : Type 0} {steps : S → Option (Bor ℕ) → S → Type 0} {s : S} {ds : List ℕ} (all : YieldsList steps (λ x. x.now) s ds) where
    -- a fold from 0, where each call takes one digit, takes them all
    pub takes_digits : (f : F) (r : Option ℕ) (u : S) → TryFoldsItems steps g (λ v (b : ControlFlow E ℕ). v ≡ continue_value b) (λ e v. v ≡ None) s f 0 r u → TakesDigits ds r
    takes_digits f r u d = ended d.0 d.1 d.2 d.3 d.4 (turns d.0 (f, 0) (d.2, d.3) 0 (omega arith) d.5) d.6
      where
        ended : (xs : List (Bor ℕ)) (o : Option (Bor ℕ)) (h : F) (a : ℕ) → YieldsThen steps s xs o u → AllDigits 10 (map (λ x. x.now) xs) × (a ≡ min (digits_value 10 (map (λ x. x.now) xs)) top)
            → MatchOption o (r ≡ Some a) (λ x. (v : Option ℕ) × (q : F) × (e : E) × Called g h (a, (x, tt)) v q × (v ≡ None) × (r ≡ None)) → TakesDigits ds r
        ended xs None h a y k m =
            let e = YieldsList-end all xs y.0 y.1 None u refl y.2 in
            subst (TakesDigits ds) (sym m) (subst (λ l. AllDigits 10 l × (a ≡ min (digits_value 10 l) top)) e.0 k)
        ended xs (Some x) h a y k m =
            let e = YieldsList-turn all xs y.0 y.1 (Some x) u x refl y.2 in
            let none : TakesDigit a x.now None = subst (TakesDigit a x.now) m.4 (call h a x m.0 m.1 m.3) in
            subst (TakesDigits ds) (sym m.5) (λ t. none (subst (λ c. digit_value c < 10) (sym e.1) (digit_in ds (length xs) x.now t e.0)))
