-- The texts that are numbers are those that the number book's expression denotes.
use Rattle.std.proofs.Common.{◌≡◌, ℕ, ◌≤◌, true, ◌↔◌, List, [], ◌∷◌, ◌++◌, sym, refl, ap, ◌∙◌, subst, inl, inr, arith, lit≤}
use Rattle.std.specs.List.{AllByRecursion}
use Rattle.states.specs.Sets.{has_rule}
use Rattle.books.specs.Texts.{meets}
use Rattle.expressions.specs.Expression.{Denotes, OneOf, Repetition}
use Rattle.expressions.specs.Expression.Expr.{plus}
use Rattle.expressions.specs.Expression.Repetition.{none, again}
use Rattle.numbers.specs.Number.{Digits, Fraction, Number, UnitMm, digit_expression, fraction_expression, number_expression, unit_expression, number_meaning}
use Rattle.numbers.proofs.Texts.{reads_numbers}

abbrev AllDigits : List ℕ → Type 0
AllDigits = AllByRecursion (λ c. (48 ≤ c) × (c ≤ 57))

repeated_digits : (w : List ℕ) → Repetition (OneOf 48 57) w → AllDigits w
repeated_digits w (none e) = subst AllDigits (sym e) tt
repeated_digits w (again u v e (c, l, h, is) more) = subst AllDigits (sym (e ∙ ap (λ x. x ++ v) is)) ((l, h), repeated_digits v more)

digits_repeated : (w : List ℕ) → AllDigits w → Repetition (OneOf 48 57) w
digits_repeated [] h = none refl
digits_repeated (c ∷ w) h = again (c ∷ []) w refl (c, h.0.0, h.0.1, refl) (digits_repeated w h.1)

not_empty : (c : ℕ) (t : List ℕ) → c ∷ t ≡ [] → ⊥
not_empty c t e = let z : ◌≡◌ {A = ℕ} 0 1 = cc in omega arith

digits_denoted : (w : List ℕ) → Denotes (plus digit_expression) w ↔ Digits w
digits_denoted w = (to, from w)
  where
    to : Denotes (plus digit_expression) w → Digits w
    to (u, v, e, (c, l, h, is), more) = subst Digits (sym (e ∙ ap (λ x. x ++ v) is)) (not_empty c v, ((l, h), repeated_digits v more))

    from : (t : List ℕ) → Digits t → Denotes (plus digit_expression) t
    from [] h = absurd (h.0 refl)
    from (c ∷ t) h = (c ∷ [], t, refl, (c, h.1.0.0, h.1.0.1, refl), digits_repeated t h.1.1)

one_code : (n c : ℕ) → n ≤ c → c ≤ n → c ≡ n
one_code n c l h = omega arith

fraction_denoted : (b : List ℕ) → Denotes fraction_expression b ↔ Fraction b
fraction_denoted b = (to, from)
  where
    to : Denotes fraction_expression b → Fraction b
    to (inl e) = inl e
    to (inr (u, v, e, (c, l, h, is), d)) = inr (v, e ∙ ap (λ x. x ++ v) (is ∙ ap (λ n. n ∷ []) (one_code 46 c l h)), (digits_denoted v).0 d)

    from : Fraction b → Denotes fraction_expression b
    from (inl e) = inl e
    from (inr (d, e, h)) = inr (46 ∷ [], d, e, (46, lit≤ tt, lit≤ tt, refl), (digits_denoted d).1 h)

unit_denoted : (u : List ℕ) → Denotes unit_expression u ↔ UnitMm u
unit_denoted u = (to, from)
  where
    to : Denotes unit_expression u → UnitMm u
    to (inl e) = inl e
    to (inr (x, y, e, (c, l, h, is), (d, m, k, as_is))) =
        inr (e ∙ ap (λ z. z ++ y) (is ∙ ap (λ n. n ∷ []) (one_code 109 c l h)) ∙ ap (λ z. 109 ∷ z) (as_is ∙ ap (λ n. n ∷ []) (one_code 109 d m k)))

    from : UnitMm u → Denotes unit_expression u
    from (inl e) = inl e
    from (inr e) = inr (109 ∷ [], 109 ∷ [], e, (109, lit≤ tt, lit≤ tt, refl), (109, lit≤ tt, lit≤ tt, refl))

number_denoted : (t : List ℕ) → Number t ↔ Denotes number_expression t
number_denoted t = (
  λ (a, b, u, e, d, f, m). (a, b ++ u, e, (digits_denoted a).1 d, (b, u, refl, (fraction_denoted b).1 f, (unit_denoted u).1 m)),
  λ (a, v, e, d, (b, u, k, f, m)). (a, b, u, e ∙ ap (λ x. a ++ x) k, (digits_denoted a).0 d, (fraction_denoted b).0 f, (unit_denoted u).0 m),
)

-- a text meets the rule exactly when the expression denotes it
pub meets_expression : (t : List ℕ) → has_rule (meets number_meaning t) 0 ≡ true ↔ Denotes number_expression t
meets_expression t =
    let m = reads_numbers t in
    let n = number_denoted t in
    (λ h. n.0 (m.0 h), λ h. m.1 (n.1 h))
