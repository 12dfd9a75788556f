-- A command obeyed on the stack, as the code has it: ps are the parts before, qs those after. Assumes nothing.
use Rattle.std.proofs.Common.{◌≡◌, ℕ, suc, List, [], ◌∷◌, ◌++◌, length, reverse, Option, Some, sym, refl, ap, ◌∙◌, subst, arith}
use Rattle.std.proofs.lemmas.List.{length-map, reverse-append}
use Rattle.std.specs.Option.{option_to_list}
use Rattle.arrayvec.specs.ArrayVec.{ArrayVec}
use Rattle.expressions.specs.declared.code_range.CodeRange.{CodeRange}
use Rattle.expressions.specs.declared.command.Command.{Command}
use Rattle.expressions.specs.declared.command.Command.TheVariants.{Empty, Symbol, Join, Either, Star, Plus, Optional}
use Rattle.expressions.specs.Expression.{empty, symbol, join, either, star, plus, optional, Labelled, Plain, plain}
use Rattle.expressions.specs.Commands.{applied}
use Rattle.expression_book.specs.declared.part.Part.{Part}
use Rattle.expression_book.specs.declared.table.Table.{Table}
use Rattle.expression_book.specs.Parts.{Shows, stacked}
use Rattle.expression_book.specs.Building.{Gives, Links, AllShow, Building}
use Rattle.expression_book.proofs.Built.{build_empty, build_symbol, build_join, build_either, build_star, build_plus, build_optional}

-- a part put behind the others is the first of the parts that wait
pub stacked_more : (v w : ArrayVec Part) (k : Part) → w.items ≡ v.items ++ k ∷ [] → stacked w ≡ k ∷ stacked v
stacked_more v w k e = ap reverse e ∙ reverse-append v.items (k ∷ [])

-- and one taken from behind them was
pub stacked_less : (v w : ArrayVec Part) (o : Option Part) (k : Part) → v.items ≡ w.items ++ option_to_list o → o ≡ Some k → stacked v ≡ k ∷ stacked w
stacked_less v w o k e is = stacked_more w v k (e ∙ ap (λ (x : Option Part). w.items ++ option_to_list x) is)

all_shown : (ks : List Part) (es : List Labelled) → AllShow ks es → length ks ≡ length es
all_shown [] [] s = refl
all_shown [] (e ∷ es) s = absurd s
all_shown (k ∷ ks) [] s = absurd s
all_shown (k ∷ ks) (e ∷ es) s = ap suc (all_shown ks es s.1)

-- as many parts wait as expressions
pub as_many : (a : Table) (r : ℕ) (W : List Plain) (ks : List Part) (t : Table) → Building a r W ks t → length W ≡ length ks
as_many a r W ks t b = ap length (sym b.named) ∙ length-map b.waiting plain ∙ sym (all_shown ks b.waiting b.shown)

module _ (a : Table) (r : ℕ) (t t' : Table) (ps qs ks : List Part) (k : Part) (c : Command) (after : qs ≡ k ∷ ks) where
  -- what the command leaves, with the parts as they are now
  obeyed : (W : List Plain) (d : Command) (u : Table) → c ≡ d → Building a r (applied d W) (k ∷ ks) u → Building a r (applied c W) qs u
  obeyed W d u is b =
      subst (λ (x : Command). Building a r (applied x W) qs u) (sym is) (subst (λ (xs : List Part). Building a r (applied d W) xs u) (sym after) b)

  pub obey_empty : c ≡ Empty → ps ≡ ks → Shows k empty → (W : List Plain) → Building a r W ps t → Building a r (applied c W) qs t
  obey_empty is before s W b =
      obeyed W Empty t is (build_empty a r W ks k t t s (subst (λ (xs : List Part). Building a r W xs t) before b))

  pub obey_symbol : (codes : CodeRange) (at : ℕ) → c ≡ Symbol codes → ps ≡ ks → Gives r codes at t t' → ((lo hi : ℕ) → Shows k (symbol at lo hi))
      → (W : List Plain) → Building a r W ps t → Building a r (applied c W) qs t'
  obey_symbol codes at is before gives s W b =
      obeyed W (Symbol codes) t' is (build_symbol a r W ks k t t' codes at gives s (subst (λ (xs : List Part). Building a r W xs t) before b))

  module _ (ka kb : Part) (before : ps ≡ kb ∷ ka ∷ ks) where
    -- two expressions wait at least
    on_two : (G : List Plain → Type 0) → ((x y : Plain) (V : List Plain) → Building a r (y ∷ x ∷ V) (kb ∷ ka ∷ ks) t → G (y ∷ x ∷ V))
        → (W : List Plain) → Building a r W ps t → G W
    on_two G f W b = go W (subst (λ (xs : List Part). Building a r W xs t) before b)
      where
        go : (W : List Plain) → Building a r W (kb ∷ ka ∷ ks) t → G W
        go [] b = absurd (omega (arith, as_many a r [] (kb ∷ ka ∷ ks) t b))
        go (y ∷ []) b = absurd (omega (arith, as_many a r (y ∷ []) (kb ∷ ka ∷ ks) t b))
        go (y ∷ x ∷ V) b = f x y V b

    pub obey_join : c ≡ Join → Links ka.last kb.first t t' → ((x y : Labelled) → Shows ka x → Shows kb y → Shows k (join x y))
        → (W : List Plain) → Building a r W ps t → Building a r (applied c W) qs t'
    obey_join is links s =
        on_two (λ W. Building a r (applied c W) qs t') (λ x y V b. obeyed (y ∷ x ∷ V) Join t' is (build_join a r V ks k t t' ka kb links s x y b))

    pub obey_either : c ≡ Either → ((x y : Labelled) → Shows ka x → Shows kb y → Shows k (either x y))
        → (W : List Plain) → Building a r W ps t → Building a r (applied c W) qs t
    obey_either is s =
        on_two (λ W. Building a r (applied c W) qs t) (λ x y V b. obeyed (y ∷ x ∷ V) Either t is (build_either a r V ks k t ka kb s x y b))

  module _ (ka : Part) (before : ps ≡ ka ∷ ks) where
    -- one expression waits at least
    on_one : (G : List Plain → Type 0) → ((x : Plain) (V : List Plain) → Building a r (x ∷ V) (ka ∷ ks) t → G (x ∷ V))
        → (W : List Plain) → Building a r W ps t → G W
    on_one G f W b = go W (subst (λ (xs : List Part). Building a r W xs t) before b)
      where
        go : (W : List Plain) → Building a r W (ka ∷ ks) t → G W
        go [] b = absurd (omega (arith, as_many a r [] (ka ∷ ks) t b))
        go (x ∷ V) b = f x V b

    pub obey_star : c ≡ Star → Links ka.last ka.first t t' → ((x : Labelled) → Shows ka x → Shows k (star x))
        → (W : List Plain) → Building a r W ps t → Building a r (applied c W) qs t'
    obey_star is links s = on_one (λ W. Building a r (applied c W) qs t') (λ x V b. obeyed (x ∷ V) Star t' is (build_star a r V ks k t t' ka links s x b))

    pub obey_plus : c ≡ Plus → Links ka.last ka.first t t' → ((x : Labelled) → Shows ka x → Shows k (plus x))
        → (W : List Plain) → Building a r W ps t → Building a r (applied c W) qs t'
    obey_plus is links s = on_one (λ W. Building a r (applied c W) qs t') (λ x V b. obeyed (x ∷ V) Plus t' is (build_plus a r V ks k t t' ka links s x b))

    pub obey_optional : c ≡ Optional → ((x : Labelled) → Shows ka x → Shows k (optional x))
        → (W : List Plain) → Building a r W ps t → Building a r (applied c W) qs t
    obey_optional is s = on_one (λ W. Building a r (applied c W) qs t) (λ x V b. obeyed (x ∷ V) Optional t is (build_optional a r V ks k t ka s x b))

-- a plus is shown as its part is
pub shows_plus : (k : Part) (x : Labelled) → Shows k x → Shows k (plus x)
shows_plus k x s = record { nullable = s.nullable; first = s.first; last = s.last }
