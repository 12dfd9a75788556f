-- Part of a text is written, and the rest is to come.
use Rattle.std.proofs.Common.{◌≡◌, ℕ, ◌+◌, ◌<◌, List, [], ◌∷◌, ◌++◌, map, length, get_or, drop, sym, ap, ◌∙◌, append_assoc, append-nil}
use Rattle.std.proofs.lemmas.List.{drop_more}
use Rattle.answers.specs.Texts.{trailed}
use Rattle.std.specs.Fmt.{HasWritten}
use Rattle.std.specs.declared.fmt.Formatter.{Formatter}

-- g is f after writing a part of `whole`, behind which `rest` is to come
pub record WritesPart {W : Type 0} (took : W → List ℕ → W → Type 0) (f g : Formatter W) (rest whole : List ℕ) : Type 0 where
  pub done : List ℕ
  pub wrote : HasWritten took f done g
  pub is : done ++ rest ≡ whole

-- the texts of elements and of one more behind them
pub one_behind : (between : List ℕ) (one : ℕ → List ℕ) (done : List ℕ) (xs : List ℕ) (x : ℕ)
    → (done ++ trailed between one xs) ++ (between ++ one x) ≡ done ++ trailed between one (xs ++ (x ∷ []))
one_behind between one done [] x =
    append_assoc done [] (between ++ one x) ∙ ap (λ t. done ++ (between ++ t)) (sym (append-nil (one x)))
one_behind between one done (y ∷ ys) x =
    append_assoc done (between ++ (one y ++ trailed between one ys)) (between ++ one x)
    ∙ ap (λ t. done ++ t) (append_assoc between (one y ++ trailed between one ys) (between ++ one x) ∙ ap (λ t. between ++ t) (one_behind between one (one y) ys x))

module _ (between : List ℕ) (one : ℕ → List ℕ) {X : Type 0} (code : X → ℕ) where
  -- one element more is written
  pub trailed_more : (done : List ℕ) (xs : List X) (i : ℕ) (x : X) → i < length xs → x ≡ get_or xs i x
      → (done ++ (between ++ one (code x))) ++ trailed between one (map code (drop (i + 1) xs)) ≡ done ++ trailed between one (map code (drop i xs))
  trailed_more done xs i x l is =
      let rest = trailed between one (map code (drop (i + 1) xs)) in
      append_assoc done (between ++ one (code x)) rest
      ∙ ap (λ t. done ++ t)
      (append_assoc between (one (code x)) rest
      ∙ ap (λ ys. trailed between one (map code ys)) (ap (λ y. y ∷ drop (i + 1) xs) is ∙ sym (drop_more xs i x l)))
