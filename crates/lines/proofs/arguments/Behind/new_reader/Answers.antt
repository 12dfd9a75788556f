use Rattle.std.proofs.Common.{◌≡◌, ℕ, List, ◌∷◌, ◌++◌, Some, Option, sym, refl, ap, ◌∙◌, inl, inr, subst, rules}
use Rattle.std.specs.Option.{option_map}
use Rattle.lines.specs.Numerals.{Number32}
use Rattle.lines.specs.Lines.{ExpectsNew, behind, book_word, joined}
use Rattle.lines.specs.Parts.{Parts}
use Rattle.lines.specs.declared.command.BookName.{BookName}
use Rattle.lines.proofs.Parting.{joined_parts, one_parting, parts_joined}
use Rattle.lines.proofs.Refusing.{err_by}
use Rattle.lines.proofs.Words.{book_no_space}
use Rattle.lines.proofs.arguments.Behind.new_reader.Goals as goal

-- a book's name and more are parted at the first space
named : (whole : Option (List ℕ)) (text first : List ℕ) (rest : Option (List ℕ)) → whole ≡ Some text → Parts 32 text first rest → (b : BookName) (d : List ℕ)
    → whole ≡ Some (book_word b ++ (32 ∷ d)) → (first ≡ book_word b) × (rest ≡ Some d)
named whole text first rest e parts b d h = one_parting 32 text first (book_word b) rest (Some d) parts (book_no_space b, cc)

-- a book's name, and perhaps more, has its name before the first space
headed : (whole : Option (List ℕ)) (text first : List ℕ) (rest : Option (List ℕ)) → whole ≡ Some text → Parts 32 text first rest → (b : BookName) (more : Option (List ℕ))
    → whole ≡ Some (joined (book_word b) more) → first ≡ book_word b
headed whole text first rest e parts b more h =
    let is : text ≡ joined (book_word b) more = cc in
    (one_parting 32 text first (book_word b) rest more parts (subst (λ t. Parts 32 t (book_word b) more) (sym is) (joined_parts (book_word b) more (book_no_space b)))).0

pub returns-in_err-book : goal.returns-in_err-book
returns-in_err-book c =
    let whole : behind c.args.self ≡ Some c.in_ok-text.text.now = search rules in
    err_by _ _ c.in_err-book.field-0.0 c.from_residual-in_err-book.result c.from_residual-in_err-book.ensures.1 (
      subst (ExpectsNew (behind c.args.self)) (sym c.in_err-book.ensures.0)
          (inl (refl, λ b more e. c.in_err-book.ensures.1 b (headed _ _ _ _ whole c.part.ensures b more e))),
      λ k h. c.in_err-book.ensures.1 h.0 (named _ _ _ _ whole c.part.ensures h.0 h.2 h.4).0,
    )

pub returns-in_err-edition : goal.returns-in_err-edition
returns-in_err-edition c =
    let whole : behind c.args.self ≡ Some c.in_ok-text.text.now = search rules in
    let rest = option_map (λ x. x.now) c.part.result.rest in
    let digits : rest ≡ Some c.in_ok-digits.digits.now = search rules in
    err_by _ _ c.in_err-edition.field-0.0 c.from_residual-in_err-edition.result c.from_residual-in_err-edition.ensures.1 (
      subst (ExpectsNew (behind c.args.self)) (sym c.in_err-edition.ensures.0)
          (inr (refl, c.in_ok-book.book, rest, whole ∙ ap Some (parts_joined _ _ _ c.part.ensures ∙ ap (λ f. joined f rest) c.in_ok-book.ensures))),
      λ k h. let s = named _ _ _ _ whole c.part.ensures h.0 h.2 h.4 in
          let same : h.2 ≡ c.in_ok-digits.digits.now = cc (s.1, digits) in
          c.in_err-edition.ensures.1 h.1 (subst (λ d. Number32 d h.1) same h.5),
    )
