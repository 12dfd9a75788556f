-- The first word of a line, and what makes it a command, for commands of any type: `makes` says which words and what behind them.
use Rattle.std.proofs.Common.{◌≡◌, ℕ, List, Option, sym, ◌∙◌, subst}
use Rattle.lines.specs.Lines.{joined, spelling}
use Rattle.lines.specs.Parts.{Parts}
use Rattle.lines.specs.declared.word.Word.{Word}
use Rattle.lines.proofs.Parting.{joined_parts, one_parting}
use Rattle.lines.proofs.Words.{one_word, word_no_space}

module _ {C : Type 0} (makes : Word → Option (List ℕ) → C → Type 0) (line : List ℕ) where
  -- the line is a word, and what stands behind it, which makes it the command
  abbrev pub Made : C → Type 0
  Made c = (w : Word) × (rest : Option (List ℕ)) × (line ≡ joined (spelling w) rest) × makes w rest c

  module _ (first : List ℕ) (rest : Option (List ℕ)) (parts : Parts 32 line first rest) where
    pub first_word : (c : C) → Made c → (w : Word) × (first ≡ spelling w) × makes w rest c
    first_word c h =
        let whole = subst (λ l. Parts 32 l (spelling h.0) h.1) (sym h.2) (joined_parts (spelling h.0) h.1 (word_no_space h.0)) in
        let s = one_parting 32 line first (spelling h.0) rest h.1 parts whole in
        (h.0, s.0, subst (λ r. makes h.0 r c) (sym s.1) h.3)

    -- where the first word makes no command, the line spells none
    pub none_made : (w : Word) → first ≡ spelling w → ((c : C) → makes w rest c → ⊥) → (c : C) → Made c → ⊥
    none_made w is none c h =
        let f = first_word c h in
        none c (subst (λ v. makes v rest c) (one_word f.0 w (sym f.1 ∙ is)) f.2)
