-- The words of commands and books are of small letters, and no two commands have the same word.
use Rattle.std.proofs.Common.{◌≡◌, ℕ, Bool, true, cond, ◌&&◌, List, [], ◌∷◌, Decides, sym, refl, ap, ◌∙◌, arith}
use Rattle.std.specs.Int.{is_in_range, IsInRange}
use Rattle.std.specs.List.{AllByRecursion}
use Rattle.std.specs.Str.{bytes_eq}
use Rattle.std.proofs.ByRecursion.{All-weaker, Decides-by_and}
use Rattle.std.proofs.lemmas.Bool.Decides.{nat_tests}
use Rattle.lines.specs.Parts.{Lacks}
use Rattle.lines.specs.Lines.{book_word, spelling}
use Rattle.lines.specs.declared.command.BookName.{BookName}
use Rattle.lines.specs.declared.command.BookName.TheVariants.{Numbers}
use Rattle.lines.specs.declared.word.Word.{Word}
use Rattle.lines.specs.declared.word.Word.TheVariants.{New, Add, Code, Delete, Pattern, PatternHex, Read, ReadHex, Cursor, CursorHex, Feed, FeedHex, Token, Peek, Last, Walk, Finish, Kind, Tally, Edition, Note}

abbrev letters : List ℕ → Bool
letters [] = true
letters (b ∷ bs) = is_in_range 97 122 b && letters bs

small : (l : List ℕ) → letters l ≡ true → AllByRecursion (IsInRange 97 122) l
small l = (Decides-by_and (is_in_range 97 122) (IsInRange 97 122) letters each refl (λ _ _. refl) l).0
  where
    each : (b : ℕ) → Decides (is_in_range 97 122 b) (IsInRange 97 122 b)
    each b = grind (arith, nat_tests)

letters_no_space : (l : List ℕ) → letters l ≡ true → Lacks 32 l
letters_no_space l h = All-weaker (IsInRange 97 122) (λ b. b ≡ 32 → ⊥) (λ b k e. omega arith) l (small l h)

-- the word among these that bytes spell; any other bytes give the last
abbrev among : List Word → List ℕ → Word
among [] l = Note
among (w ∷ ws) l = cond (bytes_eq l (spelling w)) w (among ws l)

abbrev named : List ℕ → Word
named =
    among (New ∷ Add ∷ Code ∷ Delete ∷ Pattern ∷ PatternHex ∷ Read ∷ ReadHex ∷ Cursor ∷ CursorHex ∷ Feed ∷ FeedHex ∷ Token ∷ Peek ∷ Last ∷ Walk ∷ Finish ∷ Kind ∷ Tally ∷ Edition ∷ [])

sound : (w : Word) → (named (spelling w) ≡ w) × (letters (spelling w) ≡ true)
sound New = (refl, refl)
sound w = (refl, refl)

pub one_word : (v w : Word) → spelling v ≡ spelling w → v ≡ w
one_word v w e = sym (sound v).0 ∙ ap named e ∙ (sound w).0

pub word_no_space : (w : Word) → Lacks 32 (spelling w)
word_no_space w = letters_no_space (spelling w) (sound w).1

book_letters : (b : BookName) → letters (book_word b) ≡ true
book_letters Numbers = refl
book_letters b = refl

pub book_no_space : (b : BookName) → Lacks 32 (book_word b)
book_no_space b = letters_no_space (book_word b) (book_letters b)
