-- The text of answers.
use Rattle.std.specs.Prelude.{◌≡◌, ℕ, ◌+◌, ◌/◌, ◌%◌, Bool, true, false, cond, not, ◌&&◌, List, [], ◌∷◌, ◌++◌, length, Some, None, OnOk, String, string_bytes, codes, decimal, Option, Result, ◌==◌, nat_le, nat_lt}
use Rattle.std.specs.declared.alloc.Global.{Global}
use Rattle.hex.specs.Hex.{encode_lower}
use Rattle.symbols.specs.Texts.{event_words}
use Rattle.states.specs.Sets.{Rules, members}
use Rattle.books.specs.Refusals.{told_text}
use Rattle.books.specs.declared.refusal.Told.{Told}
use Rattle.lines.specs.Lines.{book_word, expected_text}
use Rattle.lines.specs.declared.command.BookName.{BookName}
use Rattle.lines.specs.declared.command.Expected.{Expected}

-- Unless there was no memory, `answer` is written behind what was there.
abbrev pub Writes : {E : Type 0} → Result (Unit {0}) E → String Global → String Global → List ℕ → Type 0
Writes result before after answer = OnOk result (string_bytes after ≡ string_bytes before ++ answer)

-- a line of a name and a number
abbrev pub numbered : List ℕ → ℕ → List ℕ
numbered name n = name ++ (decimal n ++ (10 ∷ []))

abbrev pub new_line : BookName → ℕ → List ℕ
new_line book edition = codes "new book=" ++ (book_word book ++ numbered (codes " edition=") edition)

-- an accepted change, by the word of its command
abbrev pub change_line : List ℕ → ℕ → ℕ → List ℕ
change_line word rule edition = word ++ (codes " rule=" ++ (decimal rule ++ numbered (codes " edition=") edition))

-- a kind, or a dash where there is none
abbrev pub kind_text : Option ℕ → List ℕ
kind_text (Some kind) = decimal kind
kind_text None = codes "-"

abbrev pub kind_line : ℕ → Option ℕ → List ℕ
kind_line rule kind = codes "kind rule=" ++ (decimal rule ++ (codes " kind=" ++ (kind_text kind ++ (10 ∷ []))))

-- each element's text behind what stands between two
abbrev pub trailed : List ℕ → (ℕ → List ℕ) → List ℕ → List ℕ
trailed between text [] = []
trailed between text (n ∷ ns) = between ++ (text n ++ trailed between text ns)

-- the elements' texts with `between` between two
abbrev pub parted : List ℕ → (ℕ → List ℕ) → List ℕ → List ℕ
parted between text [] = []
parted between text (n ∷ ns) = text n ++ trailed between text ns

-- the elements' texts with commas between them, or a dash where there is none
abbrev pub listed : (ℕ → List ℕ) → List ℕ → List ℕ
listed text [] = codes "-"
listed text (n ∷ ns) = parted (codes ",") text (n ∷ ns)

-- rules and their kinds, where `kind` tells the kind of a rule
unfoldable pub met : (ℕ → Option ℕ) → Rules → List ℕ
met kind rules = codes "rules=" ++ (listed decimal (members rules) ++ (codes " kinds=" ++ listed (λ n. kind_text (kind n)) (members rules)))

abbrev pub read_line : (ℕ → Option ℕ) → Rules → ℕ → List ℕ
read_line kind rules count = codes "read " ++ (met kind rules ++ numbered (codes " count=") count)

abbrev pub finish_line : (ℕ → Option ℕ) → Rules → List ℕ
finish_line kind rules = codes "finish " ++ (met kind rules ++ (10 ∷ []))

-- a word, a place, a length, and what follows them
abbrev pub span : List ℕ → ℕ → ℕ → List ℕ → List ℕ
span word place length more = word ++ (codes " place=" ++ (decimal place ++ (codes " length=" ++ (decimal length ++ more))))

abbrev pub cursor_line : ℕ → ℕ → List ℕ
cursor_line place length = codes "cursor place=" ++ (decimal place ++ numbered (codes " length=") length)

-- a token, by the word of the command that read or peeked it
abbrev pub token_line : List ℕ → (ℕ → Option ℕ) → ℕ → ℕ → Rules → ℕ → List ℕ
token_line word kind place length rules count = span word place length (codes " " ++ (met kind rules ++ numbered (codes " count=") count))

-- a hex digit, from 0 to 15
abbrev pub hex_digit : ℕ → ℕ
hex_digit n = cond (nat_lt n 10) (48 + n) (87 + n)

-- printable, but neither a quotation mark nor a backslash
abbrev pub plain : ℕ → Bool
plain b = nat_le 32 b && (nat_le b 126 && (not (b == 34) && not (b == 92)))

-- a byte as it stands, or as \x and two hex digits
unfoldable pub shown_byte : ℕ → List ℕ
shown_byte b = cond (plain b) (b ∷ []) (92 ∷ 120 ∷ hex_digit (b / 16) ∷ hex_digit (b % 16) ∷ [])

-- bytes one after the other
abbrev pub shown_bytes : List ℕ → List ℕ
shown_bytes = parted [] shown_byte

-- an event by its code: its machine, a point and its kind
unfoldable pub event_text : ℕ → List ℕ
event_text c = event_words (c / 4096) (c % 4096)

-- events with a space between them
abbrev pub shown_events : List ℕ → List ℕ
shown_events = parted (codes " ") event_text

-- the last token: its place, its length and its codes, as they are shown
abbrev pub last_line : (List ℕ → List ℕ) → ℕ → ℕ → List ℕ → List ℕ
last_line shown place length text = span (codes "last") place length (codes " text=" ++ (34 ∷ (shown text ++ (34 ∷ 10 ∷ []))))

abbrev pub feed_line : Bool → List ℕ
feed_line true = codes "feed worked=yes" ++ (10 ∷ [])
feed_line false = codes "feed worked=no" ++ (10 ∷ [])

-- the commands of a pattern text, as pairs of hex digits
abbrev pub pattern_line : List ℕ → List ℕ
pattern_line commands = codes "pattern length=" ++ (decimal (length commands) ++ (codes " commands=" ++ (encode_lower commands ++ (10 ∷ []))))

abbrev pub refused_line : Told → List ℕ
refused_line told = codes "refused " ++ (told_text told ++ (10 ∷ []))

-- the report of a malformed line
abbrev pub malformed_line : ℕ → Expected → List ℕ
malformed_line n expected = codes "line " ++ (decimal n ++ (codes ": expected " ++ (expected_text expected ++ (10 ∷ []))))
