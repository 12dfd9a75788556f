-- Which lines spell which command.
use Rattle.std.specs.Prelude.{◌≡◌, ◌≢◌, ℕ, ◌⊎◌, List, [], ◌∷◌, ◌++◌, Some, None, codes, Option, Result, MatchResult}
use Rattle.std.specs.Option.{option_copied}
use Rattle.std.specs.Borrow.{Bor}
use Rattle.lines.specs.Numerals.{Number, Number32}
use Rattle.lines.specs.Hex.{Hex}
use Rattle.lines.specs.declared.arguments.Behind.{Behind}
use Rattle.lines.specs.declared.command.BookName.{BookName}
use Rattle.lines.specs.declared.command.BookName.TheVariants.{Numbers, Templates, Expressions, Events}
use Rattle.lines.specs.declared.command.Expected.{Expected}
use Rattle.lines.specs.declared.command.Expected.TheVariants as expected
use Rattle.lines.specs.declared.command.Order.TheVariants as order
use Rattle.lines.specs.declared.command.Task.TheVariants as task
use Rattle.lines.specs.declared.command.Command.{Command}
use Rattle.lines.specs.declared.command.Command.TheVariants as command
use Rattle.lines.specs.declared.word.Word.{Word}
use Rattle.lines.specs.declared.word.Word.TheVariants as word

-- an empty line or a comment
abbrev pub Skipped : List ℕ → Type 0
Skipped [] = Unit {0}
Skipped (first ∷ rest) = first ≡ 35

abbrev pub book_word : BookName → List ℕ
book_word Numbers = codes "numbers"
book_word Templates = codes "templates"
book_word Expressions = codes "expressions"
book_word Events = codes "events"

-- how the first word of a command is spelled
abbrev pub spelling : Word → List ℕ
spelling word.New = codes "new"
spelling word.Add = codes "add"
spelling word.Code = codes "code"
spelling word.Delete = codes "delete"
spelling word.Pattern = codes "pattern"
spelling word.PatternHex = codes "patternx"
spelling word.Read = codes "read"
spelling word.ReadHex = codes "readx"
spelling word.Cursor = codes "cursor"
spelling word.CursorHex = codes "cursorx"
spelling word.Feed = codes "feed"
spelling word.FeedHex = codes "feedx"
spelling word.Token = codes "token"
spelling word.Peek = codes "peek"
spelling word.Last = codes "last"
spelling word.Walk = codes "walk"
spelling word.Finish = codes "finish"
spelling word.Kind = codes "kind"
spelling word.Tally = codes "tally"
spelling word.Edition = codes "edition"
spelling word.Note = codes "note"

-- what reading the name of a book answers
abbrev pub IsBook : List ℕ → Result BookName Expected → Type 0
IsBook name r = MatchResult r (λ b. name ≡ book_word b) (λ x. (x ≡ expected.Book) × ((b : BookName) → name ≢ book_word b))

-- what reading the first word of a command answers
abbrev pub IsWord : List ℕ → Result Word Expected → Type 0
IsWord first r = MatchResult r (λ w. first ≡ spelling w) (λ x. (x ≡ expected.Command) × ((w : Word) → first ≢ spelling w))

-- what stands behind a word, if there is a space behind it
abbrev pub behind : Behind → Option (List ℕ)
behind b = option_copied b.0

-- a first word, and what stands behind it and a space, if there is a space
abbrev pub joined : List ℕ → Option (List ℕ) → List ℕ
joined first None = first
joined first (Some rest) = first ++ (32 ∷ rest)

-- ── What stands behind a word, if anything, makes it a command ──

-- nothing stands there
abbrev pub Alone : {C : Type 0} → C → Option (List ℕ) → C → Type 0
Alone k rest c = (c ≡ k) × (rest ≡ None)

-- a text, as it stands
abbrev pub AsText : (Bor (List ℕ) → Command) → Option (List ℕ) → Command → Type 0
AsText k rest c = (t : Bor (List ℕ)) × (c ≡ k t) × (rest ≡ Some t.now)

-- pairs of hex digits
abbrev pub AsHex : (Bor (List ℕ) → Command) → Option (List ℕ) → Command → Type 0
AsHex k rest c = (d : Bor (List ℕ)) × (c ≡ k d) × (rest ≡ Some d.now) × Hex d.now

-- a number
abbrev pub AsNumber : (ℕ → Command) → Option (List ℕ) → Command → Type 0
AsNumber k rest c = (n : ℕ) × (d : List ℕ) × (c ≡ k n) × (rest ≡ Some d) × Number d n

-- a book's name and an edition
abbrev pub AsNew : Option (List ℕ) → Command → Type 0
AsNew rest c =
    (book : BookName) × (n : ℕ) × (d : List ℕ) × (c ≡ command.New book n) × (rest ≡ Some (book_word book ++ (32 ∷ d))) × Number32 d n

-- the number n comes first, and then what `more` holds
abbrev pub Leads : Option (List ℕ) → ℕ → Option (List ℕ) → Type 0
Leads rest n more = (d : List ℕ) × (rest ≡ Some (joined d more)) × Number d n

-- a number comes first, and what follows makes the command
abbrev pub Led : (ℕ → Option (List ℕ) → Command → Type 0) → Option (List ℕ) → Command → Type 0
Led makes rest c = (n : ℕ) × (more : Option (List ℕ)) × Leads rest n more × makes n more c

abbrev pub Makes : Word → Option (List ℕ) → Command → Type 0
Makes word.New = AsNew
Makes word.Add = Led (λ rule. Led (λ kind. AsText (command.Add rule kind)))
Makes word.Code = Led (λ rule. Led (λ kind. AsHex (command.Code rule kind)))
Makes word.Delete = AsNumber command.Delete
Makes word.Pattern = AsText command.Pattern
Makes word.PatternHex = AsHex command.PatternHex
Makes word.Read = AsText (command.Plain task.Read)
Makes word.ReadHex = AsHex (command.Hex task.Read)
Makes word.Cursor = Led (λ place. AsText (command.Plain (task.Cursor place)))
Makes word.CursorHex = Led (λ place. AsHex (command.Hex (task.Cursor place)))
Makes word.Feed = AsText (command.Plain task.Feed)
Makes word.FeedHex = AsHex (command.Hex task.Feed)
Makes word.Token = Alone (command.Order order.Token)
Makes word.Peek = Alone (command.Order order.Peek)
Makes word.Last = Alone command.Last
Makes word.Walk = Alone (command.Order order.Walk)
Makes word.Finish = Alone (command.Order order.Finish)
Makes word.Kind = AsNumber (λ rule. command.Order (order.Kind rule))
Makes word.Tally = Alone (command.Order order.Tally)
Makes word.Edition = Alone (command.Order order.Edition)
Makes word.Note = Alone (command.Order order.Note)

-- the line spells the command
abbrev pub Spells : List ℕ → Command → Type 0
Spells line c = (w : Word) × (rest : Option (List ℕ)) × (line ≡ joined (spelling w) rest) × Makes w rest c

-- the digits of a command, if it has any, are pairs of hex digits
abbrev pub Decodable : Command → Type 0
Decodable (command.New book edition) = Unit {0}
Decodable (command.Add rule kind text) = Unit {0}
Decodable (command.Code rule kind digits) = Hex digits.now
Decodable (command.Delete rule) = Unit {0}
Decodable (command.Pattern text) = Unit {0}
Decodable (command.PatternHex digits) = Hex digits.now
Decodable (command.Plain t text) = Unit {0}
Decodable (command.Hex t digits) = Hex digits.now
Decodable command.Last = Unit {0}
Decodable (command.Order o) = Unit {0}

-- ── What is expected of a line that spells no command: the first part that is not there, or not as it should be ──

-- the name of a book, or an edition behind it
abbrev pub ExpectsNew : Option (List ℕ) → Expected → Type 0
ExpectsNew rest x =
    ((x ≡ expected.Book) × ((book : BookName) (more : Option (List ℕ)) → rest ≢ Some (joined (book_word book) more)))
    ⊎ ((x ≡ expected.Edition) × (book : BookName) × (more : Option (List ℕ)) × (rest ≡ Some (joined (book_word book) more)))

-- a number that comes first, or what is expected behind it
abbrev pub ExpectsLed : (Option (List ℕ) → Expected → Type 0) → Option (List ℕ) → Expected → Type 0
ExpectsLed expects rest x =
    ((x ≡ expected.Number) × ((n : ℕ) (more : Option (List ℕ)) → Leads rest n more → ⊥))
    ⊎ ((n : ℕ) × (more : Option (List ℕ)) × Leads rest n more × expects more x)

-- this one part, which is all that can be missing
abbrev pub ExpectsOne : Expected → Option (List ℕ) → Expected → Type 0
ExpectsOne y rest x = x ≡ y

-- behind a word, where what stands there makes no command
abbrev pub Expects : Word → Option (List ℕ) → Expected → Type 0
Expects word.New = ExpectsNew
Expects word.Add = ExpectsLed (ExpectsLed (ExpectsOne expected.Text))
Expects word.Code = ExpectsLed (ExpectsLed (ExpectsOne expected.HexDigits))
Expects word.Delete = ExpectsOne expected.Number
Expects word.Pattern = ExpectsOne expected.Text
Expects word.PatternHex = ExpectsOne expected.HexDigits
Expects word.Read = ExpectsOne expected.Text
Expects word.ReadHex = ExpectsOne expected.HexDigits
Expects word.Cursor = ExpectsLed (ExpectsOne expected.Text)
Expects word.CursorHex = ExpectsLed (ExpectsOne expected.HexDigits)
Expects word.Feed = ExpectsOne expected.Text
Expects word.FeedHex = ExpectsOne expected.HexDigits
Expects word.Token = ExpectsOne expected.NoArgument
Expects word.Peek = ExpectsOne expected.NoArgument
Expects word.Last = ExpectsOne expected.NoArgument
Expects word.Walk = ExpectsOne expected.NoArgument
Expects word.Finish = ExpectsOne expected.NoArgument
Expects word.Kind = ExpectsOne expected.Number
Expects word.Tally = ExpectsOne expected.NoArgument
Expects word.Edition = ExpectsOne expected.NoArgument
Expects word.Note = ExpectsOne expected.NoArgument

-- the first word of a command, or what is expected behind it
abbrev pub Misspells : List ℕ → Expected → Type 0
Misspells line x =
    ((x ≡ expected.Command) × ((w : Word) (rest : Option (List ℕ)) → line ≢ joined (spelling w) rest))
    ⊎ ((w : Word) × (rest : Option (List ℕ)) × (line ≡ joined (spelling w) rest) × Expects w rest x)

-- a command that passes `makes` is answered, or what is expected, where there is none
abbrev pub Parses : {C : Type 0} → (C → Type 0) → (Expected → Type 0) → Result C Expected → Type 0
Parses {C} makes expects r = MatchResult r makes (λ x. expects x × ((c : C) → makes c → ⊥))

-- parsing answers a command that the line spells, or what is expected of it, where it spells none
abbrev pub Answers : List ℕ → Result Command Expected → Type 0
Answers line r = Parses (Spells line) (Misspells line) r

-- what was expected of a malformed line, in words
abbrev pub expected_text : Expected → List ℕ
expected_text expected.Command = codes "a command"
expected_text expected.Book = codes "the name of a book"
expected_text expected.Edition = codes "an edition from 0 to 4294967295"
expected_text expected.Number = codes "a decimal number"
expected_text expected.Text = codes "a text"
expected_text expected.HexDigits = codes "pairs of hex digits"
expected_text expected.NoArgument = codes "no argument"
expected_text expected.Changing = codes "a book whose rules can be changed"
expected_text expected.Code = codes "the command code, with the bytes of the rule"
expected_text expected.Events = codes "words of a machine, a point and a kind"
expected_text expected.Cursor = codes "a cursor"
expected_text expected.Walk = codes "a walk"
