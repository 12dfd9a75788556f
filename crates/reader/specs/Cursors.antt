-- Where a cursor stands, and which part of its text was the last token.
use Rattle.std.specs.Prelude.{◌≡◌, ℕ, ◌+◌, List, map}
use Rattle.reader.specs.declared.cursor.Cursor.{Cursor}
use Rattle.reader.specs.declared.answer.Token.{Token}

-- the codes of a cursor's text
abbrev pub codes_of : {S : Type 0} → (S → ℕ) → Cursor S → List ℕ
codes_of code c = map code c.text.now

-- the cursor stands at d's place, and its last token runs from `from` to `to`
pub record Stands {S : Type 0} (text : List S) (place from to : ℕ) (c : Cursor S) : Type 0 where
  pub text_is : c.text.now ≡ text
  pub place_is : c.place ≡ place
  pub from_is : c.from ≡ from
  pub to_is : c.to ≡ to

-- nothing moved
abbrev pub Unmoved : {S : Type 0} → Cursor S → Cursor S → Type 0
Unmoved c d = Stands c.text.now c.place c.from c.to d

-- d stands behind the token, which is its last
abbrev pub Moved : {S : Type 0} → Cursor S → Token → Cursor S → Type 0
Moved c t d = Stands c.text.now (c.place + t.length) c.place (c.place + t.length) d
