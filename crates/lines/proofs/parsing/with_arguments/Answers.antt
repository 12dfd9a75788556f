use Rattle.std.proofs.Common.{◌≡◌, ℕ, List, Option, Result, IsErrAnd, sym, refl, inl, inr, subst}
use Rattle.lines.specs.Lines.{Expects, Makes, Parses}
use Rattle.lines.specs.declared.command.Command.{Command}
use Rattle.lines.specs.declared.command.Expected.{Expected}
use Rattle.lines.specs.declared.word.Word.{Word}
use Rattle.lines.specs.declared.word.Word.TheVariants as word
use Rattle.lines.proofs.Leading.{led_answers, led_refused}
use Rattle.lines.proofs.Refusing.{err_by}
use Rattle.lines.proofs.parsing.with_arguments.Goals as goal

as_word : (v w : Word) (rest : Option (List ℕ)) (r : Result Command Expected) → v ≡ w → Parses (Makes w rest) (Expects w rest) r →
    Parses (Makes v rest) (Expects v rest) r
as_word v w rest r e h = subst (λ u. Parses (Makes u rest) (Expects u rest) r) (sym e) h

-- what the word alone refuses is refused, by what was expected
refused : (w v : Word) (rest : Option (List ℕ)) (r : Result Command Expected) (x y : Expected) → v ≡ w → IsErrAnd r (λ z. z ≡ x) → x ≡ y → Expects w rest y →
    ((c : Command) → Makes w rest c → ⊥) → Parses (Makes v rest) (Expects v rest) r
refused w v rest r x y e is named expected none = as_word v w rest r e (err_by _ _ x r is (subst (Expects w rest) (sym named) expected, none))

pub returns-in-Read : goal.returns-in-Read
returns-in-Read c = as_word _ word.Read _ c.as_text.result c.in-Read.is c.as_text.ensures

pub returns-in-ReadHex : goal.returns-in-ReadHex
returns-in-ReadHex c = as_word _ word.ReadHex _ c.as_hex.result c.in-ReadHex.is c.as_hex.ensures

pub returns-in-Feed : goal.returns-in-Feed
returns-in-Feed c = as_word _ word.Feed _ c.as_text-in-Feed.result c.in-Feed.is c.as_text-in-Feed.ensures

pub returns-in-FeedHex : goal.returns-in-FeedHex
returns-in-FeedHex c = as_word _ word.FeedHex _ c.as_hex-in-FeedHex.result c.in-FeedHex.is c.as_hex-in-FeedHex.ensures

pub returns-in_err-rule-in-Add : goal.returns-in_err-rule-in-Add
returns-in_err-rule-in-Add c =
    refused word.Add _ _ c.from_residual.result _ _ c.in-Add.is c.from_residual.ensures.1 c.in_err-rule-in-Add.ensures.0
    (inl (refl, c.in_err-rule-in-Add.ensures.1))
    (λ k h. c.in_err-rule-in-Add.ensures.1 h.0 h.1 h.2)

pub returns-in_err-kind-in-Add : goal.returns-in_err-kind-in-Add
returns-in_err-kind-in-Add c =
    refused word.Add _ _ c.from_residual-in_err-kind-in-Add.result _ _ c.in-Add.is c.from_residual-in_err-kind-in-Add.ensures.1 c.in_err-kind-in-Add.ensures.0
    (inr (_, _, c.in_ok-rule-in-Add.ensures, inl (refl, c.in_err-kind-in-Add.ensures.1)))
    (led_refused _ _ _ _ c.in_ok-rule-in-Add.ensures (λ k h. c.in_err-kind-in-Add.ensures.1 h.0 h.1 h.2))

pub returns-in_err-text-in-Add : goal.returns-in_err-text-in-Add
returns-in_err-text-in-Add c =
    refused word.Add _ _ c.from_residual-in_err-text-in-Add.result _ _ c.in-Add.is c.from_residual-in_err-text-in-Add.ensures.1 c.in_err-text-in-Add.ensures.0
    (inr (_, _, c.in_ok-rule-in-Add.ensures, inr (_, _, c.in_ok-kind-in-Add.ensures, refl)))
    (led_refused _ _ _ _ c.in_ok-rule-in-Add.ensures (led_refused _ _ _ _ c.in_ok-kind-in-Add.ensures (λ k h. c.in_err-text-in-Add.ensures.1 h.0.now h.2)))

pub returns-in_err-rule-in-Code : goal.returns-in_err-rule-in-Code
returns-in_err-rule-in-Code c =
    refused word.Code _ _ c.from_residual-in_err-rule-in-Code.result _ _ c.in-Code.is c.from_residual-in_err-rule-in-Code.ensures.1 c.in_err-rule-in-Code.ensures.0
    (inl (refl, c.in_err-rule-in-Code.ensures.1))
    (λ k h. c.in_err-rule-in-Code.ensures.1 h.0 h.1 h.2)

pub returns-in_err-kind-in-Code : goal.returns-in_err-kind-in-Code
returns-in_err-kind-in-Code c =
    refused word.Code _ _ c.from_residual-in_err-kind-in-Code.result _ _ c.in-Code.is c.from_residual-in_err-kind-in-Code.ensures.1 c.in_err-kind-in-Code.ensures.0
    (inr (_, _, c.in_ok-rule-in-Code.ensures, inl (refl, c.in_err-kind-in-Code.ensures.1)))
    (led_refused _ _ _ _ c.in_ok-rule-in-Code.ensures (λ k h. c.in_err-kind-in-Code.ensures.1 h.0 h.1 h.2))

pub returns-in_err-digits-in-Code : goal.returns-in_err-digits-in-Code
returns-in_err-digits-in-Code c =
    refused word.Code _ _ c.from_residual-in_err-digits-in-Code.result _ _ c.in-Code.is c.from_residual-in_err-digits-in-Code.ensures.1 c.in_err-digits-in-Code.ensures.0
    (inr (_, _, c.in_ok-rule-in-Code.ensures, inr (_, _, c.in_ok-kind-in-Code.ensures, refl)))
    (led_refused _ _ _ _ c.in_ok-rule-in-Code.ensures (led_refused _ _ _ _ c.in_ok-kind-in-Code.ensures (λ k h. c.in_err-digits-in-Code.ensures.1 h.0.now h.2 h.3)))

pub returns-in_ok-place-in-Cursor : goal.returns-in_ok-place-in-Cursor
returns-in_ok-place-in-Cursor c =
    as_word _ word.Cursor _ c.as_text-in-Cursor.result c.in-Cursor.is (led_answers _ _ _ _ _ c.in_ok-place-in-Cursor.ensures c.as_text-in-Cursor.result c.as_text-in-Cursor.ensures)

pub returns-in_err-place-in-Cursor : goal.returns-in_err-place-in-Cursor
returns-in_err-place-in-Cursor c =
    refused word.Cursor _ _ c.from_residual-in_err-place-in-Cursor.result _ _ c.in-Cursor.is c.from_residual-in_err-place-in-Cursor.ensures.1 c.in_err-place-in-Cursor.ensures.0
    (inl (refl, c.in_err-place-in-Cursor.ensures.1))
    (λ k h. c.in_err-place-in-Cursor.ensures.1 h.0 h.1 h.2)

pub returns-in_ok-place-in-CursorHex : goal.returns-in_ok-place-in-CursorHex
returns-in_ok-place-in-CursorHex c =
    as_word _ word.CursorHex _ c.as_hex-in-CursorHex.result c.in-CursorHex.is (led_answers _ _ _ _ _ c.in_ok-place-in-CursorHex.ensures c.as_hex-in-CursorHex.result c.as_hex-in-CursorHex.ensures)

pub returns-in_err-place-in-CursorHex : goal.returns-in_err-place-in-CursorHex
returns-in_err-place-in-CursorHex c =
    refused word.CursorHex _ _ c.from_residual-in_err-place-in-CursorHex.result _ _ c.in-CursorHex.is c.from_residual-in_err-place-in-CursorHex.ensures.1 c.in_err-place-in-CursorHex.ensures.0
    (inl (refl, c.in_err-place-in-CursorHex.ensures.1))
    (λ k h. c.in_err-place-in-CursorHex.ensures.1 h.0 h.1 h.2)
