-- How a byte is shown.
use Rattle.std.proofs.Common.{◌≡◌, ℕ, ◌-◌, ◌/◌, ◌%◌, ◌^◌, ◌<◌, true, false, [], ◌∷◌, Some, sym, ap, ◌∙◌, subst, arith}
use lib.Utf8.{encode}
use Rattle.std.specs.Fmt.{◌++?◌, digits, digits_output, format_spec, padded_integral, styled_digits_output}
use Rattle.std.specs.Option.{option_map}
use Rattle.std.proofs.lemmas.Bool.{cond-true, cond-false}
use Rattle.std.proofs.lemmas.Bool.Decides.{nat_tests}
use Rattle.std.proofs.lemmas.Fmt.{hex_byte}
use Rattle.std.proofs.lemmas.Str.Ascii.{encode_ascii}
use Rattle.answers.specs.Texts.{hex_digit, plain, shown_byte}

plain_below : (b : ℕ) → plain b ≡ true → b < 128
plain_below b h = grind (arith, nat_tests)

pub shown_plain : (b c : ℕ) → plain b ≡ true → c ≡ b → encode c ≡ shown_byte b
unfolding shown_byte
shown_plain b c h e = encode_ascii c (subst (λ x. x < 128) (sym e) (plain_below b h)) ∙ ap (λ x. x ∷ []) e ∙ sym (cond-true (plain b) _ _ h)

shown_hex : (b : ℕ) → b < 256 → plain b ≡ false → 92 ∷ 120 ∷ padded_integral (format_spec 32 0 4 2 (2 ^ 64 - 1)) false [] (digits 16 false b) ≡ shown_byte b
unfolding shown_byte
shown_hex b small h = ap (λ t. 92 ∷ 120 ∷ t) (hex_byte false b small) ∙ sym (cond-false (plain b) (b ∷ []) (92 ∷ 120 ∷ hex_digit (b / 16) ∷ hex_digit (b % 16) ∷ []) h)

-- what `\x{byte:02x}` writes of a byte that is not plain
pub hex_told : (d : _) (s : _) (b : ℕ) → s ≡ format_spec 32 0 4 2 (2 ^ 64 - 1) → digits_output d ≡ Some (digits 16 false b) → b < 256 → plain b ≡ false
    → (Some (92 ∷ 120 ∷ []) ++? styled_digits_output d s) ≡ Some (shown_byte b)
hex_told d s b e h small k =
    ap (λ t. Some (92 ∷ 120 ∷ []) ++? styled_digits_output d t) e
    ∙ ap (λ o. Some (92 ∷ 120 ∷ []) ++? option_map (padded_integral (format_spec 32 0 4 2 (2 ^ 64 - 1)) false []) o) h
    ∙ ap Some (shown_hex b small k)
