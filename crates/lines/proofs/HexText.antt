-- Pairs of hex digits, as the library tests and decodes them.
use Rattle.std.proofs.Common.{◌≡◌, ℕ, ◌+◌, ◌*◌, ◌%◌, ◌<◌, ◌⊎◌, true, ◌&&◌, List, [], ◌∷◌, length, Some, Ok, Err, Result, Decides, sym, refl, ap, ◌∙◌, subst, ⊎_elim, arith}
use Rattle.std.specs.Prelude.{vec_items, Vec}
use Rattle.std.specs.declared.alloc.Global.{Global}
use Rattle.std.specs.List.{AllPass, list_all}
use Rattle.std.specs.Char.{digit_value, is_ascii_hexdigit}
use Rattle.std.proofs.lemmas.Bool.{and_parts}
use Rattle.std.proofs.lemmas.Bool.Decides.{nat_tests}
use Rattle.std.proofs.lemmas.List.Elements.{All-head, All-tail}
use Rattle.hex.specs.Hex.{decode_of, decode_pairs, digit_or_error, hex_digit_value, is_hex_digit, pair_value, value_at}
use Rattle.hex.proofs.HexLemmas.{decode_of-even, decode_of-ok}
use Rattle.hex.proofs.Pairs.{cons_byte, decode_pairs-ok_pair}
use Rattle.hex.specs.declared.error.FromHexError.{FromHexError}
use Rattle.hex.specs.declared.error.FromHexError.TheVariants.{OutOfMemory}
use Rattle.lines.specs.Hex.{Decodes, Hex, no_bytes, written}
use Rattle.lines.specs.declared.hex_pairs.NoBytes.{NoBytes}
use Rattle.lines.specs.declared.hex_pairs.NoBytes.TheVariants.{NotHex, NoMemory}

digit_test : (c : ℕ) → Decides (is_ascii_hexdigit c) (digit_value c < 16)
digit_test c = grind (arith, nat_tests)

digit_read : (c : ℕ) → digit_value c < 16 → hex_digit_value c ≡ Some (digit_value c)
digit_read c h = grind (arith, nat_tests)

digit_small : (c : ℕ) → is_hex_digit c ≡ true → digit_value c < 16
digit_small c h = grind (arith, nat_tests)

pub hex_even : (t : List ℕ) → Hex t → length t % 2 ≡ 0
hex_even [] h = refl
hex_even (a ∷ []) h = absurd h
hex_even (a ∷ b ∷ t) h = let e = hex_even t h.1 in omega arith

pub hex_test : (t : List ℕ) → length t % 2 ≡ 0 → Decides (list_all is_ascii_hexdigit t) (Hex t)
hex_test [] e = (λ _. tt, λ _. refl)
hex_test (a ∷ []) e = absurd (omega arith)
hex_test (a ∷ b ∷ t) e =
    let s = hex_test t (omega arith) in
    let test = list_all is_ascii_hexdigit t in (
      λ h.
          let p = and_parts (is_ascii_hexdigit a) (is_ascii_hexdigit b && test) h in
          let q = and_parts (is_ascii_hexdigit b) test p.1 in
          (((digit_test a).0 p.0, (digit_test b).0 q.0), s.0 q.1),
      λ h.
          let x = (digit_test a).1 h.0.0 in
          let y = (digit_test b).1 h.0.1 in
          let z = s.1 h.1 in
          ap (λ u. u && (is_ascii_hexdigit b && test)) x ∙ ap (λ u. u && test) y ∙ z,
    )

-- pairs of digits decode to what they write
pairs_decode : (i : ℕ) (t : List ℕ) → Hex t → decode_pairs i t ≡ Ok (written t)
unfolding decode_pairs
pairs_decode i [] h = refl
pairs_decode i (a ∷ []) h = absurd h
pairs_decode i (a ∷ b ∷ t) h =
    let high : value_at a i ≡ Ok (digit_value a) = ap (digit_or_error a i) (digit_read a h.0.0) in
    let low : value_at b (i + 1) ≡ Ok (digit_value b) = ap (digit_or_error b (i + 1)) (digit_read b h.0.1) in
    let pair : pair_value a b i ≡ Ok (digit_value a * 16 + digit_value b) = rw (high, low) refl in
    let byte : digit_value a * 16 + digit_value b ≡ 16 * digit_value a + digit_value b = omega arith in
    decode_pairs-ok_pair i a b _ t pair
    ∙ ap (cons_byte (digit_value a * 16 + digit_value b)) (pairs_decode (i + 2) t h.1)
    ∙ ap (λ (v : ℕ). Ok (v ∷ written t)) byte

pub hex_decodes : (t : List ℕ) → Hex t → decode_of t ≡ Ok (written t)
hex_decodes t h = decode_of-even t (hex_even t h) ∙ pairs_decode 0 t h

digits_hex : (t : List ℕ) → length t % 2 ≡ 0 → AllPass is_hex_digit t → Hex t
digits_hex [] e h = tt
digits_hex (a ∷ []) e h = absurd (omega arith)
digits_hex (a ∷ b ∷ t) e h =
    let P : ℕ → Type 0 = λ c. is_hex_digit c ≡ true in
    let rest = All-tail P a (b ∷ t) h in
    ((digit_small a (All-head P a (b ∷ t) h), digit_small b (All-head P b t rest)), digits_hex t (omega arith) (All-tail P b t rest))

-- what decodes is pairs of digits, and gives what they write
pub decoded_hex : (t bytes : List ℕ) → decode_of t ≡ Ok bytes → Hex t × (bytes ≡ written t)
decoded_hex t bytes e =
    let s = decode_of-ok t bytes e in
    let h = digits_hex t s.0 s.1 in
    let both : ◌≡◌ {A = Result (List ℕ) FromHexError} (Ok bytes) (Ok (written t)) = sym e ∙ hex_decodes t h in
    (h, cc)

-- what is answered where `decode` gave bytes
pub decodes_ok : (t : List ℕ) (bytes : Vec ℕ Global) → decode_of t ≡ Ok (vec_items bytes) → Decodes t (Ok bytes)
decodes_ok t bytes e = decoded_hex t (vec_items bytes) e

refused : (t : List ℕ) (x : FromHexError) → decode_of t ≡ Err x → Hex t → ⊥
refused t x e h = let both : ◌≡◌ {A = Result (List ℕ) FromHexError} (Err x) (Ok (written t)) = sym e ∙ hex_decodes t h in cc

no_hex : (t : List ℕ) (y : NoBytes) → (Hex t → ⊥) → Decodes t (Err y)
no_hex t NotHex h = h
no_hex t NoMemory h = tt

-- and where it refused
pub decodes_err : (t : List ℕ) (x : FromHexError) (y : NoBytes) → y ≡ no_bytes x → (x ≡ OutOfMemory) ⊎ (decode_of t ≡ Err x) → Decodes t (Err y)
decodes_err t x y e h =
    ⊎_elim (λ is. subst (λ n. Decodes t (Err n)) (sym (e ∙ ap no_bytes is)) tt) (λ f. no_hex t y (refused t x f)) h
