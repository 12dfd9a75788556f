-- A batch under way.
use Rattle.std.proofs.Common.{◌≡◌, ℕ, suc, ◌+◌, ◌*◌, ◌<◌, List, [], ◌∷◌, ◌++◌, length, get_or, set, drop, map, slice_get, Result, None, sym, refl, ap, ◌∙◌, subst, append_assoc, arith, length-append, length-drop, drop-cons}
use Rattle.std.proofs.lemmas.List.{map-id}
use Rattle.std.proofs.Math.Seq.{set-append_seam}
use Rattle.states.specs.Sets.{Rules, has_rule}
use Rattle.states.specs.Words.{digits_of_below}
use Rattle.states.proofs.Digits.{bit_ext, bit_digits_of}
use Rattle.states.proofs.Members.{has_at}
use Rattle.books.specs.declared.refusal.Refusal.{Refusal}
use Rattle.readings.specs.Views.{View}
use Rattle.readings.specs.Readings.{ReadsAsMeant}
use Rattle.readings.specs.Readings.Reading.{whole}
use Rattle.readings.specs.Readings.Told.{ended}
use Rattle.readings.specs.Calls.{Does}
use Rattle.readings.specs.Calls.Call.{read}
use Rattle.expression_book.specs.Promises.{Denoting}
use Rattle.batches.specs.Records.{Ask, batch}
use Rattle.batches.specs.Records.Ask.{line}
use Rattle.batches.specs.Runs.{Ran, Running, mask, refusals}
use Rattle.batches.specs.Runs.Ran.{begins, reads}
use Rattle.batches.specs.declared.done.Done.{Done}
use Rattle.batches.specs.declared.done.Refused.{Refused}
use Rattle.batches.proofs.Denoted.{read_denoted, read_denoting}

pub running_none : (buffer : List ℕ) (v : View) → Running buffer v [] v buffer (record { lines = 0; refused = 0; first = None })
running_none buffer v = record { given = []; refused = []; ran = begins; denoting = λ d. d; laid = refl; lines = refl; count = refl; first = refl }

-- the only word of a set of rules is its mask
pub mask_is : (rules : Rules) → get_or rules.words 0 0 ≡ mask rules
mask_is rules =
    bit_ext 64 (get_or rules.words 0 0) (mask rules) (rules.fits 0) (digits_of_below (has_rule rules) 64)
    (λ p below. let here : 64 * 0 + p ≡ p = omega arith in
    sym (has_at rules 0 p below) ∙ ap (has_rule rules) here ∙ sym (bit_digits_of (has_rule rules) 64 p below))

-- one mask more at the front of a buffer
laid_more : (given buffer : List ℕ) (m : ℕ) → length given < length (given ++ drop (length given) buffer)
    → set (given ++ drop (length given) buffer) (length given) m ≡ (given ++ m ∷ []) ++ drop (length (given ++ m ∷ [])) buffer
laid_more given buffer m room =
    let i = length given in
    let inside : i < length buffer = omega (arith, simp (length-append, length-drop) at room) in
    let longer : length (given ++ m ∷ []) ≡ suc i = omega (arith, length-append given (m ∷ [])) in
    ap (λ w. set (given ++ w) i m) (drop-cons buffer i 0 inside) ∙ set-append_seam given (get_or buffer i 0) (drop (suc i) buffer) m
    ∙ sym (append_assoc given (m ∷ []) (drop (suc i) buffer)) ∙ ap (λ k. (given ++ m ∷ []) ++ drop k buffer) (sym longer)

module _ {buffer masks : List ℕ} {v w : View} {asks : List Ask} {done : Done} (r : Running buffer v asks w masks done) where
  -- a line was read
  pub line_more : {u : View} (a : Ask) (text : List ℕ) (rules : Rules) (n : ℕ) → a ≡ line text → done.lines < length masks
      → Does (read (whole (map (λ b. b) text))) (ended rules) n w u → ReadsAsMeant (whole (map (λ b. b) text)) (ended rules) n w u
      → Running buffer v (asks ++ a ∷ []) u (set masks done.lines (get_or rules.words 0 0)) (record done { lines = done.lines + 1 })
  line_more {u} a text rules n is room does meant =
      let as_meant = subst (λ t. ReadsAsMeant (whole t) (ended rules) n w u) (map-id text) meant in record {
        given = r.given ++ mask rules ∷ [];
        refused = r.refused;
        ran = subst (λ b. Ran v (asks ++ b ∷ []) u (r.given ++ mask rules ∷ []) r.refused) (sym is)
            (reads text rules n r.ran (subst (λ t. Does (read (whole t)) (ended rules) n w u) (map-id text) does)
            as_meant (λ d. read_denoted text rules n w u as_meant (r.denoting d)));
        denoting = λ d. read_denoting text rules n w u as_meant (r.denoting d);
        laid = ap (set masks done.lines) (mask_is rules) ∙ ap (λ w. set w done.lines (mask rules)) r.laid
            ∙ ap (λ k. set (r.given ++ drop (length r.given) buffer) k (mask rules)) r.lines
            ∙ laid_more r.given buffer (mask rules) (omega (arith, room, r.lines, ap length r.laid));
        lines = omega (arith, r.lines, length-append r.given (mask rules ∷ []));
        count = r.count;
        first = r.first;
      }

  -- a change was made or refused
  pub change_more : {u : View} {done' : Done} (a b : Ask) (place : ℕ) (answer : Result ℕ Refusal) → a ≡ b → place ≡ length (batch asks)
      → Ran v (asks ++ b ∷ []) u r.given (r.refused ++ refusals (length (batch asks)) answer) → (Denoting w.book.meaning → Denoting u.book.meaning)
      → done'.lines ≡ done.lines → done'.refused ≡ done.refused + length (refusals place answer)
      → ((fs : List Refused) → done.first ≡ slice_get fs 0 → done'.first ≡ slice_get (fs ++ refusals place answer) 0)
      → Running buffer v (asks ++ a ∷ []) u masks done'
  change_more {u} {done'} a b place answer is at ran denoting lines count first =
      let here : refusals (length (batch asks)) answer ≡ refusals place answer = ap (λ p. refusals p answer) (sym at) in
      record {
        given = r.given;
        refused = r.refused ++ refusals place answer;
        ran = subst (λ c. Ran v (asks ++ c ∷ []) u r.given (r.refused ++ refusals place answer)) (sym is)
            (subst (λ fs. Ran v (asks ++ b ∷ []) u r.given (r.refused ++ fs)) here ran);
        denoting = λ d. denoting (r.denoting d);
        laid = r.laid;
        lines = lines ∙ r.lines;
        count = omega (arith, count, r.count, length-append r.refused (refusals place answer));
        first = first r.refused r.first;
      }
