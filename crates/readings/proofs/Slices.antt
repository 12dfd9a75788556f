-- Readings over a slice of symbols, of which i are read.
use Rattle.std.proofs.Common.{◌≡◌, ℕ, ◌+◌, ◌<◌, ◌≤◌, false, cond, List, [], ◌∷◌, map, length, get_or, drop, Some, Option, sym, ap, ◌∙◌, subst, inl, arith, length-drop}
use lib.ListN.{length-map}
use Rattle.std.proofs.lemmas.List.{drop_more, drop_all}
use Rattle.std.proofs.lemmas.Bool.{cond_both}
use Rattle.states.specs.Sets.{State}
use Rattle.states.specs.Sets.{Rules}
use Rattle.states.specs.Sets.{is_empty, no_rule}
use Rattle.readings.specs.Views.{View}
use Rattle.readings.specs.Runs.{goes, Works}
use Rattle.readings.proofs.Onward.{Onward, Over, onward_step}
use Rattle.readings.proofs.Sought.{Ended, Sought, sought_past, sought_here}

module _ {X : Type 0} (code : X → ℕ) (text : List X) where
  -- the symbol at i stands before what is left after it
  pub symbol_first : (i : ℕ) (x : X) → i < length text → x ≡ get_or text i x → map code (drop i text) ≡ code x ∷ map code (drop (i + 1) text)
  symbol_first i x h r = ap (map code) (drop_more text i x h ∙ ap (λ (z : X). z ∷ drop (i + 1) text) (sym r))

  pub onward_more : {v₀ v w : View} {s₀ s t : State} {all : List ℕ} {i n k : ℕ} (x : X) → i < length text → x ≡ get_or text i x
      → Onward v₀ s₀ all v s (map code (drop i text)) n → is_empty s ≡ false → Works ((s, code x) ∷ []) k v w → t ≡ goes v s (code x)
      → Onward v₀ s₀ all w t (map code (drop (i + 1) text)) (n + k)
  onward_more {v₀} {v} {w} {s₀} {s} {t} {all} {i} {n} {k} x h r o e y g =
      onward_step {rest = map code (drop (i + 1) text)} (subst (λ (l : List ℕ). Onward v₀ s₀ all v s l n) (symbol_first i x h r) o) e y g

  pub sought_more : {v₀ v w : View} {s t : State} {i n k : ℕ} {best : Option Ended} {rules' : Rules} (x : X) → i < length text → x ≡ get_or text i x
      → Sought v₀ (map code text) v s (map code (drop i text)) n best → is_empty s ≡ false → Works ((s, code x) ∷ []) k v w
      → t ≡ goes v s (code x) → rules' ≡ w.book.meaning.ended t
      → Sought v₀ (map code text) w t (map code (drop (i + 1) text)) (n + k) (cond (no_rule rules') best (Some (i + 1, rules')))
  sought_more {v₀} {v} {w} {s} {t} {i} {n} {k} {best} {rules'} x h r o e y g q =
      let o' = subst (λ (l : List ℕ). Sought v₀ (map code text) v s l n best) (symbol_first i x h r) o in
      cond_both (no_rule rules') best (Some (i + 1, rules')) (Sought v₀ (map code text) w t (map code (drop (i + 1) text)) (n + k))
      (λ none. sought_past o' e y g q none)
      (λ some. sought_here o' e y g q (i + 1) some (simp (length-map, length-drop) (omega arith)))

  -- the text has ended
  pub all_read : (s : State) {i : ℕ} → length text ≤ i → Over s (map code (drop i text))
  all_read s {i} h = inl (ap (map code) (drop_all i text h))
