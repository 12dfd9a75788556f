-- A reading half done: what was met so far, and what is left. Assumes nothing.
use Rattle.std.proofs.Common.{◌≡◌, ℕ, ◌+◌, ◌^◌, ◌<◌, true, false, ◌⊎◌, List, [], ◌∷◌, ◌++◌, sym, refl, ap, ◌∙◌, subst, ap₂, inl, inr, append_assoc, append-nil}
use Rattle.std.proofs.lemmas.Bool.{cond-true, cond-false}
use Rattle.states.specs.Sets.{State}
use Rattle.states.specs.Sets.{Rules}
use Rattle.states.specs.Sets.{is_empty}
use Rattle.books.specs.Meaning.{Meaning}
use Rattle.books.specs.Texts.{after}
use Rattle.readings.specs.Views.{View}
use Rattle.readings.specs.Runs.{Pair, goes, met, Works}
use Rattle.readings.specs.Readings.{Reads}
use Rattle.readings.specs.Readings.Reading.{whole, feed}
use Rattle.readings.specs.Readings.Told.{ended, walking}
use Rattle.readings.proofs.Runs.{works_none, works_then, works_goes, works_meaning}

-- A reading of `text` from s₀ by the reader v₀ has worked out n steps, which left the reader v. It stands at s, before `rest`.
pub record Onward (v₀ : View) (s₀ : State) (text : List ℕ) (v : View) (s : State) (rest : List ℕ) (n : ℕ) : Type 0 where
  pub passed : List Pair
  pub works : Works passed n v₀ v
  pub pairs : met (goes v₀) s₀ text ≡ passed ++ met (goes v₀) s rest
  pub state : after (goes v₀) s₀ text ≡ after (goes v₀) s rest

pub onward_none : (v : View) (s : State) (text : List ℕ) → v.tally < 2 ^ 32 → Onward v s text v s text 0
onward_none v s text l = record { passed = []; works = works_none v l; pairs = refl; state = refl }

-- one step more
pub onward_step : {v₀ v w : View} {s₀ s t : State} {text rest : List ℕ} {c n k : ℕ} → Onward v₀ s₀ text v s (c ∷ rest) n
    → is_empty s ≡ false → Works ((s, c) ∷ []) k v w → t ≡ goes v s c → Onward v₀ s₀ text w t rest (n + k)
onward_step {v₀} {v} {w} {s₀} {s} {t} {text} {rest} {c} o e x g =
    let to : goes v₀ s c ≡ t = ap (λ (f : State → ℕ → State). f s c) (sym (works_goes o.works)) ∙ sym g in
    record {
      passed = o.passed ++ (s, c) ∷ [];
      works = works_then o.works x;
      pairs = o.pairs ∙ ap (λ (ps : List Pair). o.passed ++ ps) (cond-false (is_empty s) [] _ e ∙ ap (λ (q : State). (s, c) ∷ met (goes v₀) q rest) to)
          ∙ sym (append_assoc o.passed ((s, c) ∷ []) (met (goes v₀) t rest));
      state = o.state ∙ ap (λ (q : State). after (goes v₀) q rest) to;
    }

-- from the empty state a text leads nowhere
pub stuck : (v : View) (s : State) (text : List ℕ) → is_empty s ≡ true → after (goes v) s text ≡ s
stuck v s [] e = refl
stuck v s (c ∷ cs) e = ap (λ (t : State). after (goes v) t cs) (cond-true (is_empty s) s _ e) ∙ stuck v s cs e

pub meets_none : (v : View) (s : State) (text : List ℕ) → is_empty s ≡ true → met (goes v) s text ≡ []
meets_none v s [] e = refl
meets_none v s (c ∷ cs) e = cond-true (is_empty s) [] _ e

-- nothing is left, or the state is empty
abbrev pub Over : State → List ℕ → Type 0
Over s rest = (rest ≡ []) ⊎ (is_empty s ≡ true)

over_pairs : (v : View) (s : State) (rest : List ℕ) → Over s rest → met (goes v) s rest ≡ []
over_pairs v s rest (inl e) = ap (met (goes v) s) e
over_pairs v s rest (inr e) = meets_none v s rest e

over_state : (v : View) (s : State) (rest : List ℕ) → Over s rest → after (goes v) s rest ≡ s
over_state v s rest (inl e) = ap (after (goes v) s) e
over_state v s rest (inr e) = stuck v s rest e

-- what a reading that is over has met
pub onward_works : {v₀ v : View} {s₀ s : State} {text rest : List ℕ} {n : ℕ} → Onward v₀ s₀ text v s rest n → Over s rest
    → Works (met (goes v₀) s₀ text) n v₀ v
onward_works {v₀} {v} {s₀} {s} {text} {rest} {n} o z =
    subst (λ (ps : List Pair). Works ps n v₀ v)
    (sym (o.pairs ∙ ap (λ (ps : List Pair). o.passed ++ ps) (over_pairs v₀ s rest z) ∙ append-nil o.passed))
    o.works

-- a reading of a whole text is over
pub onward_whole : {v₀ v : View} {s : State} {text rest : List ℕ} {n : ℕ} {rules : Rules} → Onward v₀ v₀.book.meaning.start text v s rest n
    → Over s rest → rules ≡ v.book.meaning.ended s → Reads (whole text) (ended rules) n v₀ v
onward_whole {v₀} {v} {s} {text} {rest} o z r = record {
  tells = ap ended (r ∙ ap₂ (λ (m : Meaning) (t : State). m.ended t) (works_meaning o.works) (sym (o.state ∙ over_state v₀ s rest z)));
  works = onward_works o z;
}

-- ---- one symbol, fed to a walk

pub feed_step : {v w : View} {s t : State} {c e k : ℕ} → Works ((s, c) ∷ []) k v w → t ≡ goes v s c → is_empty s ≡ false
    → Reads (feed e s c) (walking e t) k v w
feed_step {v} {w} {s} {t} {c} {e} {k} x g f = record {
  tells = ap (walking e) g;
  works = subst (λ (ps : List Pair). Works ps k v w) (sym (cond-false (is_empty s) [] ((s, c) ∷ []) f)) x;
}

-- from the empty state nothing is worked out
pub feed_empty : (v : View) (s : State) (e c : ℕ) → v.tally < 2 ^ 32 → is_empty s ≡ true → Reads (feed e s c) (walking e s) 0 v v
feed_empty v s e c l f = record {
  tells = ap (walking e) (sym (stuck v s (c ∷ []) f));
  works = subst (λ (ps : List Pair). Works ps 0 v v) (sym (meets_none v s (c ∷ []) f)) (works_none v l);
}
