-- Over a sound reader a reading goes where the book says, and the reader stays sound.
use Rattle.std.proofs.Common.{◌≡◌, ℕ, Bool, true, false, cond, ◌&&◌, eqb, List, [], ◌∷◌, Some, unwrap_or, sym, refl, ap, ◌∙◌, subst, subst₂}
use Rattle.std.specs.List.{AllByRecursion}
use Rattle.std.proofs.ByRecursion.{All-push}
use Rattle.std.proofs.lemmas.Bool.{and_parts, eqb-true, cond_both}
use Rattle.states.specs.Sets.{State}
use Rattle.states.specs.Sets.{same, is_empty}
use Rattle.states.proofs.Members.{same_true, empty_is}
use Rattle.books.specs.Meaning.{Meaning, Model, Lawful, Within, asked}
use Rattle.kept.specs.Steps.{Step, found, keep}
use Rattle.readings.specs.Views.{View, Right, AllRight, Sound}
use Rattle.readings.specs.Runs.{Pair, goes, met, meant, keep_all, Works}
use Rattle.readings.specs.Readings.{Reading, Told, ReadsBy, Reads, from, codes}
use Rattle.readings.proofs.Positions.{next_nothing}
use Rattle.readings.proofs.Tables.{keep_both}
use Rattle.readings.proofs.Runs.{works_meaning}

-- ---- kept steps that are the book's

found_right : (m : Meaning) (ks : List Step) (s : State) (c : ℕ) → AllByRecursion (Right m) ks → unwrap_or (found ks s c) (m.next s c) ≡ m.next s c
unfolding found
found_right m [] s c a = refl
found_right m (k ∷ ks) s c a = first (same k.state s && eqb k.code c) refl (found_right m ks s c a.1)
  where
    first : (b : Bool) → (same k.state s && eqb k.code c) ≡ b → unwrap_or (found ks s c) (m.next s c) ≡ m.next s c
        → unwrap_or (cond b (Some k.next) (found ks s c)) (m.next s c) ≡ m.next s c
    first true e more =
        let h = and_parts (same k.state s) (eqb k.code c) e in
        a.0.next ∙ ap (λ (t : State). m.next t k.code) (same_true k.state s h.0) ∙ ap (m.next s) (eqb-true k.code c h.1)
    first false e more = more

-- a sound reader goes where its book says
pub sound_goes : (v : View) → Lawful v.book.meaning → Sound v → goes v ≡ v.book.meaning.next
sound_goes v l a = λ i s c. at s c i
  where
    at : (s : State) (c : ℕ) → goes v s c ≡ v.book.meaning.next s c
    at s c = cond_both (is_empty s) s _ (λ t. t ≡ v.book.meaning.next s c)
        (λ e. let z = empty_is s e in z ∙ sym (next_nothing v.book.meaning l c) ∙ ap (λ (t : State). v.book.meaning.next t c) (sym z))
        (λ e. found_right v.book.meaning v.kept s c a)

-- so it goes to live positions alone
pub goes_live : (v : View) → Lawful v.book.meaning → Sound v → (s : State) (c : ℕ) → Within v.book.meaning (goes v s c)
goes_live v l a s c = subst (λ (f : State → ℕ → State). Within v.book.meaning (f s c)) (sym (sound_goes v l a)) (l.steps s c)

-- ---- what is kept on the way

-- the pairs that are met have live positions only
pub met_within : (m : Meaning) → Lawful m → (s : State) (cs : List ℕ) → Within m s → AllByRecursion (λ (p : Pair). Within m p.0) (met m.next s cs)
met_within m l s [] w = tt
met_within m l s (c ∷ cs) w =
    cond_both (is_empty s) [] _ (AllByRecursion (λ (p : Pair). Within m p.0)) (λ e. tt) (λ e. (w, met_within m l (m.next s c) cs (l.steps s c)))

keep_right : (m : Meaning) (ks : List Step) (p : Pair) → Within m p.0 → AllByRecursion (Right m) ks → AllByRecursion (Right m) (keep ks (meant m p))
keep_right m ks p w a = keep_both ks (meant m p) (AllByRecursion (Right m)) a (All-push (Right m) ks (meant m p) a (record { live = w; next = refl }))

-- the book that was asked means as before: its answer is live, and its step is right to keep
module _ (b : Model) (s : State) (c : ℕ) where
  pub asked_live : {a : Model} {t : State} → Lawful b.meaning → a ≡ asked s c b → t ≡ b.meaning.next s c → Within a.meaning t
  asked_live l e n = subst₂ Within (sym (ap (λ (x : Model). x.meaning) e)) (sym n) (l.steps s c)

  pub asked_right : {a : Model} (ks : List Step) {kt : List Step} → Within b.meaning s → AllRight b.meaning ks → a ≡ asked s c b
      → kt ≡ keep ks (meant b.meaning (s, c)) → AllRight a.meaning kt
  asked_right ks w r e k = subst₂ AllRight (sym (ap (λ (x : Model). x.meaning) e)) (sym k) (keep_right b.meaning ks (s, c) w r)

keep_all_right : (m : Meaning) (ks : List Step) (ps : List Pair) → AllByRecursion (λ (p : Pair). Within m p.0) ps → AllByRecursion (Right m) ks → AllByRecursion (Right m) (keep_all m ks ps)
keep_all_right m ks [] w a = a
keep_all_right m ks (p ∷ ps) w a = keep_all_right m (keep ks (meant m p)) ps w.1 (keep_right m ks p w.0 a)

-- a reading over the book's own steps keeps a sound reader sound
pub works_sound : {n : ℕ} {v w : View} (s : State) (cs : List ℕ) → Lawful v.book.meaning → Sound v → Within v.book.meaning s
    → Works (met v.book.meaning.next s cs) n v w → Sound w
works_sound {n} {v} {w} s cs l a b x =
    subst (λ (m : Meaning). AllByRecursion (Right m) w.kept) (sym (works_meaning x))
    (subst (AllByRecursion (Right v.book.meaning)) (sym x.kept)
    (keep_all_right v.book.meaning v.kept (met v.book.meaning.next s cs) (met_within v.book.meaning l s cs b) a))

-- a reading of a sound reader, from live positions, goes as the bare reading does
pub reads_bare : {x : Reading} {t : Told} {n : ℕ} {v w : View} → Lawful v.book.meaning → Sound v → Within v.book.meaning (from v.book.meaning x)
    → Reads x t n v w → ReadsBy v.book.meaning.next x t n v w × Sound w
reads_bare {x} {t} {n} {v} {w} l a b r =
    let bare : ReadsBy v.book.meaning.next x t n v w =
    subst (λ (f : State → ℕ → State). ReadsBy f x t n v w) (sound_goes v l a) r in
    (bare, works_sound (from v.book.meaning x) (codes x) l a b bare.works)
