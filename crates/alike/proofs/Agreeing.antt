-- Readers made alike and given the same calls answer alike. Assumes nothing.
use Rattle.std.proofs.Common.{◌≡◌, ℕ, Bool, List, [], ◌∷◌, Decides, sym, refl, ap, ◌∙◌, subst, ap₂}
use Rattle.std.specs.List.{AllByRecursion}
use Rattle.books.specs.Meaning.{Meaning, Lawful}
use Rattle.readings.specs.Views.{View, Right}
use Rattle.readings.specs.Entries.{Entry}
use Rattle.readings.proofs.Traces.{Good}
use Rattle.alike.specs.Runs.{Runs}
use Rattle.alike.specs.Alike.{Past, SameCalls, Agree, sights, MadeAlike, Alike}
use Rattle.alike.specs.declared.sight.Sight.{Sight}
use Rattle.alike.proofs.Twins.{Twins}
use Rattle.alike.proofs.Calls.{call_step}

agree : (last : ℕ) (v w : View) (past : Past) (es fs : List Entry) → Good v → Good w → w.edition ≡ v.edition →
    Twins v.book.meaning w.book.meaning v.edition past → Runs last v es → Runs last w fs → SameCalls past es fs → Agree es fs
agree last v w past [] [] g g' editions twins a b same = tt
agree last v w past [] (f ∷ fs) g g' editions twins a b same = same
agree last v w past (e ∷ es) [] g g' editions twins a b same = same
agree last v w past (e ∷ es) (f ∷ fs) g g' editions twins (v', at, act, rest) (w', at', act', rest') (call, more) =
    let s = call_step v w past g g' editions twins last e.count f.count e.told f.told call act act' in (
      s.shows,
      λ r. ap (λ (m : Meaning). m.kind r) at ∙ sym (twins.same.kinds r) ∙ sym (ap (λ (m : Meaning). m.kind r) at'),
      agree last v' w' ((e.told, f.told) ∷ past) es fs s.good.0 s.good.1 s.editions s.twins rest rest' more,
    )

pub made_agree : (last : ℕ) (v w : View) (es fs : List Entry) → MadeAlike v w → Runs last v es → Runs last w fs → SameCalls [] es fs → Agree es fs
made_agree last v w es fs made =
    agree last v w [] es fs (good v made.new.0 made.lawful.0) (good w made.new.1 made.lawful.1) made.editions
    (record { lawful = made.lawful; additive = made.additive; same = made.same; walks = λ e e' s s' h. absurd h })
  where
    good : (u : View) → u.kept ≡ [] → Lawful u.book.meaning → Good u
    good u none law = record { lawful = law; sound = subst (AllByRecursion (Right u.book.meaning)) (sym none) tt }

-- who agrees sees the same
agree_sights : (es fs : List Entry) → Agree es fs → sights es ≡ sights fs
agree_sights [] [] a = refl
agree_sights [] (f ∷ fs) a = absurd a
agree_sights (e ∷ es) [] a = absurd a
agree_sights (e ∷ es) (f ∷ fs) (here, kinds, rest) = ap₂ (λ x xs. x ∷ xs) here (agree_sights es fs rest)

pub alike : (first second : List Sight) (r : Bool) → Decides r (first ≡ second) → Alike first second r
alike first second r d last v w es fs made a b same =
    let agreed = made_agree last v w es fs made a b same in
    (agreed, λ x y. d.1 (sym x ∙ agree_sights es fs agreed ∙ y))
