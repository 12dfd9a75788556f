-- Words and what they name, one after the other.
use Rattle.std.proofs.Common.{◌≡◌, ℕ, zero, suc, ◌<◌, ◌==◌, false, List, [], ◌∷◌, ◌++◌, map, length, get_or, Ok, Err, Result, MatchResult, refl, sym, ap, ◌∙◌, subst, arith}
use mathlib.Core.List.{map-append}
use Rattle.std.proofs.lemmas.Bool.{true≢false}
use Rattle.std.specs.Borrow.{Bor}
use Rattle.std.specs.List.{AllByRecursion, slice_split}
use Rattle.symbols.specs.declared.event.Event.{Event}
use Rattle.symbols.specs.declared.event.OutOfRange.{OutOfRange}
use Rattle.event_words.specs.Words.{Named, Names, NamesEach, InRange, event_code, named_code, words}

-- one word more names one more
pub names_more : (ws : List (List ℕ)) (ns : List Named) (w : List ℕ) (n : Named) → NamesEach ws ns → Names w n → NamesEach (ws ++ (w ∷ [])) (ns ++ (n ∷ []))
names_more [] [] w n h k = (k, tt)
names_more [] (m ∷ ns) w n h k = absurd h
names_more (v ∷ ws) [] w n h k = absurd h
names_more (v ∷ ws) (m ∷ ns) w n h k = (h.0, names_more ws ns w n h.1 k)

-- what names all words names each
pub names_at : (ws : List (List ℕ)) (ns : List Named) (i : ℕ) (d : List ℕ) → NamesEach ws ns → i < length ws → (n : Named) × Names (get_or ws i d) n
names_at [] ns i d h l = absurd (omega arith)
names_at (w ∷ ws) [] i d h l = absurd h
names_at (w ∷ ws) (n ∷ ns) zero d h l = (n, h.0)
names_at (w ∷ ws) (n ∷ ns) (suc i) d h l = names_at ws ns i d h.1 (omega arith)

pub all_more : (ns : List Named) (n : Named) → AllByRecursion InRange ns → InRange n → AllByRecursion InRange (ns ++ (n ∷ []))
all_more [] n h k = (k, tt)
all_more (m ∷ ns) n h k = (h.0, all_more ns n h.1 k)

pub all_parts : (ns : List Named) (n : Named) → AllByRecursion InRange (ns ++ (n ∷ [])) → AllByRecursion InRange ns × InRange n
all_parts [] n h = (tt, h.0)
all_parts (m ∷ ns) n h = let k = all_parts ns n h.1 in ((h.0, k.0), k.1)

codes_more : (es : List Event) (ns : List Named) (e : Event) (n : Named) → map event_code es ≡ map named_code ns → event_code e ≡ named_code n → map event_code (es ++ (e ∷ [])) ≡ map named_code (ns ++ (n ∷ []))
codes_more es ns e n h k =
    map-append event_code es (e ∷ [])
    ∙ ap (λ l. l ++ (event_code e ∷ [])) h
    ∙ ap (λ c. map named_code ns ++ (c ∷ [])) k
    ∙ sym (map-append named_code ns (n ∷ []))

-- The words name these: all in range, and the events are theirs, or not all in range.
abbrev pub Done : List (List ℕ) → List Event → Result (Unit {0}) OutOfRange → Type 0
Done ws es in_range =
    (ns : List Named) × NamesEach ws ns
    × MatchResult in_range (λ _. AllByRecursion InRange ns × (map event_code es ≡ map named_code ns)) (λ _. AllByRecursion InRange ns → ⊥)

done_word : (ws : List (List ℕ)) (w : List ℕ) (n : Named) (es : List Event) (e : Event) (in_range : Result (Unit {0}) OutOfRange) → Done ws es in_range → Names w n → InRange n → event_code e ≡ named_code n → Done (ws ++ (w ∷ [])) (es ++ (e ∷ [])) in_range
done_word ws w n es e (Ok u) d k h same = (d.0 ++ (n ∷ []), names_more ws d.0 w n d.1 k, (all_more d.0 n d.2.0 h, codes_more es d.0 e n d.2.1 same))
done_word ws w n es e (Err x) d k h same = (d.0 ++ (n ∷ []), names_more ws d.0 w n d.1 k, λ all. d.2 (all_parts d.0 n all).0)

-- one word more, whose event is there
pub done_more : (vs : List (Bor (List ℕ))) (w : Bor (List ℕ)) (n : Named) (es fs : List Event) (e : Event) (in_range : Result (Unit {0}) OutOfRange) → Done (map (λ v. v.now) vs) es in_range → Names w.now n → InRange n → event_code e ≡ named_code n → fs ≡ es ++ (e ∷ [])
    → Done (map (λ v. v.now) (vs ++ (w ∷ []))) fs in_range
done_more vs w n es fs e in_range d k h same more =
    subst (λ ws. Done ws fs in_range) (sym (map-append (λ v. v.now) vs (w ∷ [])))
    (subst (λ gs. Done (map (λ v. v.now) vs ++ (w.now ∷ [])) gs in_range) (sym more) (done_word (map (λ v. v.now) vs) w.now n es e in_range d k h same))

-- one word more, whose machine or kind is out of range
pub done_beyond : (vs : List (Bor (List ℕ))) (w : Bor (List ℕ)) (n : Named) (es : List Event) (in_range : Result (Unit {0}) OutOfRange) (x : OutOfRange) → Done (map (λ v. v.now) vs) es in_range → Names w.now n → (InRange n → ⊥)
    → Done (map (λ v. v.now) (vs ++ (w ∷ []))) es (Err x)
done_beyond vs w n es in_range x d k h =
    subst (λ ws. Done ws es (Err x)) (sym (map-append (λ v. v.now) vs (w ∷ [])))
    (d.0 ++ (n ∷ []), names_more (map (λ v. v.now) vs) d.0 w.now n d.1 k, λ all. h (all_parts d.0 n all).1)

pub words_some : (text : List ℕ) → (length text == 0) ≡ false → words text ≡ slice_split (λ c. c == 32) text
words_some [] h = absurd (true≢false h)
words_some (b ∷ bs) h = refl

-- a text with a word that names nothing is malformed
pub refused : (text : List ℕ) (ws : List (List ℕ)) (i : ℕ) (w : List ℕ) → words text ≡ ws → i < length ws → w ≡ get_or ws i w → ((n : Named) → Names w n → ⊥) → (ns : List Named) → NamesEach (words text) ns → ⊥
refused text ws i w e l at none ns k =
    let n = names_at ws ns i w (subst (λ v. NamesEach v ns) e k) l in
    none n.0 (subst (λ v. Names v n.0) (sym at) n.1)
