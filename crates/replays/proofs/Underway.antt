-- A replay under way.
use Rattle.std.proofs.Common.{◌≡◌, ℕ, List, [], ◌∷◌, ◌++◌, map, sym, refl, ap, ◌∙◌, subst, ap₂}
use Rattle.std.proofs.lemmas.List.{map_push}
use Rattle.books.specs.Meaning.{Model, Lawful}
use Rattle.readings.specs.Views.{View, fresh}
use Rattle.readings.specs.Readings.{Told}
use Rattle.readings.specs.Calls.{Call, Does}
use Rattle.readings.specs.Entries.{Entry}
use Rattle.readings.specs.Changing.{Chain}
use Rattle.readings.specs.Histories.{History}
use Rattle.readings.proofs.Reaches.{Reaches, reaches_more, reaches_chain, chain_history}
use Rattle.readings.proofs.Stand.{stands}
use Rattle.replays.specs.Replays.{call_of, told_of, count_of, Replayed, ReplayedBy}
use Rattle.replays.specs.declared.log.Ask.{Ask}
use Rattle.replays.specs.declared.log.Reply.{Reply}

-- the calls `asks` of the reader v have given the log and left the reader w
pub record Replaying {S : Type 0} (code : S → ℕ) (does : Call → Told → ℕ → View → View → Type 0) (v : View) (asks : List (Ask S)) (log : List Reply) (w : View) : Type 0 where
  pub entries : List Entry
  pub calls : map (λ (e : Entry). e.call) entries ≡ map (call_of code) asks
  pub tells : map (λ (e : Entry). e.told) entries ≡ map told_of log
  pub counts : map (λ (e : Entry). e.count) entries ≡ map count_of log
  pub reaches : Reaches does v entries w

-- one more on both sides of an equation of maps
map_more : {X Y Z : Type 0} (f : X → Z) (g : Y → Z) (xs : List X) (ys : List Y) (x : X) (y : Y) → map f xs ≡ map g ys → f x ≡ g y
    → map f (xs ++ x ∷ []) ≡ map g (ys ++ y ∷ [])
map_more f g xs ys x y p q = map_push f xs x ∙ ap₂ (λ zs z. zs ++ z ∷ []) p q ∙ sym (map_push g ys y)

module _ {S : Type 0} (code : S → ℕ) (does : Call → Told → ℕ → View → View → Type 0) (v : View) where
  pub replaying_none : (log : List Reply) → log ≡ [] → Replaying code does v [] log v
  replaying_none log e = record { entries = []; calls = refl; tells = sym (ap (map told_of) e); counts = sym (ap (map count_of) e); reaches = refl }

  pub replaying_more : {asks : List (Ask S)} {log log' : List Reply} {w u : View} (a : Ask S) (r : Reply) → Replaying code does v asks log w
      → does (call_of code a) (told_of r) (count_of r) w u → log' ≡ log ++ r ∷ [] → Replaying code does v (asks ++ a ∷ []) log' u
  replaying_more {asks} {log} {log'} {w} {u} a r p d e =
      let x : Entry = record { book = w.book.meaning; call = call_of code a; told = told_of r; count = count_of r } in
      subst (λ l. Replaying code does v (asks ++ a ∷ []) l u) (sym e) (record {
        entries = p.entries ++ x ∷ [];
        calls = map_more (λ (e : Entry). e.call) (call_of code) p.entries asks x a p.calls refl;
        tells = map_more (λ (e : Entry). e.told) told_of p.entries log x r p.tells refl;
        counts = map_more (λ (e : Entry). e.count) count_of p.entries log x r p.counts refl;
        reaches = reaches_more does v w u p.entries x p.reaches refl d;
      })

  pub replaying_done_by : {asks all : List (Ask S)} {log : List Reply} {w : View} (b : Model) (edition : ℕ) → v ≡ fresh b edition → Lawful b.meaning
      → ((es : List Entry) → Chain does (fresh b edition) es → History (fresh b edition) es) → all ≡ asks
      → Replaying code does v asks log w → ReplayedBy code does (fresh b edition) all log
  replaying_done_by {asks} {all} {log} {w} b edition new l histories e p =
      let h = subst (λ x. Reaches does x p.entries w) new p.reaches in
      let chain = reaches_chain does (fresh b edition) w p.entries h in
      record {
        entries = p.entries;
        calls = p.calls ∙ ap (map (call_of code)) (sym e);
        tells = p.tells;
        counts = p.counts;
        chain = chain;
        stands = stands (fresh b edition) refl l p.entries (histories p.entries chain);
      }

  -- a log of such calls is a history, where such calls are one
  pub replayed_by : {asks : List (Ask S)} {log : List Reply} → ((es : List Entry) → Chain does v es → History v es)
      → ReplayedBy code does v asks log → Replayed code v asks log
  replayed_by histories p = record {
    entries = p.entries;
    calls = p.calls;
    tells = p.tells;
    counts = p.counts;
    history = histories p.entries p.chain;
    stands = p.stands;
  }

-- a log of such calls is a history
pub replaying_done : {S : Type 0} (code : S → ℕ) (v : View) {asks all : List (Ask S)} {log : List Reply} {w : View} (b : Model) (edition : ℕ)
    → v ≡ fresh b edition → Lawful b.meaning → all ≡ asks → Replaying code Does v asks log w → Replayed code (fresh b edition) all log
replaying_done code v b edition new l e p =
    replayed_by code Does (fresh b edition) (chain_history _) (replaying_done_by code Does v b edition new l (chain_history _) e p)
