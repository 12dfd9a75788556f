-- Two readers over books with the same rules, whose walks of the present edition were fed the same texts. Assumes nothing.
use Rattle.std.proofs.Common.{◌≡◌, ℕ, ◌≤◌, List, [], ◌∷◌, ◌++◌, take, sym, refl, ap, ◌∙◌, subst, inl, inr}
use Rattle.std.proofs.lemmas.Bool.{both_ways, cases_order}
use Rattle.states.specs.Sets.{State, no_rule}
use Rattle.books.specs.Meaning.{Meaning, Lawful, Within}
use Rattle.books.specs.Texts.{after, meets}
use Rattle.readings.specs.Views.{View}
use Rattle.readings.specs.Readings.{Reading, Told, Tells, Searches, Reads, from}
use Rattle.readings.specs.Readings.Told.{changed, ended, matched, walking, refused}
use Rattle.readings.specs.Readings.Searches.{finds, fails}
use Rattle.readings.specs.Calls.{Leaves}
use Rattle.readings.proofs.Runs.{works_meaning}
use Rattle.readings.proofs.Bare.{reads_bare}
use Rattle.readings.proofs.Traces.{Good}
use Rattle.expressions.specs.Rules.{Additive, SameRules}
use Rattle.alike.specs.Alike.{Past, Has, sight}

-- ---- texts

after_more : (next : State → ℕ → State) (s : State) (text : List ℕ) (c : ℕ) → after next s (text ++ c ∷ []) ≡ next (after next s text) c
after_more next s [] c = refl
after_more next s (b ∷ text) c = after_more next (next s b) text c

-- a text leads through live positions
after_within : (m : Meaning) → Lawful m → (text : List ℕ) (s : State) → Within m s → Within m (after m.next s text)
after_within m law [] s w = w
after_within m law (c ∷ text) s w = after_within m law text (m.next s c) (law.steps s c)

-- ---- walks

-- Two walks that the same call told: they carry the same edition, and where it is the present one, the same text led to both.
pub record Walked (m n : Meaning) (edition e e' : ℕ) (s s' : State) : Type 0 where
  pub same : e' ≡ e
  pub old : e ≤ edition
  pub fed : e ≡ edition → (text : List ℕ) × (s ≡ after m.next m.start text) × (s' ≡ after n.next n.start text)

-- Books with the same rules, at the same edition, after calls that told `past`.
pub record Twins (m n : Meaning) (edition : ℕ) (past : Past) : Type 0 where
  pub lawful : Lawful m × Lawful n
  pub additive : Additive m × Additive n
  pub same : SameRules m n
  pub walks : (e e' : ℕ) (s s' : State) → Has past (walking e s, walking e' s') → Walked m n edition e e' s s'

-- what is to be known of what the same call told
abbrev pub Known : Meaning → Meaning → ℕ → Told → Told → Type 0
Known m n edition (changed e) t = Unit {0}
Known m n edition (ended rules) t = Unit {0}
Known m n edition (matched place k rules) t = Unit {0}
Known m n edition (refused number layer place) t = Unit {0}
Known m n edition (walking e s) (changed e') = Unit {0}
Known m n edition (walking e s) (ended rules) = Unit {0}
Known m n edition (walking e s) (matched place k rules) = Unit {0}
Known m n edition (walking e s) (refused number layer place) = Unit {0}
Known m n edition (walking e s) (walking e' s') = Walked m n edition e e' s s'

pub more : {m n : Meaning} {edition : ℕ} {past : Past} (t t' : Told) → Twins m n edition past → Known m n edition t t' → Twins m n edition ((t, t') ∷ past)
more {m} {n} {edition} {past} t t' twins known = record {
  lawful = twins.lawful;
  additive = twins.additive;
  same = twins.same;
  walks = λ e e' s s' h. elim h [
    | inl x ↦ subst (λ (p : Told × Told). Known m n edition p.0 p.1) x known
    | inr x ↦ twins.walks e e' s s' x
  ];
}

-- a walk is the reader's exactly if it carries the present edition
pub walk_within : {m n : Meaning} {edition : ℕ} {past : Past} → Twins m n edition past → (e e' : ℕ) (s s' : State) →
    Walked m n edition e e' s s' → e ≡ edition → Within m s × Within n s'
walk_within {m} {n} twins e e' s s' k at =
    let (text, is, is') = k.fed at in (
      subst (Within m) (sym is) (after_within m twins.lawful.0 text m.start twins.lawful.0.starts),
      subst (Within n) (sym is') (after_within n twins.lawful.1 text n.start twins.lawful.1.starts),
    )

-- a walk that is fed a code goes on
pub fed_more : (m n : Meaning) (edition e e' : ℕ) (s s' : State) (c : ℕ) → Walked m n edition e e' s s' → e ≡ edition →
    Walked m n edition e e' (m.next s c) (n.next s' c)
fed_more m n edition e e' s s' c k at = record {
  same = k.same;
  old = k.old;
  fed = λ h.
      let (text, is, is') = k.fed at in (
        text ++ c ∷ [],
        ap (λ (x : State). m.next x c) is ∙ sym (after_more m.next m.start text c),
        ap (λ (x : State). n.next x c) is' ∙ sym (after_more n.next n.start text c),
      );
}

-- ---- calls that leave the rules

-- from v to w the book's meaning and the edition stay
pub record Stays (v w : View) : Type 0 where
  pub meaning : w.book.meaning ≡ v.book.meaning
  pub edition : w.edition ≡ v.edition
  pub good : Good w

pub leaves_stays : {t t' : Told} {n : ℕ} {v w : View} → Good v → Leaves t t' n v w → Stays v w
leaves_stays g l = record {
  meaning = ap (λ (u : View). u.book.meaning) l.same;
  edition = ap (λ (u : View). u.edition) l.same;
  good = subst Good (sym l.same) g;
}

pub reads_stays : {x : Reading} {t : Told} {n : ℕ} {v w : View} → Good v → Within v.book.meaning (from v.book.meaning x) → Reads x t n v w →
    Tells v.book.meaning v.book.meaning.next x t × Stays v w
reads_stays g within r =
    let bare = reads_bare g.lawful g.sound within r in
    let same = works_meaning r.works in (
      bare.0.tells,
      record {
        meaning = same;
        edition = r.works.edition;
        good = record { lawful = subst Lawful (sym same) g.lawful; sound = bare.1 };
      },
    )

-- After the same call of both readers callers see the same, and all is as before it.
pub record Stepped (v w : View) (past : Past) (t t' : Told) : Type 0 where
  pub shows : sight t ≡ sight t'
  pub good : Good v × Good w
  pub editions : w.edition ≡ v.edition
  pub twins : Twins v.book.meaning w.book.meaning v.edition ((t, t') ∷ past)

pub stays_step : {v w v' w' : View} {past : Past} (t t' : Told) → w.edition ≡ v.edition → Twins v.book.meaning w.book.meaning v.edition past →
    Stays v v' → Stays w w' → sight t ≡ sight t' → Known v.book.meaning w.book.meaning v.edition t t' → Stepped v' w' past t t'
stays_step {v} {w} {v'} {w'} {past} t t' editions twins a b shows known = record {
  shows = shows;
  good = (a.good, b.good);
  editions = b.edition ∙ editions ∙ sym a.edition;
  twins =
      subst (λ (e : ℕ). Twins v'.book.meaning w'.book.meaning e ((t, t') ∷ past)) (sym a.edition)
      (subst (λ (m : Meaning). Twins m w'.book.meaning v.edition ((t, t') ∷ past)) (sym a.meaning)
      (subst (λ (n : Meaning). Twins v.book.meaning n v.edition ((t, t') ∷ past)) (sym b.meaning) (more t t' twins known)));
}

-- ---- tokens

-- where the same beginnings end the same rules, a search tells the same
pub search_same : (m n : Meaning) → ((text : List ℕ) → meets n text ≡ meets m text) → (rest : List ℕ) (place : ℕ) (t t' : Told) →
    Searches m m.next rest place t → Searches n n.next rest place t' → t ≡ t'
search_same m n same rest place t t' (finds k l) (finds k' l') = elim (cases_order k k') [
  | inl e ↦ ap (λ (x : ℕ). matched place x (meets m (take x rest))) e ∙ ap (matched place k') (sym (same (take k' rest)))
  | inr (inl h) ↦ absurd (both_ways _ l'.ends (ap no_rule (same (take k' rest)) ∙ l.longer k' h l'.within))
  | inr (inr h) ↦ absurd (both_ways _ l.ends (ap no_rule (sym (same (take k rest))) ∙ l'.longer k h l.within))
]
search_same m n same rest place t t' (finds k l) (fails h) =
    absurd (both_ways _ l.ends (ap no_rule (sym (same (take k rest))) ∙ h k l.some l.within))
search_same m n same rest place t t' (fails h) (finds k l) =
    absurd (both_ways _ l.ends (ap no_rule (same (take k rest)) ∙ h k l.some l.within))
search_same m n same rest place t t' (fails h) (fails h') = refl

-- a search tells no walk
pub search_known : (m n : Meaning) (edition : ℕ) (next : State → ℕ → State) (rest : List ℕ) (place : ℕ) (t t' : Told) → Searches m next rest place t →
    Known m n edition t t'
search_known m n edition next rest place t t' (finds k l) = tt
search_known m n edition next rest place t t' (fails h) = tt
