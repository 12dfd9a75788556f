-- What every history of a new reader promises about its readings.
use Rattle.std.proofs.Common.{◌≡◌, ℕ, ◌+◌, ◌≤◌, true, false, List, [], ◌∷◌, ◌++◌, length, Some, None, Option, sym, refl, ap, ◌∙◌, subst, ap₂, arith, length-append}
use Rattle.std.specs.List.{AllByRecursion}
use Rattle.std.proofs.lemmas.Bool.{cond-false}
use Rattle.books.specs.Meaning.{Meaning, InForce, Lawful, Within}
use Rattle.kept.specs.Steps.{most}
use Rattle.readings.specs.Views.{View, Right}
use Rattle.readings.specs.Runs.{Pair, met, worked}
use Rattle.readings.specs.Readings.{Reading, Told, from, codes}
use Rattle.readings.specs.Calls.{Call}
use Rattle.readings.specs.Calls.Call.{read, add, delete, begin, finish}
use Rattle.readings.specs.Entries.{Entry, read_of, reading, is_changed, deleted_by, deleted, any_edition, met_by, met_in, all_met, counts, among, distinct_from, keep_pairs, drop_by, kept_from}
use Rattle.readings.specs.Histories.{History, Stayed, NoOthers, Stands}
use Rattle.readings.proofs.Bare.{met_within}
use Rattle.readings.proofs.Pairs.{pairs, pairs_keep_all, among_keep_pairs, among_without, worked_none, worked_distinct, distinct_append}
use Rattle.readings.proofs.Follows.{Turn, Follows, follows_self, follows_turn, free_of, same_start, same_met, same_codes, same_from}
use Rattle.readings.proofs.Follows.Turn.{still, grown, shrunk}
use Rattle.readings.proofs.Traces.{Good, Plain, Traces, traces}

-- ---- along a history

-- the first call of a history
first : (v : View) (e : Entry) (es : List Entry) → Good v → (h : History v (e ∷ es)) → Traces v e.book (reading e) (deleted e) e.told e.count h.0
first v e es g h =
    subst (λ (m : Meaning). Traces v m (reading e) (deleted e) e.told e.count h.0) (sym h.1) (traces e.call g h.2)

-- the reader after the calls of pre
record After (v : View) (pre rest : List Entry) : Type 0 where
  reader : View
  history : History reader rest
  good : Good reader
  table : pairs reader.kept ≡ kept_from (pairs v.kept) pre

after : (v : View) (pre rest : List Entry) → Good v → History v (pre ++ rest) → After v pre rest
after v [] rest g h = record { reader = v; history = h; good = g; table = refl }
after v (e ∷ pre) rest g h =
    let f = first v e (pre ++ rest) g h in
    let a = after h.0 pre rest f.good h.3 in
    record { reader = a.reader; history = a.history; good = a.good; table = a.table ∙ ap (λ (K : List Pair). kept_from K pre) f.table }

kept_append : (K : List Pair) (es fs : List Entry) → kept_from K (es ++ fs) ≡ kept_from (kept_from K es) fs
kept_append K [] fs = refl
kept_append K (e ∷ es) fs = kept_append (drop_by e.book (deleted e) (keep_pairs K (met_in e))) es fs

-- ---- readings with no change accepted between them

unchanged_deletes : (call : Call) (t : Told) → is_changed t ≡ false → deleted_by call t ≡ None
unchanged_deletes (read x) t e = refl
unchanged_deletes (add r k bytes) t e = refl
unchanged_deletes (delete r) t e = cond-false (is_changed t) (Some r) None e
unchanged_deletes begin t e = refl
unchanged_deletes (finish edition s) t e = refl

stretch : (v : View) (mid post : List Entry) → Good v → History v (mid ++ post) → AllByRecursion (λ e. is_changed e.told ≡ false) mid
    → length (pairs v.kept) + length (distinct_from (pairs v.kept) (all_met mid)) ≤ most
    → counts mid ≡ length (distinct_from (pairs v.kept) (all_met mid))
stretch v [] post g h u l = refl
stretch v (e ∷ mid) post g h u l =
    let K = pairs v.kept in
    let f = first v e (mid ++ post) g h in
    let D = distinct_from K (met_in e) in
    let E = distinct_from (K ++ D) (all_met mid) in
    let q = ap length (distinct_append K (met_in e) (all_met mid)) ∙ length-append D E in
    let w = worked_distinct e.book v.kept (met_in e) (omega arith) in
    let k : pairs h.0.kept ≡ K ++ D =
    f.table ∙ ap (λ (d : Option ℕ). drop_by e.book d (keep_pairs K (met_in e))) (unchanged_deletes e.call e.told u.0)
    ∙ sym (pairs_keep_all e.book v.kept (met_in e)) ∙ w.1 in
    let n = length-append K D in
    let more : length (K ++ D) + length E ≤ most → counts mid ≡ length E =
    subst (λ (t : List Pair). length t + length (distinct_from t (all_met mid)) ≤ most → counts mid ≡ length (distinct_from t (all_met mid))) k
    (stretch h.0 mid post f.good h.3 u.1) in
    let c : e.count ≡ length D = f.count ∙ ap length w.0 in
    let d : counts mid ≡ length E = more (omega arith) in
    omega arith

-- ---- the same reading again

-- The reader after calls that deleted no rule of m: those are as they were, and the pairs P are kept.
record Along (m : Meaning) (P : List Pair) (rest : List Entry) : Type 0 where
  reader : View
  history : History reader rest
  good : Good reader
  follows : Follows m reader.book.meaning
  stays : AllByRecursion (λ p. among (pairs reader.kept) p ≡ true) P

-- a call that deletes no rule of m drops no pair of live positions of m
stays_turn : {m n n' : Meaning} {d : Option ℕ} (K : List Pair) (p : Pair) → Lawful m → Follows m n → Turn n n' d
    → ((r : ℕ) → InForce m r → d ≡ Some r → ⊥) → Within m p.0 → among K p ≡ true → among (drop_by n d K) p ≡ true
stays_turn {m} {n} K p law f (still e o) stay w a = subst (λ (q : Option ℕ). among (drop_by n q K) p ≡ true) (sym o) a
stays_turn {m} {n} K p law f (grown r k b o) stay w a = subst (λ (q : Option ℕ). among (drop_by n q K) p ≡ true) (sym o) a
stays_turn {m} {n} K p law f (shrunk r b o) stay w a =
    subst (λ (q : Option ℕ). among (drop_by n q K) p ≡ true) (sym o)
    (among_without n r K p (free_of law f r p.0 (λ h. stay r h o) w) a)

all_both : {X : Type 0} (P Q R : X → Type 0) → ((x : X) → P x → Q x → R x) → (xs : List X) → AllByRecursion P xs → AllByRecursion Q xs → AllByRecursion R xs
all_both P Q R f [] a b = tt
all_both P Q R f (x ∷ xs) a b = (f x a.0 b.0, all_both P Q R f xs a.1 b.1)

along : (m : Meaning) (P : List Pair) (v : View) (mid rest : List Entry) → Lawful m → Good v → Follows m v.book.meaning
    → AllByRecursion (λ p. Within m p.0) P → AllByRecursion (λ p. among (pairs v.kept) p ≡ true) P
    → ((r : ℕ) → InForce m r → AllByRecursion (λ d. deleted d ≡ Some r → ⊥) mid)
    → History v (mid ++ rest) → Along m P rest
along m P v [] rest law g f w a n h = record { reader = v; history = h; good = g; follows = f; stays = a }
along m P v (e ∷ mid) rest law g f w a n h =
    let t = first v e (mid ++ rest) g h in
    let f' : Follows m e.book = subst (Follows m) (sym h.1) f in
    along m P h.0 mid rest law t.good
    (follows_turn law f' (subst Lawful (sym h.1) g.lawful) t.good.lawful t.turn (λ r k. (n r k).0))
    w
    (subst (λ (K : List Pair). AllByRecursion (λ p. among K p ≡ true) P) (sym t.table)
    (all_both (λ p. Within m p.0) (λ p. among (pairs v.kept) p ≡ true) _
    (λ p b c. stays_turn (keep_pairs (pairs v.kept) (met_in e)) p law f' t.turn (λ r k. (n r k).0) b (among_keep_pairs (pairs v.kept) (met_in e) p c)) P w a))
    (λ r k. (n r k).1) h.3

reading_deletes : (call : Call) (t : Told) (x : Reading) → read_of call t ≡ Some x → deleted_by call t ≡ None
reading_deletes (read y) t x e = refl
reading_deletes (add r k bytes) t x e = refl
reading_deletes (delete r) t x e = cc
reading_deletes begin t x e = refl
reading_deletes (finish edition s) t x e = refl

none_some : {A : Type 0} (o : Option A) (x : A) → o ≡ None → o ≡ Some x → ⊥
none_some o x e f = let z : ◌≡◌ {A = ℕ} 0 1 = cc in omega arith

-- after calls that left its rules and its steps
repeated : (v : View) (mid post : List Entry) (e e' : Entry) (x x' : Reading) → Good v → (h : History v (e ∷ (mid ++ (e' ∷ post))))
    → reading e ≡ Some x → reading e' ≡ Some x' → any_edition x ≡ any_edition x' → Stayed e mid → NoOthers e e'
    → AllByRecursion (λ p. among (pairs h.0.kept) p ≡ true) (met_in e) → e'.count ≡ 0
repeated v mid post e e' x x' g h q q' same stayed others kept =
    let m = e.book in
    let f = first v e (mid ++ (e' ∷ post)) g h in
    let law : Lawful m = subst Lawful (sym h.1) g.lawful in
    let live : Within m (from m x) = (subst (Plain m e.told) q f.plain).1 in
    let here : met_in e ≡ met m.next (from m x) (codes x) = ap (met_by m) q in
    let within = subst (AllByRecursion (λ (p : Pair). Within m p.0)) (sym here) (met_within m law (from m x) (codes x) live) in
    let follows = follows_turn law (follows_self m) law f.good.lawful f.turn
    (λ r k d. none_some (deleted e) r (reading_deletes e.call e.told x q) d) in
    let a = along m (met_in e) h.0 mid (e' ∷ post) law f.good follows within kept stayed h.3 in
    let m' = e'.book in
    let f' = first a.reader e' post a.good a.history in
    let fol : Follows m m' = subst (Follows m) (sym a.history.1) a.follows in
    let law' : Lawful m' = subst Lawful (sym a.history.1) a.good.lawful in
    let there : met_in e' ≡ met_in e =
    ap (met_by m') q' ∙ ap₂ (met m'.next) (same_from m m' x x' same (same_start law fol law' others)) (same_codes x x' same)
    ∙ same_met law fol (from m x) (codes x) live ∙ sym here in
    f'.count ∙ ap length (ap (worked m' a.reader.kept) there ∙ worked_none m' a.reader.kept (met_in e) a.stays)

-- ---- the promise

pub stands : (v : View) → v.kept ≡ [] → Lawful v.book.meaning → (es : List Entry) → History v es → Stands es
stands v new law es h = record {
  as_bare = λ pre post e x q r.
      let a = after v pre (e ∷ post) good (subst (History v) q h) in
      (subst (Plain e.book e.told) r (first a.reader e post a.good a.history).plain).0;
  again = λ pre mid post e e' x x' q r r' same stayed others kept.
      let a = after v pre (e ∷ (mid ++ (e' ∷ post))) good (subst (History v) q h) in
      let f = first a.reader e (mid ++ (e' ∷ post)) a.good a.history in
      let K : pairs a.history.0.kept ≡ kept_from [] (pre ++ e ∷ []) =
      f.table ∙ ap (λ (t : List Pair). kept_from t (e ∷ [])) (a.table ∙ ap (λ (t : List Pair). kept_from t pre) none) ∙ sym (kept_append [] pre (e ∷ [])) in
      repeated a.reader mid post e e' x x' a.good a.history r r' same stayed others
      (subst (λ (t : List Pair). AllByRecursion (λ p. among t p ≡ true) (met_in e)) (sym K) kept);
  once = λ pre mid post q u l.
      let a = after v pre (mid ++ post) good (subst (History v) q h) in
      let K : pairs a.reader.kept ≡ kept_from [] pre = a.table ∙ ap (λ (t : List Pair). kept_from t pre) none in
      subst (λ (t : List Pair). length t + length (distinct_from t (all_met mid)) ≤ most → counts mid ≡ length (distinct_from t (all_met mid))) K
      (stretch a.reader mid post a.good a.history u) l;
}
  where
    good : Good v
    good = record { lawful = law; sound = subst (AllByRecursion (Right v.book.meaning)) (sym new) tt }

    none : pairs v.kept ≡ []
    none = ap pairs new
