-- A history of a book that is given a second rule, which is taken again.
use Rattle.std.proofs.Common.{◌≡◌, ℕ, ◌+◌, ◌≤◌, Bool, true, false, cond, ◌&&◌, eqb, ltb, ◌↔◌, List, [], ◌∷◌, ◌++◌, length, is_some, Some, None, sym, refl, ap, ◌∙◌, subst, subst₂, inl, inr, arith, lit<, lit≤}
use Rattle.std.specs.List.{AllByRecursion}
use Rattle.std.proofs.lemmas.Bool.{ltb-true, lt-ltb, le-ltb, and_parts, and_right, both_ways, cases_Bool, cases_eq, cases_lt, eq-eqb, cond-true, cond-false}
use Rattle.std.proofs.lemmas.Option.{cond_some}
use Rattle.states.specs.Sets.{State}
use Rattle.states.specs.Words.{some, digits_of}
use Rattle.states.specs.Sets.{has, with_members, words_of, set_of, has_rule, rules_of, same, is_empty, no_rule}
use Rattle.states.proofs.Members.{has_above, has_set_of, member_below, has_rule_rules_of, rules_above, same_members, same_rules}
use Rattle.books.specs.Meaning.{Meaning, Lawful, counting, is, touches}
use Rattle.books.specs.Changes.{Added, Deleted}
use Rattle.books.specs.Texts.{after}
use Rattle.kept.specs.Steps.{Step, most, found, keep}
use Rattle.readings.specs.Views.{View}
use Rattle.readings.specs.Runs.{Pair, met, meant, Works}
use Rattle.readings.specs.Readings.{ReadsBy, Reads}
use Rattle.readings.specs.Readings.Reading.{whole}
use Rattle.readings.specs.Readings.Told.{changed, ended}
use Rattle.readings.specs.Calls.{Does, without}
use Rattle.readings.specs.Calls.Call.{read, add, delete}
use Rattle.readings.specs.Entries.{Entry, among, distinct_from, keep_pairs, kept_after, unkept}
use Rattle.readings.specs.Histories.{History, Stayed, StepsKept}
use Rattle.readings.specs.Example.{Repeated}
use Rattle.readings.proofs.Bare.{sound_goes}
use Rattle.readings.proofs.Traces.{Good, traces}
use Rattle.readings.proofs.Positions.{is_true, touches_none, none_touched}

-- n rules are in force: rule r has the kind 7, owns the position r, and is met by any number of codes 97
pub book : ℕ → Meaning
book n = record {
  kind = λ r. cond (ltb r n) (Some 7) None;
  owner = λ p. cond (ltb p n) (Some p) None;
  start = set_of (λ p. ltb p n);
  next = λ s c. set_of (λ p. (ltb p n && has s p) && eqb c 97);
  ended = λ s. rules_of (λ r. ltb r n && has s r);
}

-- ---- sets made by a test

in_set : (f : ℕ → Bool) (p : ℕ) → has (set_of f) p ≡ true → f p ≡ true
in_set f p h = sym (has_set_of f p (member_below (set_of f) p h)) ∙ h

in_rules : (f : ℕ → Bool) (r : ℕ) → has_rule (rules_of f) r ≡ true → f r ≡ true
in_rules f r h = elim (cases_lt r 64) [
  | inl l ↦ sym (has_rule_rules_of f r l) ∙ h
  | inr l ↦ absurd (both_ways _ (rules_above (rules_of f) r l) h)
]

same_has : (f g : ℕ → Bool) (p : ℕ) → f p ≡ g p → has (set_of f) p ≡ has (set_of g) p
same_has f g p e = elim (cases_lt p 256) [
  | inl l ↦ has_set_of f p l ∙ e ∙ sym (has_set_of g p l)
  | inr l ↦ has_above (set_of f) p l ∙ sym (has_above (set_of g) p l)
]

same_sets : (f g : ℕ → Bool) → ((p : ℕ) → f p ≡ g p) → set_of f ≡ set_of g
same_sets f g e = same_members (set_of f) (set_of g) (λ p l. same_has f g p (e p))

same_rule_sets : (f g : ℕ → Bool) → ((p : ℕ) → f p ≡ g p) → rules_of f ≡ rules_of g
same_rule_sets f g e = same_rules (rules_of f) (rules_of g) (λ p l. has_rule_rules_of f p l ∙ e p ∙ sym (has_rule_rules_of g p l))

-- ---- the laws

owner_self : (n r : ℕ) → ltb r n ≡ true → cond (ltb r n) (Some r) None ≡ Some r
owner_self n r e = ap (λ (b : Bool). cond b (Some r) None) e

lawful : (n : ℕ) → n ≤ 64 → Lawful (book n)
unfolding book
lawful n l = record {
  rules = λ r k e. let h = cond_some (ltb r n) 7 k e in let b = ltb-true r n h.0 in let q = h.1 in (omega arith, omega arith);
  owners = λ p r e.
      let h = cond_some (ltb p n) p r e in
      let b = ltb-true p n h.0 in
      (omega arith, ap (λ (q : ℕ). is_some {T = ℕ} (cond (ltb q n) (Some 7) None)) (sym h.1) ∙ ap (λ (t : Bool). is_some {T = ℕ} (cond t (Some 7) None)) h.0);
  starts = λ p h. live p (in_set _ p h);
  steps = λ s c p h. live p (in_next s c p h).0;
  apart = λ r s c e. touches_none (book n) r _ (λ p h.
      none_touched (book n) r s e p (in_next s c p h).1);
  ends = λ r s e. elim (cases_Bool (has_rule (rules_of (λ q. ltb q n && has s q)) r)) [
    | inl h ↦ (let b = and_parts (ltb r n) (has s r) (in_rules (λ q. ltb q n && has s q) r h) in
        absurd (none_touched (book n) r s e r b.1 (owner_self n r b.0)))
    | inr h ↦ h
  ];
}
  where
    in_next : (s : State) (c p : ℕ) → has ((book n).next s c) p ≡ true → (ltb p n ≡ true) × (has s p ≡ true)
    in_next s c p h = and_parts (ltb p n) (has s p) (and_parts (ltb p n && has s p) (eqb c 97) (in_set _ p h)).0

    live : (p : ℕ) → ltb p n ≡ true → is_some {T = ℕ} (cond (ltb p n) (Some p) None) ≡ true
    live p e = ap (λ (t : Bool). is_some {T = ℕ} (cond t (Some p) None)) e

-- ---- one rule more, and one less

-- below n + 1 is n, and what is below n
below : (n q : ℕ) → (q ≡ n → ⊥) → ltb q (n + 1) ≡ ltb q n
below n q d = elim (cases_lt q n) [
  | inl l ↦ lt-ltb q (n + 1) (omega arith) ∙ sym (lt-ltb q n l)
  | inr l ↦ le-ltb q (n + 1) (omega arith) ∙ sym (le-ltb q n l)
]

module _ (n : ℕ) where
  last_owner : (p : ℕ) → cond (ltb p (n + 1)) (Some p) None ≡ Some n → cond (ltb p n) (Some p) None ≡ None
  last_owner p e =
      let q = (cond_some (ltb p (n + 1)) p n e).1 in
      cond-false (ltb p n) (Some p) None (le-ltb p n (omega arith))

  -- what is not the new rule's is below n
  other_owner : (p : ℕ) → is (cond (ltb p (n + 1)) (Some p) None) n ≡ false → ltb p (n + 1) ≡ ltb p n
  other_owner p e = below n p (λ q. both_ways _ e
      (ap (λ (b : Bool). is (cond b (Some p) None) n) (lt-ltb p (n + 1) (omega arith)) ∙ eq-eqb p n q))

  -- a state that does not hold the last position
  without_last : (s : State) → touches (book (n + 1)) n s ≡ false → (p : ℕ) → (ltb p (n + 1) && has s p) ≡ (ltb p n && has s p)
  unfolding book
  without_last s e p = elim (cases_eq p n) [
    | inl q ↦ (let out : has s p ≡ false = elim (cases_Bool (has s p)) [
      | inl h ↦ absurd (none_touched (book (n + 1)) n s e p h (owner_self (n + 1) p (lt-ltb p (n + 1) (omega arith)) ∙ ap Some q))
      | inr h ↦ h
    ] in
        and_right (ltb p (n + 1)) (has s p) out ∙ sym (and_right (ltb p n) (has s p) out))
    | inr d ↦ ap (λ (t : Bool). t && has s p) (below n p d)
  ]

  same_next : (s : State) (c : ℕ) → touches (book (n + 1)) n s ≡ false → (book (n + 1)).next s c ≡ (book n).next s c
  unfolding book
  same_next s c e = same_sets _ _ (λ p. ap (λ (t : Bool). t && eqb c 97) (without_last s e p))

  same_ended : (s : State) → touches (book (n + 1)) n s ≡ false → (book (n + 1)).ended s ≡ (book n).ended s
  unfolding book
  same_ended s e = same_rule_sets _ _ (without_last s e)

  same_owner : (q p : ℕ) → (q ≡ n → ⊥) → (book (n + 1)).owner p ≡ Some q ↔ (book n).owner p ≡ Some q
  unfolding book
  same_owner q p d = (
    λ e. sym (at (cond_some (ltb p (n + 1)) p q e).1) ∙ e,
    λ e. at (cond_some (ltb p n) p q e).1 ∙ e,
  )
    where
      at : p ≡ q → cond (ltb p (n + 1)) (Some p) None ≡ cond (ltb p n) (Some p) None
      at e = ap (λ (b : Bool). cond b (Some p) None) (below n p (λ f. d (sym e ∙ f)))

  same_kind : (q : ℕ) → (q ≡ n → ⊥) → (book (n + 1)).kind q ≡ (book n).kind q
  unfolding book
  same_kind q d = ap (λ (b : Bool). cond b (Some 7) None) (below n q d)

  grows : Added n 7 (book n) (book (n + 1))
  unfolding book
  grows = record {
    elsewhere = record { kinds = same_kind; places = same_owner; nexts = λ s c b a. same_next s c a; endings = λ s b a. same_ended s a };
    before = cond-false (ltb n n) (Some 7) None (le-ltb n n (omega arith));
    after = cond-true (ltb n (n + 1)) (Some 7) None (lt-ltb n (n + 1) (omega arith));
    fresh = last_owner;
    keeps = λ p h.
        let b = ltb-true p n (in_set _ p h) in
        has_set_of (λ q. ltb q (n + 1)) p (member_below _ p h) ∙ lt-ltb p (n + 1) (omega arith);
    gains = λ p e h. sym (same_has _ _ p (other_owner p e)) ∙ h;
  }

  shrinks : Deleted n (book (n + 1)) (book n)
  unfolding book
  shrinks = record {
    elsewhere = record {
      kinds = λ q d. sym (same_kind q d);
      places = λ q p d. ((same_owner q p d).1, (same_owner q p d).0);
      nexts = λ s c b a. sym (same_next s c b);
      endings = λ s b a. sym (same_ended s b);
    };
    before = ap (λ (b : Bool). is_some {T = ℕ} (cond b (Some 7) None)) (lt-ltb n (n + 1) (omega arith));
    after = cond-false (ltb n n) (Some 7) None (le-ltb n n (omega arith));
    freed = last_owner;
    loses = λ p e. elim (cases_Bool (has (set_of (λ q. ltb q n)) p)) [
      | inl h ↦ (let b = ltb-true p n (in_set (λ q. ltb q n) p h) in
          let q = (cond_some (ltb p (n + 1)) p n (is_true ((book (n + 1)).owner p) n e)).1 in
          absurd (omega arith))
      | inr h ↦ h
    ];
    stays = λ p e. sym (same_has _ _ p (other_owner p e));
  }

-- ---- the text that is read

abbrev letters : List ℕ
letters = 97 ∷ 97 ∷ []

-- each code leads from the start to the start
stays : (n : ℕ) → (book n).next (book n).start 97 ≡ (book n).start
unfolding book
stays n = same_members _ _ (λ p l.
    let h : has (set_of (λ q. ltb q n)) p ≡ ltb p n = has_set_of (λ q. ltb q n) p l in
    has_set_of _ p l ∙ ap (λ (b : Bool). (ltb p n && b) && true) h ∙ twice (ltb p n) ∙ sym h)
  where
    twice : (b : Bool) → ((b && b) && true) ≡ b
    twice true = refl
    twice false = refl

abbrev at_start : ℕ → Pair
at_start n = ((book n).start, 97)

after_letters : (n : ℕ) → after (book n).next (book n).start letters ≡ (book n).start
after_letters n = ap (λ (s : State). (book n).next s 97) (stays n) ∙ stays n

met_letters : (n : ℕ) → is_empty (book n).start ≡ false → met (book n).next (book n).start letters ≡ at_start n ∷ at_start n ∷ []
met_letters n e =
    cond-false (is_empty (book n).start) [] _ e
    ∙ ap (λ (s : State). at_start n ∷ cond (is_empty s) [] ((s, 97) ∷ [])) (stays n)
    ∙ ap (λ (ps : List Pair). at_start n ∷ ps) (cond-false (is_empty (book n).start) [] (at_start n ∷ []) e)

-- ---- the calls

-- a reader over the book of n rules, which was asked for k steps
abbrev reader : ℕ → List Step → ℕ → ℕ → View
reader n ks e k = record { book = record { meaning = book n; note = k; noted = counting }; kept = ks; edition = e; tally = k }

abbrev kept_step : ℕ → Step
kept_step n = meant (book n) (at_start n)

abbrev reads : ℕ → ℕ → Entry
reads n k = record { book = book n; call = read (whole letters); told = ended ((book n).ended (book n).start); count = k }

abbrev adds : Entry
adds = record { book = book 1; call = add 1 7 []; told = changed 1; count = 0 }

abbrev deletes : Entry
deletes = record { book = book 2; call = delete 1; told = changed 2; count = 0 }

abbrev reader₀ : View
reader₀ = reader 1 [] 0 0

abbrev reader₁ : View
reader₁ = reader 1 (kept_step 1 ∷ []) 0 1

abbrev reader₂ : View
reader₂ = reader 2 (kept_step 1 ∷ []) 1 1

abbrev reader₃ : View
reader₃ = reader 2 (kept_step 1 ∷ kept_step 2 ∷ []) 1 2

abbrev reader₄ : View
reader₄ = reader 1 (kept_step 1 ∷ []) 2 2

start₁ : is_empty (book 1).start ≡ false
unfolding book is_empty with_members words_of digits_of
start₁ = refl

start₂ : is_empty (book 2).start ≡ false
unfolding book is_empty with_members words_of digits_of
start₂ = refl

reads_does : (n : ℕ) {k : ℕ} {ks : List Step} {e t : ℕ} {w : View} → is_empty (book n).start ≡ false → Good (reader n ks e t)
    → Works (at_start n ∷ at_start n ∷ []) k (reader n ks e t) w → Reads (whole letters) (reads n k).told k (reader n ks e t) w
reads_does n {k} {ks} {e} {t} {w} s g x =
    subst (λ (f : State → ℕ → State). ReadsBy f (whole letters) (reads n k).told k (reader n ks e t) w) (sym (sound_goes (reader n ks e t) g.lawful g.sound))
    (record {
      tells = ap (λ (q : State). ended ((book n).ended q)) (sym (after_letters n));
      works = subst (λ (ps : List Pair). Works ps k (reader n ks e t) w) (sym (met_letters n s)) x;
    })

works₁ : Works (at_start 1 ∷ at_start 1 ∷ []) 1 reader₀ reader₁
unfolding book found keep same with_members words_of digits_of
works₁ = record { count = refl; book = refl; kept = refl; edition = refl; tally = refl }

works₃ : Works (at_start 2 ∷ at_start 2 ∷ []) 1 reader₂ reader₃
unfolding book found keep same with_members words_of digits_of
works₃ = record { count = refl; book = refl; kept = refl; edition = refl; tally = refl }

-- readings whose steps are kept
none₃ : Works (at_start 2 ∷ at_start 2 ∷ []) 0 reader₃ reader₃
unfolding book found keep same with_members words_of digits_of
none₃ = record { count = refl; book = refl; kept = refl; edition = refl; tally = refl }

none₄ : Works (at_start 1 ∷ at_start 1 ∷ []) 0 reader₄ reader₄
unfolding book found keep same with_members words_of digits_of
none₄ = record { count = refl; book = refl; kept = refl; edition = refl; tally = refl }

adding : Does adds.call adds.told 0 reader₁ reader₂
adding = inr (inr (record {
  room = lit< tt;
  tells = refl;
  count = refl;
  book = record { meaning = grows 1; note = refl; noted = refl };
  lawful = lawful 2 (lit≤ tt);
  kept = refl;
  edition = refl;
  tally = refl;
}))

-- the deletion drops the step from a state with a position of the rule
left : kept_step 1 ∷ [] ≡ without (book 2) 1 (kept_step 1 ∷ kept_step 2 ∷ [])
unfolding book touches some has with_members words_of digits_of
left = refl

deleting : Does deletes.call deletes.told 0 reader₃ reader₄
deleting = inr (inr (record {
  room = lit< tt;
  tells = refl;
  count = refl;
  book = record { meaning = shrinks 1; note = refl; noted = refl };
  lawful = lawful 1 (lit≤ tt);
  kept = left;
  edition = refl;
  tally = refl;
}))

good₀ : Good reader₀
good₀ = record { lawful = lawful 1 (lit≤ tt); sound = tt }

good₁ : Good reader₁
good₁ = (traces (read (whole letters)) good₀ (reads_does 1 start₁ good₀ works₁)).good

good₂ : Good reader₂
good₂ = (traces adds.call good₁ adding).good

good₃ : Good reader₃
good₃ = (traces (read (whole letters)) good₂ (reads_does 2 start₂ good₂ works₃)).good

good₄ : Good reader₄
good₄ = (traces deletes.call good₃ deleting).good

calls : History reader₀ (reads 1 1 ∷ adds ∷ reads 2 1 ∷ reads 2 0 ∷ deletes ∷ reads 1 0 ∷ [])
calls = (
  reader₁,
  refl,
  reads_does 1 start₁ good₀ works₁,
  (
    reader₂,
    refl,
    adding,
    (
      reader₃,
      refl,
      reads_does 2 start₂ good₂ works₃,
      (
        reader₃,
        refl,
        reads_does 2 start₂ good₃ none₃,
        (
          reader₄,
          refl,
          deleting,
          (reader₄, refl, reads_does 1 start₁ good₄ none₄, tt),
        ),
      ),
    ),
  ),
)

-- ---- the premises

stayed : Stayed (reads 1 1) (adds ∷ reads 2 1 ∷ reads 2 0 ∷ deletes ∷ [])
unfolding book
stayed r h = (none, (none, (none, (first, tt))))
  where
    none : None ≡ Some r → ⊥
    none e = let z : ◌≡◌ {A = ℕ} 0 1 = cc in omega arith

    -- the rule in force is rule 0
    first : Some 1 ≡ Some r → ⊥
    first e = let q : 1 ≡ r = cc in both_ways (is_some {T = ℕ} (cond (ltb r 1) (Some 7) None)) (ap (λ (k : ℕ). is_some {T = ℕ} (cond (ltb k 1) (Some 7) None)) (sym q)) h

steps_kept : StepsKept [] (reads 1 1)
unfolding book same with_members words_of digits_of
steps_kept = subst (λ (ps : List Pair). AllByRecursion (λ q. among (keep_pairs [] ps) q ≡ true) ps) (sym (met_letters 1 start₁)) here
  where
    here : AllByRecursion (λ q. among (keep_pairs [] (at_start 1 ∷ at_start 1 ∷ [])) q ≡ true) (at_start 1 ∷ at_start 1 ∷ [])
    here = (refl, (refl, tt))

-- one pair was kept, and one more is met
room : length (kept_after (reads 1 1 ∷ adds ∷ [])) + length (unkept (reads 1 1 ∷ adds ∷ []) (reads 2 1 ∷ reads 2 0 ∷ [])) ≤ most
unfolding book same with_members words_of digits_of
room =
    subst₂ (λ (ps qs : List Pair). length (keep_pairs [] ps) + length (distinct_from (keep_pairs [] ps) (qs ++ (qs ++ []))) ≤ most)
    (sym (met_letters 1 start₁)) (sym (met_letters 2 start₂)) (lit≤ tt)

some_rule : no_rule ((book 1).ended (book 1).start) ≡ false
unfolding book is_empty has with_members words_of digits_of
some_rule = refl

pub repeated : Repeated 2
repeated = record {
  reader = reader₀;
  new = refl;
  lawful = lawful 1 (lit≤ tt);
  first = reads 1 1;
  added = adds;
  second = reads 2 1;
  third = reads 2 0;
  removed = deletes;
  last = reads 1 0;
  history = calls;
  text = whole letters;
  readings = (refl, (refl, (refl, (refl, tt))));
  accepted = (refl, (refl, tt));
  rules = (book 1).ended (book 1).start;
  meets = (refl, some_rule);
  stayed = stayed;
  others = λ r h. h;
  steps_kept = steps_kept;
  unchanged = (refl, (refl, tt));
  room = room;
  each = (refl, refl, refl, refl);
  together = refl;
}
