-- The tokens of `kerx`. Assumes nothing.
use Rattle.std.proofs.Common.{◌≡◌, ℕ, Bool, true, false, cond, eqb, List, [], ◌∷◌, ◌++◌, is_some, Some, None, Option, refl, sym, ap, ◌∙◌, subst, inl, inr, arith, lit≤}
use Rattle.std.proofs.lemmas.Bool.{both_ways, cases_Bool, cases_eq, cond-true, cond-false}
use Rattle.states.specs.Sets.{State, has, has_rule, is_empty, no_rule, rules_of, with_members, words_of}
use Rattle.states.specs.Words.{digits_of}
use Rattle.states.proofs.Members.{is_empty_decides}
use Rattle.books.specs.Meaning.{Meaning, touches}
use Rattle.books.specs.Texts.{after, meets}
use Rattle.readings.specs.Runs.{Pair, met}
use Rattle.readings.specs.Readings.{Told, Tells, Searches}
use Rattle.readings.specs.Readings.Reading.{token}
use Rattle.readings.specs.Readings.Searches.{finds as longest_at, fails as none_at}
use Rattle.readings.specs.Readings.Told.{matched, refused}
use Rattle.readings.specs.Entries.{distinct_from}
use Rattle.readings.proofs.Positions.{some_of}
use Rattle.expressions.specs.Expression.{join, Plain}
use Rattle.expressions.specs.Positions.{followed_by}
use Rattle.expressions.specs.Rules.{Additive, only}
use Rattle.alike.proofs.Twins.{search_same}
use Rattle.worked.specs.Lines.{these, finds, finds_none, Answers}
use Rattle.worked.specs.Worked.{tokens_read}
use Rattle.worked.proofs.Denoted.{never, begins, first_begins}
use Rattle.worked.proofs.Rules.{Expressions, IsRule, Has, denoted_by, text_meets, text_meets_all}
use Rattle.worked.proofs.Pairs.{way, way_met, some_position, touched_before, all_new, other_code, other_state}
use Rattle.worked.proofs.Calls.{reading_line}
use Rattle.worked.proofs.Answering.{answered_none, answered_more, denoted_touches}
use Rattle.worked.proofs.Three.{three, three_added}

-- ---- codes by which no text begins

-- the rule's first positions may take the code
abbrev starts_by : ℕ → Option Plain → Bool
starts_by c None = false
starts_by c (Some e) = begins (join e never) c

starts_either : (c : ℕ) (b : Bool) (o o' : Option Plain) → starts_by c o ≡ false → starts_by c o' ≡ false → starts_by c (cond b o o') ≡ false
starts_either c true o o' h h' = h
starts_either c false o o' h h' = h'

module _ {m : Meaning} {rules : Expressions} {k : ℕ} (rule : Has m rules k) (additive : Additive m) (c : ℕ) (none : (r : ℕ) → starts_by c (rules r) ≡ false) where
  no_way : (r p q : ℕ) (o : Option Plain) → IsRule m r o → starts_by c o ≡ false → m.owner p ≡ Some r → has m.start p ≡ true
      → has (m.next (only p) c) q ≡ true → ⊥
  no_way r p q None i out own at leads = both_ways (is_some (m.kind r)) (ap is_some i) (rule.lawful.owners p r own).1
  no_way r p q (Some e) i out own at leads =
      let means = i.1 in
      let first = (means.starts p own).0 at in
      let takes = ((means.steps p c q own).0 leads).0 in
      both_ways _ out (subst (λ (x : Plain). begins (join x never) c ≡ true) means.copy (first_begins (followed_by means.body means.end) p c means.distinct first takes))

  -- the start leads nowhere by the code
  nowhere : is_empty (m.next m.start c) ≡ true
  nowhere = (is_empty_decides (m.next m.start c) _ refl).1 (λ q. elim (cases_Bool (has (m.next m.start c) q)) [
    | inl h ↦ (let (p, at, leads) = (additive.nexts m.start c q).0 h in
        let o = some_of (m.owner p) (rule.lawful.starts p at) in
        absurd (no_way o.0 p q (rules o.0) (rule.rule o.0) (none o.0) o.1 at leads))
    | inr h ↦ h
  ])

-- ---- `kerx` and what is behind its token

abbrev kerx : List ℕ
kerx = 107 ∷ 101 ∷ 114 ∷ 120 ∷ []

abbrev ke : List ℕ
ke = 107 ∷ 101 ∷ []

abbrev rx : List ℕ
rx = 114 ∷ 120 ∷ []

rule_2 : (rules_of (λ r. denoted_by ke (three r))).words ≡ (these (2 ∷ [])).words
unfolding with_members words_of digits_of
rule_2 = refl

some_rule : no_rule (these (2 ∷ [])) ≡ false
unfolding is_empty with_members words_of digits_of
some_rule = refl

no_rule_met : no_rule (these []) ≡ true
unfolding is_empty with_members words_of digits_of
no_rule_met = refl

-- the rules that the text meets are none
abbrev MetByNone : List ℕ → Type 0
MetByNone text = (rules_of (λ r. denoted_by text (three r))).words ≡ (these []).words

ker_none : MetByNone (107 ∷ 101 ∷ 114 ∷ [])
unfolding with_members words_of digits_of
ker_none = refl

kerx_none : MetByNone kerx
unfolding with_members words_of digits_of
kerx_none = refl

r_none : MetByNone (114 ∷ [])
unfolding with_members words_of digits_of
r_none = refl

rx_none : MetByNone rx
unfolding with_members words_of digits_of
rx_none = refl

module _ {m : Meaning} {k : ℕ} (additive : Additive m) (rules : Has m three k) where
  none_met : (text : List ℕ) → MetByNone text → no_rule (meets m text) ≡ true
  none_met text e = ap no_rule (text_meets_all rules additive text (these []) e) ∙ no_rule_met

  ke_met : meets m ke ≡ these (2 ∷ [])
  ke_met = text_meets_all rules additive ke (these (2 ∷ [])) rule_2

  kerx_found : Searches m m.next kerx 0 (matched 0 2 (meets m ke))
  kerx_found = longest_at 2 (record {
    some = lit≤ tt;
    within = lit≤ tt;
    ends = ap no_rule ke_met ∙ some_rule;
    longer = λ k more within. elim (cases_eq k 3) [
      | inl e ↦ rw e (none_met (107 ∷ 101 ∷ 114 ∷ []) ker_none)
      | inr d ↦ (let e : k ≡ 4 = omega arith in rw e (none_met kerx kerx_none))
    ];
  })

  rx_none_found : Searches m m.next rx 2 (refused 14 1 2)
  rx_none_found = none_at (λ k some within. elim (cases_eq k 1) [
    | inl e ↦ rw e (none_met (114 ∷ []) r_none)
    | inr d ↦ (let e : k ≡ 2 = omega arith in rw e (none_met rx rx_none))
  ])

  -- the states behind `ker` and at the start hold a position of rule 2, since `kerf` meets it
  ker_touched : touches m 2 (after m.next m.start (107 ∷ 101 ∷ 114 ∷ [])) ≡ true
  ker_touched = touched_before m rules.lawful 2 (after m.next m.start (107 ∷ 101 ∷ 114 ∷ [])) (102 ∷ [])
      (denoted_touches rules additive 2 (107 ∷ 101 ∷ 114 ∷ 102 ∷ []) refl)

  start_some : is_empty m.start ≡ false
  start_some = some_position m rules.lawful 2 m.start (touched_before m rules.lawful 2 m.start (107 ∷ 101 ∷ 114 ∷ []) ker_touched)

  kerx_pairs : met m.next m.start kerx ≡ way m.next m.start kerx
  kerx_pairs =
      way_met m rules.lawful 2 m.start (107 ∷ 101 ∷ 114 ∷ []) (120 ∷ []) ker_touched
      ∙ ap (λ (ps : List Pair). way m.next m.start (107 ∷ 101 ∷ 114 ∷ []) ++ ps)
      (cond-false _ [] _ (some_position m rules.lawful 2 _ ker_touched))

  -- of `rx` one step is taken, from the start
  rx_pairs : met m.next m.start rx ≡ (m.start, 114) ∷ []
  rx_pairs =
      cond-false (is_empty m.start) [] _ start_some
      ∙ ap (λ (ps : List Pair). (m.start, 114) ∷ ps) (cond-true (is_empty (m.next m.start 114)) [] _
      (nowhere rules additive 114 (λ r. starts_either 114 (eqb 2 r) _ _ refl (starts_either 114 (eqb 1 r) _ _ refl (starts_either 114 (eqb 0 r) _ _ refl refl)))))

  -- the state behind `ke` is not the start
  ke_elsewhere : after m.next m.start ke ≡ m.start → ⊥
  ke_elsewhere e = both_ways (has_rule (meets m []) 2) (text_meets rules additive [] 2) (ap (λ (s : State). has_rule (m.ended s) 2) (sym e) ∙ text_meets rules additive ke 2)

  kerx_new : distinct_from [] (way m.next m.start kerx) ≡ way m.next m.start kerx
  kerx_new = all_new [] (way m.next m.start kerx) (
    tt,
    (
      (other_code refl, tt),
      ((other_code refl, (other_code refl, tt)), ((other_code refl, (other_code refl, (other_code refl, tt))), tt)),
    ),
  )

  rx_new : distinct_from (way m.next m.start kerx) ((m.start, 114) ∷ []) ≡ (m.start, 114) ∷ []
  rx_new = all_new (way m.next m.start kerx) ((m.start, 114) ∷ []) (
    (other_code refl, (other_code refl, (other_state ke_elsewhere, (other_code refl, tt)))),
    tt,
  )

pub tokens : Answers tokens_read
tokens b e es new low runs calls = three_added b e (finds kerx 0 2 (2 ∷ []) 4 ∷ finds_none kerx 2 1 ∷ []) new low (λ m w additive has at.
    answered_more w (finds kerx 0 2 (2 ∷ []) 4) _ (λ t n w₁ act.
    let found : (t : Told) → Tells m m.next (token kerx 0) t → t ≡ matched 0 2 (these (2 ∷ [])) = λ t tells.
    search_same m m (λ text. refl) kerx 0 t _ tells (kerx_found additive has) ∙ ap (matched 0 2) (ke_met additive has) in
    let first = reading_line (matched 0 2 (these (2 ∷ []))) (way m.next m.start kerx) at has.lawful.starts found
    (ap (distinct_from []) (kerx_pairs additive has) ∙ kerx_new additive has) (lit≤ tt) act in (
      first.0,
      first.1,
      answered_more w₁ (finds_none kerx 2 1) [] (λ t' n' w₂ act'.
          let second = reading_line (refused 14 1 2) ((m.start, 114) ∷ []) first.2 has.lawful.starts
          (λ t tells. search_same m m (λ text. refl) rx 2 t _ tells (rx_none_found additive has))
          (ap (distinct_from (way m.next m.start kerx)) (rx_pairs additive has) ∙ rx_new additive has) (lit≤ tt) act' in
          (second.0, second.1, answered_none w₂)),
    ))) es runs calls
