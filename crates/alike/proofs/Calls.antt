-- The same call of two readers over books with the same rules tells the same, and leaves books with the same rules. Assumes nothing.
use Rattle.std.proofs.Common.{◌≡◌, ℕ, ◌+◌, false, List, [], drop, is_some, Some, None, Option, sym, refl, ap, ◌∙◌, subst, inl, inr, le_refl, arith}
use Rattle.std.proofs.lemmas.Bool.{both_ways}
use Rattle.states.specs.Sets.{State, Rules}
use Rattle.books.specs.Meaning.{Meaning}
use Rattle.books.specs.Texts.{meets}
use Rattle.books.specs.declared.faults.BookFault.{BookFault}
use Rattle.books.specs.declared.refusal.Refusal.{Refusal}
use Rattle.books.specs.declared.refusal.Refusal.TheVariants.{LastEdition, Book, StaleWalk}
use Rattle.kept.specs.Steps.{Step}
use Rattle.readings.specs.Views.{View}
use Rattle.readings.specs.Readings.{Told, Searches, Reads}
use Rattle.readings.specs.Readings.Reading.{whole, feed}
use Rattle.readings.specs.Readings.Told.{changed, ended, walking}
use Rattle.readings.specs.Calls.{Call, Leaves, Refuses, Changes, ChangesOr, Ours, IfOurs, Does}
use Rattle.readings.specs.Calls.Call.{add, delete, begin}
use Rattle.readings.proofs.Traces.{Good, traces}
use Rattle.expressions.specs.Rules.{Additive, SameRules, refusal}
use Rattle.expressions.proofs.Alike.{meets_same, refusal_same}
use Rattle.alike.specs.Runs.{ExpressionActs}
use Rattle.alike.specs.Alike.{Past, Has, SameCall, sight}
use Rattle.alike.specs.Alike.SameCall.{wholes, tokens, peeks, begins, feeds, finishes, adds, deletes}
use Rattle.alike.proofs.Changing.{run_does, added_same, deleted_same}
use Rattle.alike.proofs.Twins.{Walked, Twins, Known, walk_within, fed_more, Stays, leaves_stays, reads_stays, Stepped, stays_step, search_same, search_known}

-- ---- one call

module _ (v w : View) (past : Past) (good : Good v) (good' : Good w) (editions : w.edition ≡ v.edition)
    (twins : Twins v.book.meaning w.book.meaning v.edition past) where
  met_same : (text : List ℕ) → meets w.book.meaning text ≡ meets v.book.meaning text
  met_same =
      meets_same v.book.meaning w.book.meaning twins.lawful.0 twins.lawful.1 twins.same twins.additive.0 twins.additive.1

  -- what is told is equal, and no walk
  told_step : {v' w' : View} (t t' : Told) → Stays v v' → Stays w w' → t ≡ t' → Known v.book.meaning w.book.meaning v.edition t t' →
      Stepped v' w' past t t'
  told_step t t' a b e known = stays_step t t' editions twins a b (ap sight e) known

  ended_step : {v' w' : View} (t t' : Told) (rules rules' : Rules) → Stays v v' → Stays w w' → t ≡ ended rules → t' ≡ ended rules' → rules' ≡ rules →
      Stepped v' w' past t t'
  ended_step t t' rules rules' a b e e' same =
      told_step t t' a b (e ∙ ap ended (sym same) ∙ sym e') (subst (λ (x : Told). Known v.book.meaning w.book.meaning v.edition x t') (sym e) tt)

  refused_step : {v' w' : View} {n n' : ℕ} (r : Refusal) (t t' : Told) → Refuses r t n v v' → Refuses r t' n' w w' → Stepped v' w' past t t'
  refused_step r t t' a b =
      told_step t t' (leaves_stays good a) (leaves_stays good' b) (a.tells ∙ sym b.tells)
      (subst (λ (x : Told). Known v.book.meaning w.book.meaning v.edition x t') (sym a.tells) tt)

  walking_step : {v' w' : View} (t t' : Told) (e e' : ℕ) (s s' : State) → Stays v v' → Stays w w' → t ≡ walking e s → t' ≡ walking e' s' →
      Walked v.book.meaning w.book.meaning v.edition e e' s s' → Stepped v' w' past t t'
  walking_step t t' e e' s s' a b is is' walked =
      stays_step t t' editions twins a b (ap sight is ∙ ap (λ (x : ℕ). sight (walking x s)) (sym walked.same) ∙ sym (ap sight is'))
      (subst (λ (x : Told). Known v.book.meaning w.book.meaning v.edition x t') (sym is)
      (subst (λ (x : Told). Known v.book.meaning w.book.meaning v.edition (walking e s) x) (sym is') walked))

  -- ---- readings

  whole_step : {v' w' : View} {n n' : ℕ} (text : List ℕ) (t t' : Told) → Reads (whole text) t n v v' → Reads (whole text) t' n' w w' → Stepped v' w' past t t'
  whole_step text t t' a b =
      let x = reads_stays good good.lawful.starts a in
      let y = reads_stays good' good'.lawful.starts b in
      ended_step t t' _ _ x.1 y.1 x.0 y.0 (met_same text)

  seek_step : {v' w' : View} (rest : List ℕ) (place : ℕ) (t t' : Told) → Searches v.book.meaning v.book.meaning.next rest place t × Stays v v' →
      Searches w.book.meaning w.book.meaning.next rest place t' × Stays w w' → Stepped v' w' past t t'
  seek_step rest place t t' (a, x) (b, y) =
      told_step t t' x y (search_same v.book.meaning w.book.meaning met_same rest place t t' a b)
      (search_known v.book.meaning w.book.meaning v.edition v.book.meaning.next rest place t t' a)

  -- ---- walks

  begin_step : {v' w' : View} {n n' : ℕ} (t t' : Told) → Does begin t n v v' → Does begin t' n' w w' → Stepped v' w' past t t'
  begin_step t t' a b =
      walking_step t t' _ _ _ _ (leaves_stays good a) (leaves_stays good' b) a.tells b.tells
      (record { same = editions; old = le_refl _; fed = λ _. ([], refl, refl) })

  -- a walk that is one reader's is the other's
  ours_too : (e e' : ℕ) (s s' : State) → Has past (walking e s, walking e' s') → Ours v e s → Ours w e' s'
  ours_too e e' s s' h o =
      let k = twins.walks e e' s s' h in
      (k.same ∙ o.0 ∙ sym editions, (walk_within twins e e' s s' k o.0).1)

  ours_back : (e e' : ℕ) (s s' : State) → Has past (walking e s, walking e' s') → Ours w e' s' → Ours v e s
  ours_back e e' s s' h o =
      let k = twins.walks e e' s s' h in
      let at : e ≡ v.edition = sym k.same ∙ o.0 ∙ editions in
      (at, (walk_within twins e e' s s' k at).0)

  -- what is done with a walk, in both
  walk_step : {v' w' : View} {n n' : ℕ} (t t' : Told) (e e' : ℕ) (s s' : State) (D D' : Told → ℕ → View → View → Type 0) →
      Has past (walking e s, walking e' s') → (Ours v e s → Ours w e' s' → D t n v v' → D' t' n' w w' → Stepped v' w' past t t') →
      IfOurs e s D t n v v' → IfOurs e' s' D' t' n' w w' → Stepped v' w' past t t'
  walk_step t t' e e' s s' D D' h f (inl (o, a)) (inl (o', b)) = f o o' a b
  walk_step t t' e e' s s' D D' h f (inl (o, a)) (inr (out, b)) = absurd (out (ours_too e e' s s' h o))
  walk_step t t' e e' s s' D D' h f (inr (out, a)) (inl (o', b)) = absurd (out (ours_back e e' s s' h o'))
  walk_step t t' e e' s s' D D' h f (inr (out, a)) (inr (out', b)) = refused_step StaleWalk t t' a b

  feed_step : {v' w' : View} {n n' : ℕ} (t t' : Told) (e e' : ℕ) (s s' : State) (c : ℕ) → Has past (walking e s, walking e' s') →
      IfOurs e s (Reads (feed e s c)) t n v v' → IfOurs e' s' (Reads (feed e' s' c)) t' n' w w' → Stepped v' w' past t t'
  feed_step t t' e e' s s' c h =
      walk_step t t' e e' s s' (Reads (feed e s c)) (Reads (feed e' s' c)) h (λ o o' a b.
      let x = reads_stays good o.1 a in
      let y = reads_stays good' o'.1 b in
      walking_step t t' e e' _ _ x.1 y.1 x.0 y.0
      (fed_more v.book.meaning w.book.meaning v.edition e e' s s' c (twins.walks e e' s s' h) o.0))

  abbrev Finishes : State → Told → ℕ → View → View → Type 0
  Finishes s t n x y = Leaves t (ended (x.book.meaning.ended s)) n x y

  finish_step : {v' w' : View} {n n' : ℕ} (t t' : Told) (e e' : ℕ) (s s' : State) → Has past (walking e s, walking e' s') →
      IfOurs e s (Finishes s) t n v v' → IfOurs e' s' (Finishes s') t' n' w w' → Stepped v' w' past t t'
  finish_step t t' e e' s s' h =
      walk_step t t' e e' s s' (Finishes s) (Finishes s') h (λ o o' a b.
      let (text, is, is') = (twins.walks e e' s s' h).fed o.0 in
      ended_step t t' _ _ (leaves_stays good a) (leaves_stays good' b) a.tells b.tells
      (ap w.book.meaning.ended is' ∙ met_same text ∙ ap v.book.meaning.ended (sym is)))

  -- ---- changes

  -- accepted in both
  changed_step : {C D : Meaning → Meaning → Type 0} {ks ls : List Step} {v' w' : View} {n n' : ℕ} (t t' : Told) → Good v' → Good w' →
      Changes C ks t n v v' → Changes D ls t' n' w w' → Additive v'.book.meaning → Additive w'.book.meaning →
      SameRules v'.book.meaning w'.book.meaning → Stepped v' w' past t t'
  changed_step {v' = v'} {w'} t t' g g' a b additive additive' same = record {
    shows = ap sight a.tells ∙ ap (λ (x : ℕ). sight (changed (x + 1))) (sym editions) ∙ sym (ap sight b.tells);
    good = (g, g');
    editions = b.edition ∙ ap (λ (x : ℕ). x + 1) editions ∙ sym a.edition;
    twins = record {
      lawful = (g.lawful, g'.lawful);
      additive = (additive, additive');
      same = same;
      walks = λ e e' s s' h. elim h [
        | inl x ↦ absurd (no_walk e s (sym a.tells ∙ ap (λ (p : Told × Told). p.0) x))
        | inr x ↦ (let k = twins.walks e e' s s' x in let up = a.edition in record { same = k.same; old = omega (arith, k.old); fed = λ at. absurd (omega (arith, k.old)) })
      ];
    };
  }
    where
      no_walk : {x : ℕ} (e : ℕ) (s : State) → changed x ≡ walking e s → ⊥
      no_walk e s h = let z : ◌≡◌ {A = ℕ} 0 1 = cc in omega arith

  -- a change of one and the same rule
  change_step : {P Q : BookFault → Type 0} {C D : Meaning → Meaning → Type 0} {ks ls : List Step} {v' w' : View} {n n' : ℕ} (t t' : Told) → Good v' → Good w' →
      ((f g : BookFault) → P f → Q g → f ≡ g) → ((f : BookFault) → P f → D w.book.meaning w'.book.meaning → ⊥) →
      ((f : BookFault) → Q f → C v.book.meaning v'.book.meaning → ⊥) →
      (Changes C ks t n v v' → Changes D ls t' n' w w' → Stepped v' w' past t t') →
      ChangesOr P C ks t n v v' → ChangesOr Q D ls t' n' w w' → Stepped v' w' past t t'
  change_step t t' g g' one clash clash' both (inl (x, a)) (inl (y, b)) = refused_step LastEdition t t' a b
  change_step t t' g g' one clash clash' both (inl (x, a)) (inr (inl (y, b))) = absurd (omega arith)
  change_step t t' g g' one clash clash' both (inl (x, a)) (inr (inr b)) = let r = b.room in absurd (omega arith)
  change_step t t' g g' one clash clash' both (inr (inl (x, a))) (inl (y, b)) = absurd (omega arith)
  change_step {w' = w'} {n' = n'} t t' g g' one clash clash' both (inr (inl (x, (f, p, a)))) (inr (inl (y, (f', q, b)))) =
      refused_step (Book f) t t' a (subst (λ (z : BookFault). Refuses (Book z) t' n' w w') (sym (one f f' p q)) b)
  change_step t t' g g' one clash clash' both (inr (inl (x, (f, p, a)))) (inr (inr b)) = absurd (clash f p b.book.meaning)
  change_step t t' g g' one clash clash' both (inr (inr a)) (inl (y, b)) = let r = a.room in absurd (omega arith)
  change_step t t' g g' one clash clash' both (inr (inr a)) (inr (inl (y, (f, q, b)))) = absurd (clash' f q a.book.meaning)
  change_step t t' g g' one clash clash' both (inr (inr a)) (inr (inr b)) = both a b

  add_step : {v' w' : View} {n n' : ℕ} (last r k : ℕ) (bytes : List ℕ) (t t' : Told) → Good v' → Good w' →
      ExpressionActs last (add r k bytes) t n v v' → ExpressionActs last (add r k bytes) t' n' w w' → Stepped v' w' past t t'
  add_step {v'} {w'} last r k bytes t t' g g' =
      change_step t t' g g' (λ f f' p q. one f f' (sym p ∙ sym asks ∙ q)) (λ f p b. none f (sym p ∙ sym asks ∙ b.passed)) (λ f q a. none f (sym q ∙ asks ∙ a.passed))
      (λ a b. changed_step t t' g g' a b a.book.meaning.grown.additive b.book.meaning.grown.additive
      (added_same v.book.meaning w.book.meaning v'.book.meaning w'.book.meaning twins.same last r k bytes
      a.book.meaning b.book.meaning))
    where
      asks : refusal last w.book.meaning r k bytes ≡ refusal last v.book.meaning r k bytes
      asks = refusal_same v.book.meaning w.book.meaning twins.lawful.0 twins.lawful.1 twins.same last r k bytes

      one : (f f' : BookFault) → ◌≡◌ {A = Option BookFault} (Some f) (Some f') → f ≡ f'
      one f f' h = cc

      none : (f : BookFault) → ◌≡◌ {A = Option BookFault} (Some f) None → ⊥
      none f h = let z : ◌≡◌ {A = ℕ} 0 1 = cc in omega arith

  delete_step : {v' w' : View} {n n' : ℕ} (last r : ℕ) (t t' : Told) → Good v' → Good w' →
      ExpressionActs last (delete r) t n v v' → ExpressionActs last (delete r) t' n' w w' → Stepped v' w' past t t'
  delete_step {v'} {w'} last r t t' g g' =
      change_step t t' g g' (λ f f' p q. p.0 ∙ sym q.0) (λ f p b. both_ways _ (out.1 p.1) b.deleted.before)
      (λ f q a. both_ways _ (out.0 q.1) a.deleted.before)
      (λ a b. changed_step t t' g g' a b a.book.meaning.shrunk.additive b.book.meaning.shrunk.additive
      (deleted_same v.book.meaning w.book.meaning v'.book.meaning w'.book.meaning twins.same r
      a.book.meaning b.book.meaning))
    where
      -- out of force in one, out of force in the other
      out : (is_some (w.book.meaning.kind r) ≡ false → is_some (v.book.meaning.kind r) ≡ false)
          × (is_some (v.book.meaning.kind r) ≡ false → is_some (w.book.meaning.kind r) ≡ false)
      out = let same = ap is_some (twins.same.kinds r) in (λ h. sym same ∙ h, λ h. same ∙ h)

  -- ---- every call

  pub call_step : {v' w' : View} {c c' : Call} (last n n' : ℕ) (t t' : Told) → SameCall past c c' → ExpressionActs last c t n v v' → ExpressionActs last c' t' n' w w' →
      Stepped v' w' past t t'
  call_step last n n' t t' (wholes text) a b = whole_step text t t' a b
  call_step last n n' t t' (tokens text place) a b =
      seek_step (drop place text) place t t' (reads_stays good good.lawful.starts a) (reads_stays good' good'.lawful.starts b)
  call_step last n n' t t' (peeks text place) a b =
      seek_step (drop place text) place t t' (reads_stays good good.lawful.starts a) (reads_stays good' good'.lawful.starts b)
  call_step last n n' t t' begins a b = begin_step t t' a b
  call_step last n n' t t' (feeds e e' s s' c h) a b = feed_step t t' e e' s s' c h a b
  call_step last n n' t t' (finishes e e' s s' h) a b = finish_step t t' e e' s s' h a b
  call_step {v'} {w'} last n n' t t' (adds r k bytes) a b =
      add_step last r k bytes t t' (traces (add r k bytes) good (run_does last (add r k bytes) t n v v' a)).good
      (traces (add r k bytes) good' (run_does last (add r k bytes) t' n' w w' b)).good a b
  call_step {v'} {w'} last n n' t t' (deletes r) a b =
      delete_step last r t t' (traces (delete r) good (run_does last (delete r) t n v v' a)).good
      (traces (delete r) good' (run_does last (delete r) t' n' w w' b)).good a b
