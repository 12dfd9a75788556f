-- Steps whose codes stand in one list, and their states in another. Assumes nothing.
use Rattle.std.proofs.Common.{◌≡◌, ℕ, ◌+◌, ◌<◌, Bool, true, false, List, [], ◌∷◌, ◌++◌, length, get_or, drop, filter, cond, Some, refl, sym, ap, ◌∙◌, arith}
use Rattle.std.proofs.lemmas.List.{at_drop_more, get_or-map, length-map}
use Rattle.std.proofs.lemmas.Slice.Zip.{length-zip, get_or-zip}
use Rattle.std.specs.List.{items_where_true, zip}
use Rattle.std.specs.List.Retain.{ReturnsInTurn, IsFiltered}
use Rattle.states.specs.Sets.{State, nothing}
use Rattle.kept.specs.declared.kept.Move.{Move}
use Rattle.kept.specs.Steps.{step, from, found, zipped}

abbrev pub no_move : Move
no_move = record { state = nothing; next = nothing }

pub length_zipped : (cs : List ℕ) (ms : List Move) → length ms ≡ length cs → length (zipped cs ms) ≡ length cs
unfolding zipped
length_zipped cs ms e = length-map (zip cs ms) (λ p. step p.1.state p.0 p.1.next) ∙ omega (arith, length-zip cs ms)

pub zipped_push : (cs : List ℕ) (ms : List Move) (c : ℕ) (m : Move) → length ms ≡ length cs → zipped (cs ++ c ∷ []) (ms ++ m ∷ []) ≡ zipped cs ms ++ step m.state c m.next ∷ []
unfolding zipped
zipped_push [] [] c m e = refl
zipped_push [] (n ∷ ms) c m e = absurd (omega arith)
zipped_push (d ∷ cs) [] c m e = absurd (omega arith)
zipped_push (d ∷ cs) (n ∷ ms) c m e = ap (λ xs. step n.state d n.next ∷ xs) (zipped_push cs ms c m (omega arith))

-- one place on, in a search of what is left
pub found_at : (cs : List ℕ) (ms : List Move) → length ms ≡ length cs → (s : State) (c i : ℕ) → i < length cs → found (drop i (zipped cs ms)) s c
    ≡ cond (from (step (get_or ms i no_move).state (get_or cs i 0) (get_or ms i no_move).next) s c) (Some (get_or ms i no_move).next) (found (drop (i + 1) (zipped cs ms)) s c)
unfolding zipped found
found_at cs ms e s c i h =
    at_drop_more (λ ks. found ks s c) (zipped cs ms) i (step nothing 0 nothing) (omega (arith, length_zipped cs ms e))
    ∙ ap (λ k. found (k ∷ drop (i + 1) (zipped cs ms)) s c)
    (get_or-map (λ p. step p.1.state p.0 p.1.next) (zip cs ms) i (0, no_move) (step nothing 0 nothing) (omega (arith, length-zip cs ms))
    ∙ ap (λ (p : ℕ × Move). step p.1.state p.0 p.1.next) (get_or-zip cs ms i (0, no_move) h (omega arith)))

-- codes that stay by a test that takes the moves in turn, and the moves by the same test
module _ {F : Type 0} (p : State → Bool) (R : F → ℕ → Bool → F → Type 0) (I : F → List Move → Type 0)
    (one : (f : F) (c : ℕ) (b : Bool) (f' : F) (m : Move) (ms : List Move) → R f c b f' → I f (m ∷ ms) → (b ≡ p m.state) × I f' ms) where
  told_where : (f q : F) (bs : List Bool) (cs : List ℕ) (ms : List Move) → I f ms → length bs ≡ length cs → length ms ≡ length cs → ReturnsInTurn R f bs cs q
      → (length (filter (λ m. p m.state) ms) ≡ length (items_where_true bs cs))
      × (zipped (items_where_true bs cs) (filter (λ m. p m.state) ms) ≡ filter (λ x. p x.state) (zipped cs ms))
  unfolding zipped
  told_where f q [] [] [] i l e t = (refl, refl)
  told_where f q [] [] (m ∷ ms) i l e t = absurd (omega arith)
  told_where f q [] (c ∷ cs) ms i l e t = absurd (omega arith)
  told_where f q (b ∷ bs) [] ms i l e t = absurd (omega arith)
  told_where f q (b ∷ bs) (c ∷ cs) [] i l e t = absurd (omega arith)
  told_where f q (true ∷ bs) (c ∷ cs) (m ∷ ms) i l e (j, r, t) =
      let h = one f c true j m ms r i in
      let rest = told_where j q bs cs ms h.1 (omega arith) (omega arith) t in
      rw (sym h.0) (omega (arith, rest.0), ap (λ xs. step m.state c m.next ∷ xs) rest.1)
  told_where f q (false ∷ bs) (c ∷ cs) (m ∷ ms) i l e (j, r, t) =
      let h = one f c false j m ms r i in
      rw (sym h.0) (told_where j q bs cs ms h.1 (omega arith) (omega arith) t)

  pub zipped_where : (f : F) (cs cs' : List ℕ) (ms ms' : List Move) → length ms ≡ length cs → I f ms → IsFiltered R f cs cs' → ms' ≡ filter (λ m. p m.state) ms
      → (length ms' ≡ length cs') × (zipped cs' ms' ≡ filter (λ x. p x.state) (zipped cs ms))
  zipped_where f cs cs' ms ms' e i (told, last, long, in_turn, left) stay =
      let h = told_where f last told cs ms i long e in_turn in
      (ap length stay ∙ h.0 ∙ sym (ap length left), (λ j. zipped (left j) (stay j)) ∙ h.1)
