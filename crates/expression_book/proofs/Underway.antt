-- Between two commands of a run that spells an expression. Assumes nothing.
use Rattle.std.proofs.Common.{◌≡◌, ℕ, zero, suc, ◌+◌, ◌-◌, ◌<◌, ◌≤◌, true, List, [], ◌∷◌, length, get_or, take, drop, is_some, IsOk, None, Ok, Err, Option, Result, sym, refl, ap, ◌∙◌, subst, inl, inr, le_refl, arith, rules}
use Rattle.std.proofs.lemmas.List.{nil_from_length}
use Rattle.std.proofs.lemmas.Bool.{and_parts}
use Rattle.std.specs.Borrow.{Bor}
use Rattle.states.specs.Sets.{has, size}
use Rattle.books.specs.declared.faults.Cause.{Cause}
use Rattle.expressions.specs.declared.command.Command.{Command}
use Rattle.expressions.specs.Expression.{Labelled, Plain, symbols}
use Rattle.expressions.specs.Positions.{Owns}
use Rattle.expressions.specs.Commands.{adds, decoded, Decodes, applied, alone, turn, read, read_all}
use Rattle.expressions.specs.Rules.{needed}
use Rattle.expressions.proofs.Owned.{first_owned, last_owned}
use Rattle.expressions.proofs.Steps.{passes}
use Rattle.expressions.proofs.Words.{total, total_applied}
use Rattle.expressions.proofs.Runs.{decoded_less, read_on}
use Rattle.expressions.proofs.Turns.{Onward, Front, onward, refused_at}
use Rattle.expression_book.specs.declared.part.Part.{Part}
use Rattle.expression_book.specs.declared.table.Table.{Table}
use Rattle.expression_book.specs.Tables.{table_meaning, owns}
use Rattle.expression_book.specs.Building.{AllShow, Any, taken, Building, AllWithin, Ready, Roomy}
use Rattle.expression_book.specs.Laws.{mine}
use Rattle.expression_book.proofs.Built.{build_none}
use Rattle.expression_book.proofs.Obeyed.{as_many}

-- an answer is not also a fault
not_both : {X Y : Type 0} (r : Result X Y) (x : X) (y : Y) → r ≡ Ok x → r ≡ Err y → ⊥
not_both r x y p q = let z : ◌≡◌ {A = ℕ} 0 1 = cc in omega arith

-- one expression is left at the end
pub only_one : (size : ℕ) (W : List Plain) (e : Plain) → alone size W ≡ Ok e → W ≡ e ∷ []
only_one size [] e h = absurd (not_both _ e _ h refl)
only_one size (x ∷ []) e h = ap (λ (y : Plain). y ∷ []) cc
only_one size (x ∷ y ∷ W) e h = absurd (not_both _ e _ h refl)

-- what waits has no more symbols than what the run spells
pub no_more_symbols : (last size n : ℕ) (W : List Plain) (w : List ℕ) (e : Plain) → length w ≤ n → read last size (length w) W w ≡ Ok e → total W ≤ symbols e
no_more_symbols last size n W [] e l h = let is = only_one size W e h in omega (arith, ap total is)
no_more_symbols last size zero W (b ∷ w) e l h = absurd (omega arith)
no_more_symbols last size (suc n) W (b ∷ w) e l h = on (λ V v. no_more_symbols last size n V v e) (decoded last (length W) b w) refl
  where
    on : ((V : List Plain) (v : List ℕ) → length v ≤ n → read last size (length v) V v ≡ Ok e → total V ≤ symbols e)
        → (s : Result (Command × List ℕ) Cause) → decoded last (length W) b w ≡ s → total W ≤ symbols e
    on f (Err q) is = absurd (not_both _ e _ h (ap (turn (read last size (length w)) W (size - suc (length w))) is))
    on f (Ok s) is =
        let fewer = decoded_less last W b w s.0 s.1 is in
        let later = f (applied s.0 W) s.1 (omega arith) (sym (read_on last size W b w s.0 s.1 is) ∙ h) in
        omega (arith, total_applied s.0 W (passes last (length W) b w s.0 s.1 is).enough)

-- The bytes spell e. With `rest` to come the expressions W wait, and reading on from there comes to e.
pub record Underway (last : ℕ) (bytes : List ℕ) (r : ℕ) (a : Table) (rest : List ℕ) (parts : List Part) (t : Table) : Type 0 where
  pub expression : Plain
  pub spelled : read_all last bytes ≡ Ok expression
  pub room : size a.live + needed (symbols expression) ≤ 256
  pub waits : List Plain
  pub onward : read last (length bytes) (length rest) waits rest ≡ Ok expression
  pub built : Building a r waits parts t
  pub count : size t.live ≡ size a.live + total waits

module _ (t : Table) (r : ℕ) (own : ℕ → Type 0) (mine : (p : ℕ) → own p → owns t r p ≡ true) where
  all_within : (ks : List Part) (es : List Labelled) → ((p : ℕ) → Any (λ e. Owns e p) es → own p) → AllShow ks es → AllWithin t r ks
  all_within [] [] f s = tt
  all_within [] (e ∷ es) f s = absurd s
  all_within (k ∷ ks) [] f s = absurd s
  all_within (k ∷ ks) (e ∷ es) f (s, ss) = (
    record {
      first = λ p h. mine p (f p (inl (first_owned e p ((s.first p).0 h))));
      last = λ p h. mine p (f p (inl (last_owned e p ((s.last p).0 h))));
    },
    all_within ks es (λ p o. f p (inr o)) ss,
  )

-- the next command can be obeyed
pub ready : (last : ℕ) (bytes : List ℕ) (r : ℕ) (a : Table) (rest : List ℕ) (parts : List Part) (t : Table) (c : Command) (v : List ℕ)
    → (u : Underway last bytes r a rest parts t) → length parts ≤ 40 → is_some ((table_meaning a).kind r) ≡ true → Onward last (length bytes) rest u.waits c v → Ready r c parts t
ready last bytes r a rest parts t c v u most force on =
    let b = u.built in
    let many = as_many a r u.waits parts t b in
    let later = no_more_symbols last (length bytes) (length v) (applied c u.waits) v u.expression (le_refl (length v)) (sym on.same ∙ u.onward) in
    record {
      enough = omega (arith, on.enough);
      few = λ z. omega (arith, on.few z);
      most = most;
      free = λ z. omega (arith, u.room, u.count, on.symbols_after);
      force = ap (λ (ks : List (Option ℕ)). is_some (get_or ks r None)) b.beside.holds.kinds ∙ force;
      within = all_within t r (λ p. taken a t p ≡ true) (λ p h. (mine t p r).1 ((and_parts (has t.live p) _ h).0, b.beside.rule p h)) parts b.waiting (λ p o. (b.rows.used p).1 o) b.shown;
    }

-- ---- the turns

module _ (last : ℕ) (bytes : List ℕ) (r : ℕ) (a : Table) (rest : List ℕ) (ps : List Part) (t : Table) (n : ℕ) (u : Underway last bytes r a rest ps t)
    (many : n ≡ length ps) (some : 0 < length rest) where
  waiting : length u.waits ≡ n
  waiting = as_many a r u.waits ps t u.built ∙ sym many

  turned : (c : Command) (v : List ℕ) → Front last n rest (Ok (c, v)) → Onward last (length bytes) rest u.waits c v
  turned c v front = onward last (length bytes) n rest u.waits c v waiting some front

  -- a command that is refused would end the reading
  never_refused : (q : Cause) → Front last n rest (Err q) → ⊥
  never_refused q front = not_both _ u.expression _ u.onward (refused_at last (length bytes) n rest u.waits q waiting some front)

  -- so the step is accepted, and the reading goes on behind it
  pub accepted : (s : Result (Command × Bor (List ℕ)) Cause) → Decodes last n (get_or rest 0 0) (take (length rest - 1) (drop 1 rest)) s → IsOk s
  accepted (Ok x) d = search rules
  accepted (Err q) d = absurd (never_refused q d)

  pub turned_by : (s : Result (Command × Bor (List ℕ)) Cause) → Decodes last n (get_or rest 0 0) (take (length rest - 1) (drop 1 rest)) s
      → (x : Command × Bor (List ℕ)) → s ≡ Ok x → Onward last (length bytes) rest u.waits x.0 x.1.now
  turned_by s d x is = turned x.0 x.1.now (subst (λ y. Decodes last n (get_or rest 0 0) (take (length rest - 1) (drop 1 rest)) y) is d)

pub underway_none : (last : ℕ) (bytes : List ℕ) (r : ℕ) (a : Table) (parts : List Part) → parts ≡ [] → Roomy last bytes a → Underway last bytes r a bytes parts a
underway_none last bytes r a parts none (e, spelled, room) = record {
  expression = e;
  spelled = spelled;
  room = room;
  waits = [];
  onward = spelled;
  built = subst (λ (ks : List Part). Building a r [] ks a) (sym none) (build_none a r);
  count = omega arith;
}

pub underway_more : (last : ℕ) (bytes : List ℕ) (r : ℕ) (a : Table) (rest : List ℕ) (ps qs : List Part) (t t' : Table) (c : Command) (v : List ℕ)
    → (u : Underway last bytes r a rest ps t) → Onward last (length bytes) rest u.waits c v
    → Building a r (applied c u.waits) qs t' → size t'.live ≡ size t.live + adds c → Underway last bytes r a v qs t'
underway_more last bytes r a rest ps qs t t' c v u on built count = record {
  expression = u.expression;
  spelled = u.spelled;
  room = u.room;
  waits = applied c u.waits;
  onward = sym on.same ∙ u.onward;
  built = built;
  count = omega (arith, u.count, on.symbols_after);
}

-- at the end the expression waits alone
pub at_end : (last : ℕ) (bytes : List ℕ) (r : ℕ) (a : Table) (rest : List ℕ) (ps : List Part) (t : Table) (u : Underway last bytes r a rest ps t)
    → length rest ≡ 0 → u.waits ≡ u.expression ∷ []
at_end last bytes r a [] ps t u none = only_one (length bytes) u.waits u.expression u.onward
at_end last bytes r a (b ∷ rest) ps t u none = absurd (omega arith)

-- and so does its part
pub ended : (last : ℕ) (bytes : List ℕ) (r : ℕ) (a : Table) (rest : List ℕ) (ps qs : List Part) (k : Part) (t : Table) (u : Underway last bytes r a rest ps t)
    → length rest ≡ 0 → ps ≡ k ∷ qs → (e : Plain) → read_all last bytes ≡ Ok e
    → Building a r (e ∷ []) (k ∷ []) t × (size t.live ≡ size a.live + symbols e)
ended last bytes r a rest ps qs k t u none top e spelled =
    let is : u.expression ≡ e = same u.spelled spelled in
    let waits : u.waits ≡ e ∷ [] = at_end last bytes r a rest ps t u none ∙ ap (λ (x : Plain). x ∷ []) is in
    let alone : qs ≡ [] = nil_from_length qs (omega (arith, as_many a r u.waits ps t u.built, ap length waits, ap length top)) in (
      subst (λ (W : List Plain). Building a r W (k ∷ []) t) waits
          (subst (λ (ks : List Part). Building a r u.waits ks t) (top ∙ ap (λ (ks : List Part). k ∷ ks) alone) u.built),
      omega (arith, u.count, ap total waits),
    )
  where
    same : {x y : Plain} → read_all last bytes ≡ Ok x → read_all last bytes ≡ Ok y → x ≡ y
    same p q = cc
