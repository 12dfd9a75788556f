-- A run of commands is read exactly as it is spelled, and refused where it stops. Assumes nothing.
use Rattle.std.proofs.Common.{◌≡◌, ℕ, zero, suc, ◌+◌, ◌-◌, ◌<◌, ◌≤◌, ◌↔◌, List, [], ◌∷◌, ◌++◌, length, take, Ok, Err, Result, sym, refl, ap, ◌∙◌, subst, append_assoc, append-nil, le_refl, arith, length-append, take-append-drop}
use Rattle.books.specs.declared.faults.Cause.{Cause}
use Rattle.books.specs.declared.faults.Cause.TheVariants.{NotOne}
use Rattle.books.specs.declared.faults.CommandFault.{CommandFault}
use Rattle.expressions.specs.declared.command.Command.{Command}
use Rattle.expressions.specs.declared.command.Command.TheVariants.{Empty, Symbol, Join, Either, Star, Plus, Optional}
use Rattle.expressions.specs.Expression.{empty, symbol, join, either, star, plus, optional, Plain, symbols}
use Rattle.expressions.specs.Commands.{width, takes, most, decoded, applied, alone, turn, read, read_all, counted, Spells, room, Leaves, Stops, Accepted, Refused, Judged}
use Rattle.expressions.proofs.Steps.{passes}
use Rattle.expressions.proofs.Words.{Word, word_of, word_decoded, leaves_applied}

-- ---- a command that is obeyed

-- Behind a run that leaves W, the bytes of the command leave what then waits; they are in front of what is left.
obeyed : (last : ℕ) (W : List Plain) (b : ℕ) (rest : List ℕ) (c : Command) (v : List ℕ) → decoded last (length W) b rest ≡ Ok (c, v) →
    (x : List ℕ) × (rest ≡ x ++ v) × ((p : List ℕ) → Leaves last W p → Leaves last (applied c W) (p ++ (b ∷ x)))
obeyed last W b rest c v e =
    let k = passes last (length W) b rest c v e in (
      take (width b) rest,
      sym (take-append-drop (width b) rest) ∙ ap (λ z. take (width b) rest ++ z) k.behind,
      λ p l. leaves_applied last c W p _ k.enough k.few l (word_of last b rest c k.is k.operands k.codes),
    )

-- fewer bytes are left
pub decoded_less : (last : ℕ) (W : List Plain) (b : ℕ) (rest : List ℕ) (c : Command) (v : List ℕ) → decoded last (length W) b rest ≡ Ok (c, v) →
    length v ≤ length rest
decoded_less last W b rest c v e = let (x, at, f) = obeyed last W b rest c v e in omega (arith, ap length at, length-append x v)

-- more turns than bytes change nothing
enough : (last size n m : ℕ) (W : List Plain) (rest : List ℕ) → length rest ≤ n → length rest ≤ m → read last size n W rest ≡ read last size m W rest
enough last size zero zero W rest h k = refl
enough last size zero (suc m) W [] h k = refl
enough last size zero (suc m) W (b ∷ rest) h k = absurd (omega arith)
enough last size (suc n) zero W [] h k = refl
enough last size (suc n) zero W (b ∷ rest) h k = absurd (omega arith)
enough last size (suc n) (suc m) W [] h k = refl
enough last size (suc n) (suc m) W (b ∷ rest) h k = on (λ V v. enough last size n m V v) (decoded last (length W) b rest) refl
  where
    on : ((V : List Plain) (v : List ℕ) → length v ≤ n → length v ≤ m → read last size n V v ≡ read last size m V v) →
        (s : Result (Command × List ℕ) Cause) → decoded last (length W) b rest ≡ s →
        turn (read last size n) W (size - suc (length rest)) s ≡ turn (read last size m) W (size - suc (length rest)) s
    on f (Err q) is = refl
    on f (Ok s) is =
        let l = decoded_less last W b rest s.0 s.1 is in
        f (applied s.0 W) s.1 (omega arith) (omega arith)

-- one command on, the reading is the same
pub read_on : (last size : ℕ) (W : List Plain) (b : ℕ) (rest : List ℕ) (c : Command) (v : List ℕ) → decoded last (length W) b rest ≡ Ok (c, v) →
    read last size (length (b ∷ rest)) W (b ∷ rest) ≡ read last size (length v) (applied c W) v
read_on last size W b rest c v is =
    ap (turn (read last size (length rest)) W (size - suc (length rest))) is
    ∙ enough last size (length rest) (length v) (applied c W) v (decoded_less last W b rest c v is) (le_refl (length v))

-- ---- what is spelled is read

-- the run x leads from W waiting to V waiting
abbrev ReadsTo : ℕ → ℕ → List Plain → List Plain → List ℕ → List ℕ → Type 0
ReadsTo last size W V x rest = read last size (length (x ++ rest)) W (x ++ rest) ≡ read last size (length rest) V rest

word_read : (last size : ℕ) (c : Command) (W : List Plain) (x rest : List ℕ) → takes c ≤ length W → (takes c ≡ 0 → length W < most) → Word last c x →
    ReadsTo last size W (applied c W) x rest
word_read last size c W x rest h few w =
    let (b, y, e, f) = word_decoded last (length W) c x h few w in
    ap (λ z. read last size (length (z ++ rest)) W (z ++ rest)) e ∙ read_on last size W b (y ++ rest) c rest (f rest)

-- one run behind another
then_read : (last size : ℕ) (W V U : List Plain) (x y z rest : List ℕ) → x ≡ y ++ z → ReadsTo last size W V y (z ++ rest) → ReadsTo last size V U z rest →
    ReadsTo last size W U x rest
then_read last size W V U x y z rest e f g =
    ap (λ w. read last size (length w) W w) (ap (λ w. w ++ rest) e ∙ append_assoc y z rest) ∙ f ∙ g

spells_read : (last size : ℕ) (e : Plain) (W : List Plain) (x rest : List ℕ) → Spells last e x → room e + length W ≤ most → ReadsTo last size W (e ∷ W) x rest
spells_read last size empty W x rest s r = word_read last size Empty W x rest (omega arith) (λ _. omega arith) s
spells_read last size (symbol l low high) W x rest s r = word_read last size (Symbol (record { low = low; high = high })) W x rest (omega arith) (λ _. omega arith) s
spells_read last size (join a b) W x rest (y, z, e, g, (u, v, e', g', k)) r =
    then_read last size W (a ∷ W) (join a b ∷ W) x y z rest e (spells_read last size a W y (z ++ rest) g (omega arith))
    (then_read last size (a ∷ W) (b ∷ a ∷ W) (join a b ∷ W) z u v rest e' (spells_read last size b (a ∷ W) u (v ++ rest) g' (omega arith))
    (word_read last size Join (b ∷ a ∷ W) v rest (omega arith) (λ t. absurd (omega arith)) k))
spells_read last size (either a b) W x rest (y, z, e, g, (u, v, e', g', k)) r =
    then_read last size W (a ∷ W) (either a b ∷ W) x y z rest e (spells_read last size a W y (z ++ rest) g (omega arith))
    (then_read last size (a ∷ W) (b ∷ a ∷ W) (either a b ∷ W) z u v rest e' (spells_read last size b (a ∷ W) u (v ++ rest) g' (omega arith))
    (word_read last size Either (b ∷ a ∷ W) v rest (omega arith) (λ t. absurd (omega arith)) k))
spells_read last size (star a) W x rest (y, z, e, g, k) r =
    then_read last size W (a ∷ W) (star a ∷ W) x y z rest e (spells_read last size a W y (z ++ rest) g r)
    (word_read last size Star (a ∷ W) z rest (omega arith) (λ t. absurd (omega arith)) k)
spells_read last size (plus a) W x rest (y, z, e, g, k) r =
    then_read last size W (a ∷ W) (plus a ∷ W) x y z rest e (spells_read last size a W y (z ++ rest) g r)
    (word_read last size Plus (a ∷ W) z rest (omega arith) (λ t. absurd (omega arith)) k)
spells_read last size (optional a) W x rest (y, z, e, g, k) r =
    then_read last size W (a ∷ W) (optional a ∷ W) x y z rest e (spells_read last size a W y (z ++ rest) g r)
    (word_read last size Optional (a ∷ W) z rest (omega arith) (λ t. absurd (omega arith)) k)

leaves_read : (last size : ℕ) (W : List Plain) (p rest : List ℕ) → Leaves last W p → ReadsTo last size [] W p rest
leaves_read last size [] p rest e = ap (λ w. read last size (length (w ++ rest)) [] (w ++ rest)) e
leaves_read last size (a ∷ W) p rest (r, (x, y, e, h, s)) =
    then_read last size [] W (a ∷ W) p x y rest e (leaves_read last size W x (y ++ rest) h) (spells_read last size a W y rest s r)

-- ---- what is read is spelled

-- what an outcome says of a run
abbrev Means : ℕ → List ℕ → Result Plain CommandFault → Type 0
Means last w (Ok e) = Leaves last (e ∷ []) w
Means last w (Err f) = Refused last f w

end_means : (last size : ℕ) (W : List Plain) (p : List ℕ) → size ≡ length (p ++ []) → Leaves last W p → Means last (p ++ []) (alone size W)
end_means last size [] p e h = (p, [], [], refl, e ∙ ap length (append-nil p), h, (refl, λ x k. omega (arith, ap length k)))
end_means last size (a ∷ []) p e h = subst (Leaves last (a ∷ [])) (sym (append-nil p)) h
end_means last size (a ∷ b ∷ W) p e h = (p, [], a ∷ b ∷ W, refl, e ∙ ap length (append-nil p), h, (refl, λ x k. omega (arith, ap length k)))

means : (last size n : ℕ) (W : List Plain) (p rest : List ℕ) → length rest ≤ n → size ≡ length (p ++ rest) → Leaves last W p →
    Means last (p ++ rest) (read last size n W rest)
means last size zero W p [] l e h = end_means last size W p e h
means last size zero W p (b ∷ rest) l e h = absurd (omega arith)
means last size (suc n) W p [] l e h = end_means last size W p e h
means last size (suc n) W p (b ∷ rest) l e h = on (λ V q v. means last size n V q v) (decoded last (length W) b rest) refl
  where
    on : ((V : List Plain) (q v : List ℕ) → length v ≤ n → size ≡ length (q ++ v) → Leaves last V q → Means last (q ++ v) (read last size n V v)) →
        (s : Result (Command × List ℕ) Cause) → decoded last (length W) b rest ≡ s →
        Means last (p ++ (b ∷ rest)) (turn (read last size n) W (size - suc (length rest)) s)
    on f (Err q) is = (p, b ∷ rest, W, refl, omega (arith, length-append p (b ∷ rest)), h, is)
    on f (Ok s) is =
        let (x, at, g) = obeyed last W b rest s.0 s.1 is in
        let same : (p ++ (b ∷ x)) ++ s.1 ≡ p ++ (b ∷ rest) = append_assoc p (b ∷ x) s.1 ∙ ap (λ w. p ++ (b ∷ w)) (sym at) in
        subst (λ w. Means last w (read last size n (applied s.0 W) s.1)) same
        (f (applied s.0 W) (p ++ (b ∷ x)) s.1 (omega (arith, ap length at, length-append x s.1)) (e ∙ ap length (sym same)) (g p h))

all_means : (last : ℕ) (w : List ℕ) → Means last w (read_all last w)
all_means last w = means last (length w) (length w) [] [] w (le_refl (length w)) refl refl

-- ---- both ways

leaves_accepted : (last : ℕ) (e : Plain) (w : List ℕ) → Leaves last (e ∷ []) w → Accepted last e w
leaves_accepted last e w (r, (u, v, at, none, s)) = (omega arith, subst (Spells last e) (sym (at ∙ ap (λ z. z ++ v) none)) s)

accepted_leaves : (last : ℕ) (e : Plain) (w : List ℕ) → Accepted last e w → Leaves last (e ∷ []) w
accepted_leaves last e w (r, s) = (omega arith, ([], w, refl, refl, s))

-- a run gives an expression exactly when it spells it, with at most 40 waiting
pub accepted_right : (last : ℕ) (w : List ℕ) (e : Plain) → read_all last w ≡ Ok e ↔ Accepted last e w
accepted_right last w e = (
  λ k. leaves_accepted last e w (subst (Means last w) k (all_means last w)),
  λ h. subst (λ z. read last (length w) (length z) [] z ≡ Ok e) (append-nil w) (leaves_read last (length w) (e ∷ []) w [] (accepted_leaves last e w h)),
)

not_one : (size : ℕ) (f : CommandFault) → size ≡ f.place → f.cause ≡ NotOne →
    ◌≡◌ {A = Result Plain CommandFault} (Err (record { cause = NotOne; place = size })) (Err f)
not_one size f n q =
    ap (λ (x : ℕ). Err (record { cause = NotOne; place = x })) n ∙ ap (λ (x : Cause). Err (record { cause = x; place = f.place })) (sym q)

stops : (last size : ℕ) (f : CommandFault) (W : List Plain) (u v : List ℕ) → size ≡ length (u ++ v) → f.place ≡ length u → Stops last f.cause W v →
    read last size (length v) W v ≡ Err f
stops last size f [] u [] e k (q, g) = not_one size f (e ∙ ap length (append-nil u) ∙ sym k) q
stops last size f (a ∷ []) u [] e k (q, g) = absurd (g a refl)
stops last size f (a ∷ b ∷ W) u [] e k (q, g) = not_one size f (e ∙ ap length (append-nil u) ∙ sym k) q
stops last size f W u (b ∷ rest) e k q =
    ap (turn (read last size (length rest)) W (size - suc (length rest))) q
    ∙ ap (λ (n : ℕ). Err (record { cause = f.cause; place = n })) (omega (arith, length-append u (b ∷ rest)))

-- a run has a fault exactly where it stops
pub refused_right : (last : ℕ) (w : List ℕ) (f : CommandFault) → read_all last w ≡ Err f ↔ Refused last f w
refused_right last w f = (
  λ k. subst (Means last w) k (all_means last w),
  λ (u, v, W, e, k, h, s).
      ap (λ z. read last (length w) (length z) [] z) e ∙ leaves_read last (length w) W u v h ∙ stops last (length w) f W u v (ap length e) k s,
)

-- the count of symbols, told by sets of runs
pub judged : (last : ℕ) (w : List ℕ) → Judged last w (counted (read_all last w))
judged last w = record { accepted = λ n. (to (read_all last w) refl n, from n); refused = λ f. (to_err (read_all last w) refl f, from_err f) }
  where
    to : (s : Result Plain CommandFault) → read_all last w ≡ s → (n : ℕ) → counted s ≡ Ok n → (e : Plain) × Accepted last e w × (symbols e ≡ n)
    to (Ok e) is n k = (e, (accepted_right last w e).0 is, cc)
    to (Err f) is n k = let z : ◌≡◌ {A = ℕ} 0 1 = cc in absurd (omega arith)

    from : (n : ℕ) → (e : Plain) × Accepted last e w × (symbols e ≡ n) → counted (read_all last w) ≡ Ok n
    from n (e, a, k) = ap counted ((accepted_right last w e).1 a) ∙ ap (λ (x : ℕ). Ok x) k

    to_err : (s : Result Plain CommandFault) → read_all last w ≡ s → (f : CommandFault) → counted s ≡ Err f → Refused last f w
    to_err (Ok e) is f k = let z : ◌≡◌ {A = ℕ} 0 1 = cc in absurd (omega arith)
    to_err (Err g) is f k = let same : g ≡ f = cc in (refused_right last w f).0 (is ∙ ap (λ (x : CommandFault). Err x) same)

    from_err : (f : CommandFault) → Refused last f w → counted (read_all last w) ≡ Err f
    from_err f r = ap counted ((refused_right last w f).1 r)

-- by the answer of the executable reading
pub judged_by : (last : ℕ) (w : List ℕ) (r : Result ℕ CommandFault) → r ≡ counted (read_all last w) → Judged last w r
judged_by last w r e = subst (Judged last w) (sym e) (judged last w)
