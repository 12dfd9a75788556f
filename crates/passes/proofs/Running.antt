-- Passing the lines of a script one after the other.
use Rattle.std.proofs.Common.{◌≡◌, ℕ, suc, ◌<◌, ◌≤◌, List, [], ◌∷◌, ◌++◌, length, Some, None, Option, sym, refl, inl, inr, ap, ◌∙◌, subst, append_assoc, append-nil, arith, length-append}
use Rattle.std.specs.Io.KnownBytes.{Appends as Grows}
use Rattle.std.proofs.KnownBytes.{Appends-nil, Appends-trans}
use Rattle.lines.specs.Parts.{Parts}
use Rattle.passes.specs.Scripts.{Place, Written, Running, Expecting, Passes, Goes, GoesToReport, stays, then, Appends, AppendsKnown, left}

parts_less : (mark : ℕ) (t v : List ℕ) (rest : Option (List ℕ)) → Parts mark t v rest → left rest < suc (length t)
parts_less mark t v None h = omega arith
parts_less mark t v (Some rest) h = let e = ap length h.1 ∙ length-append v (mark ∷ rest) in omega arith

pub passes_less : {V : Type 0} {runs : Running V} {unfit : Expecting V} (p q : Place V) (w : Written) → Passes runs unfit p q w → left q.rest < left p.rest
passes_less p q w h = subst (λ o. left q.rest < left o) (sym h.here) (parts_less 10 h.script h.line q.rest h.parts)

goes_less : {V : Type 0} {runs : Running V} {unfit : Expecting V} (p q : Place V) (w : Written) → Goes runs unfit p q w → left q.rest ≤ left p.rest
goes_less p q w stays = omega arith
goes_less p q w (then {q = r} {v = v} {w = u} g s) = let h = goes_less p r v g in let k = passes_less r q u s in omega arith

-- after a line more, less is left than at first
pub goes_passes_less : {V : Type 0} {runs : Running V} {unfit : Expecting V} (p q r : Place V) (v w : Written) → Goes runs unfit p q v → Passes runs unfit q r w → left r.rest < left p.rest
goes_passes_less p q r v w g s = let h = goes_less p q v g in let k = passes_less q r w s in omega arith

-- one line more is passed
goes_on : {V : Type 0} {runs : Running V} {unfit : Expecting V} (p q r : Place V) (a b c a' b' c' : List ℕ) → Appends (Goes runs unfit p q) a b a' b' → Appends (Passes runs unfit q r) b c b' c' → Appends (Goes runs unfit p r) a c a' c'
goes_on p q r a b c a' b' c' (v, e, f, g) (w, k, l, s) = (
  record { answers = v.answers ++ w.answers; reports = v.reports ++ w.reports },
  k ∙ ap (λ x. x ++ w.answers) e ∙ append_assoc a v.answers w.answers,
  l ∙ ap (λ x. x ++ w.reports) f ∙ append_assoc a' v.reports w.reports,
  then g s,
)

-- lines are passed, and none is reported
abbrev pub Quiet : {V : Type 0} → Running V → Expecting V → Place V → Place V → Written → Type 0
Quiet runs unfit p q w = Goes runs unfit p q w × (w.reports ≡ [])

nothing_appended : (a b : List ℕ) → [] ≡ a ++ b → b ≡ []
nothing_appended [] b e = sym e
nothing_appended (x ∷ a) b e = absurd (let z : ◌≡◌ {A = ℕ} 0 1 = cc in omega arith)

module _ {V : Type 0} {runs : Running V} {unfit : Expecting V} where
  pub quiet_nowhere : (p : Place V) (a b : List ℕ) → Appends (Quiet runs unfit p p) a a b b
  quiet_nowhere p a b = (record { answers = []; reports = [] }, sym (append-nil a), sym (append-nil b), (stays, refl))

  -- one line more is passed, behind which no report stands
  pub quiet_on : (p q r : Place V) (a b c a' b' c' : List ℕ) → Appends (Quiet runs unfit p q) a b a' b' → Appends (Passes runs unfit q r) b c b' c' → c' ≡ [] → Appends (Quiet runs unfit p r) a c a' c'
  quiet_on p q r a b c a' b' c' (v, e, f, (g, n)) s none =
      let h = goes_on p q r a b c a' b' c' (v, e, f, g) s in
      (h.0, h.1, h.2, (h.3, nothing_appended a' h.0.reports (sym none ∙ h.2)))

  -- one line more is passed, the last
  pub quiet_last : (p q r : Place V) (a b c a' b' c' : List ℕ) → Appends (Quiet runs unfit p q) a b a' b' → Appends (Passes runs unfit q r) b c b' c' → Appends (GoesToReport runs unfit p r) a c a' c'
  quiet_last p q r a b c a' b' c' (v, e, f, (g, n)) (w, k, l, s) = (
    record { answers = v.answers ++ w.answers; reports = w.reports },
    k ∙ ap (λ x. x ++ w.answers) e ∙ append_assoc a v.answers w.answers,
    l ∙ ap (λ x. x ++ w.reports) (f ∙ ap (λ x. a' ++ x) n ∙ append-nil a'),
    inr (q, v, w, g, n, s, refl),
  )

  pub quiet_end : (p q : Place V) (a b a' b' : List ℕ) → Appends (Quiet runs unfit p q) a b a' b' → Appends (GoesToReport runs unfit p q) a b a' b'
  quiet_end p q a b a' b' (v, e, f, (g, n)) = (v, e, f, inl (g, n))

  goes_to_report : (p q : Place V) (w : Written) → GoesToReport runs unfit p q w → Goes runs unfit p q w
  goes_to_report p q w (inl h) = h.0
  goes_to_report p q w (inr (m, v, u, g, n, s, is)) =
      subst (Goes runs unfit p q) (sym is) (subst (λ z. Goes runs unfit p q (record { answers = v.answers ++ u.answers; reports = z ++ u.reports })) n (then g s))

  pub appends_goes : (p q : Place V) (a b a' b' : List ℕ) → Appends (GoesToReport runs unfit p q) a b a' b' → Appends (Goes runs unfit p q) a b a' b'
  appends_goes p q a b a' b' (w, e, f, h) = (w, e, f, goes_to_report p q w h)

-- lines are passed, and then more
pub goes_then : {V : Type 0} {runs : Running V} {unfit : Expecting V} (p q r : Place V) (v w : Written) → Goes runs unfit p q v → Goes runs unfit q r w
    → Goes runs unfit p r (record { answers = v.answers ++ w.answers; reports = v.reports ++ w.reports })
goes_then {runs = runs} {unfit = unfit} p q r v w g stays =
    subst (λ a. Goes runs unfit p r (record { answers = a; reports = v.reports ++ [] })) (sym (append-nil v.answers))
    (subst (λ b. Goes runs unfit p r (record { answers = v.answers; reports = b })) (sym (append-nil v.reports)) g)
goes_then {runs = runs} {unfit = unfit} p q r v w g (then {q = m} {v = a} {w = b} h s) =
    subst (λ t. Goes runs unfit p r (record { answers = t; reports = v.reports ++ (a.reports ++ b.reports) })) (append_assoc v.answers a.answers b.answers)
    (subst (λ t. Goes runs unfit p r (record { answers = (v.answers ++ a.answers) ++ b.answers; reports = t })) (append_assoc v.reports a.reports b.reports)
    (then (goes_then p q m v a g h) s))

-- what was appended to empty texts is written behind what two writers hold
pub writes_on : {V : Type 0} {runs : Running V} {unfit : Expecting V} (p q r : Place V) (a b c a' b' c' : Option (List ℕ)) (s t s' t' : List ℕ) → s ≡ [] → s' ≡ []
    → AppendsKnown (Goes runs unfit p q) a b a' b' → Appends (Goes runs unfit q r) s t s' t' → Grows b c t → Grows b' c' t' → AppendsKnown (Goes runs unfit p r) a c a' c'
writes_on p q r a b c a' b' c' s t s' t' none none' (v, e, f, g) (w, k, l, h) x x' =
    let is = k ∙ ap (λ z. z ++ w.answers) none in
    let is' = l ∙ ap (λ z. z ++ w.reports) none' in (
      record { answers = v.answers ++ w.answers; reports = v.reports ++ w.reports },
      Appends-trans a b c v.answers w.answers e (subst (Grows b c) is x),
      Appends-trans a' b' c' v.reports w.reports f (subst (Grows b' c') is' x'),
      goes_then p q r v w g h,
    )

-- nothing is written yet
pub writes_nothing : {V : Type 0} {runs : Running V} {unfit : Expecting V} (p : Place V) (a b : Option (List ℕ)) → AppendsKnown (Goes runs unfit p p) a a b b
writes_nothing p a b = (record { answers = []; reports = [] }, Appends-nil a, Appends-nil b, stays)
