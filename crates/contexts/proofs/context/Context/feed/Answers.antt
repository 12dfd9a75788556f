use Rattle.std.proofs.Common.{◌≡◌, ℕ, ◌+◌, ◌<◌, true, false, List, [], ◌∷◌, ◌++◌, map, length, get_or, take, drop, is_some, string_bytes, sym, ap, ◌∙◌, subst, append_assoc, append-nil, arith, rules, take-append-drop}
use lib.ListN.{length-map}
use Rattle.std.proofs.lemmas.List.{drop_more, get_or-map, take_all, take_more}
use Rattle.passes.specs.Runs.{Answers}
use Rattle.contexts.specs.Uses.{FeedsEach, FeedsUntil, FeedsNext, RefusesOne, Use}
use Rattle.contexts.specs.Uses.FeedsUntil.{all, until}
use Rattle.contexts.specs.Uses.FeedsEach.{none, more}
use Rattle.contexts.specs.Contexts.{use_of}
use Rattle.contexts.proofs.context.Context.feed.Goals as goal

-- the code of the symbol at an index
code_at : {X : Type 0} (f : X → ℕ) (xs : List X) (i : ℕ) (x : X) → i < length xs → x ≡ get_or xs i x → f x ≡ get_or (map f xs) i 0
code_at f xs i x l e = ap f e ∙ sym (get_or-map f xs i x 0 l)

-- one symbol more is fed
module _ (u m w : Use) (before mid after : List ℕ) (xs : List ℕ) (i c : ℕ) (l : i < length xs) (is : c ≡ get_or xs i 0) (each : Answers (FeedsEach u (take i xs) m) before mid) where
  pub fed_more : Answers (FeedsNext c true m w) mid after → Answers (FeedsEach u (take (i + 1) xs) w) before after
  fed_more h = (
    each.0 ++ h.0,
    h.1 ∙ ap (λ t. t ++ h.0) each.1 ∙ append_assoc before each.0 h.0,
    subst (λ t. FeedsEach u t w (each.0 ++ h.0)) (ap (λ x. take i xs ++ (x ∷ [])) is ∙ sym (take_more xs i 0 l)) (more c h.2.0 each.2 h.2.1),
  )

  pub fed_until : Answers (FeedsNext c false m w) mid after → Answers (FeedsUntil xs u w) before after
  fed_until h = (
    each.0 ++ h.0,
    h.1 ∙ ap (λ t. t ++ h.0) each.1 ∙ append_assoc before each.0 h.0,
    until (take i xs) (drop (i + 1) xs) c (sym (take-append-drop i xs) ∙ ap (λ t. take i xs ++ t) (drop_more xs i 0 l ∙ ap (λ x. x ∷ drop (i + 1) xs) (sym is)))
        (subst (λ v. FeedsEach u (take i xs) v each.0) (sym h.2.0) each.2) (subst (λ v. RefusesOne c v h.0) (sym h.2.0) h.2.1),
  )

with_walk : (P : List ℕ → Type 0) (W : Type 0) (before after : List ℕ) → W → Answers P before after → Answers (λ a. W × P a) before after
with_walk P W before after w (a, e, p) = (a, e, (w, p))

pub loop-symbol-init : goal.loop-symbol-init
loop-symbol-init g c = ((([], sym (append-nil (string_bytes c.args.out.now)), none)), search rules)

pub loop-symbol-preserved : goal.loop-symbol-preserved
loop-symbol-preserved g c =
    let model = g.B.Book.model in
    let code = g.B.Symbol.Symbol.code in
    let xs = c.args.text.now in
    let i = c.loop-symbol.symbol-index in
    let m = use_of c.loop-symbol.self in
    let w = use_of c.feed_next.new.self in
    let x = c.symbol-item.result in
    let l : i < length xs = omega arith in
    let h = subst (λ on. Answers (FeedsNext (code x) on m w) (string_bytes c.loop-symbol.out) (string_bytes c.feed_next.new.out)) c.if-not-branch.false c.in_ok-feed_next.ensures in (
      fed_more (use_of c.args.self.now) m w (string_bytes c.args.out.now) (string_bytes c.loop-symbol.out) (string_bytes c.feed_next.new.out) (map code xs) i (code x)
          (subst (λ n. i < n) (sym (length-map xs code)) l) (code_at code xs i x l c.symbol-item.is) c.loop-symbol.invariant.0 h,
      ap (λ (v : Use). is_some v.walk) h.2.1.after,
    )

pub returns-then-not-branch : goal.returns-then-not-branch
returns-then-not-branch g c =
    let model = g.B.Book.model in
    let code = g.B.Symbol.Symbol.code in
    let xs = c.args.text.now in
    let i = c.loop-symbol.symbol-index in
    let m = use_of c.loop-symbol.self in
    let w = use_of c.feed_next.new.self in
    let x = c.symbol-item.result in
    let l : i < length xs = omega arith in
    let h = subst (λ on. Answers (FeedsNext (code x) on m w) (string_bytes c.loop-symbol.out) (string_bytes c.feed_next.new.out)) c.if-not-branch.true c.in_ok-feed_next.ensures in
    let there : is_some c.args.self.now.walk ≡ true = search rules in
    with_walk _ _ _ _ there (fed_until (use_of c.args.self.now) m w (string_bytes c.args.out.now) (string_bytes c.loop-symbol.out) (string_bytes c.feed_next.new.out) (map code xs) i (code x)
    (subst (λ n. i < n) (sym (length-map xs code)) l) (code_at code xs i x l c.symbol-item.is) c.loop-symbol.invariant.0 h)

pub returns : goal.returns
returns g c =
    let model = g.B.Book.model in
    let code = g.B.Symbol.Symbol.code in
    let xs = map code c.args.text.now in
    let h = c.loop-symbol.invariant.0 in
    let there : is_some c.args.self.now.walk ≡ true = search rules in
    (h.0, h.1, (there, all (subst (λ t. FeedsEach (use_of c.args.self.now) t (use_of c.loop-symbol.self) h.0) (take_all c.loop-symbol.symbol-index xs (rw length-map (omega arith))) h.2)))
