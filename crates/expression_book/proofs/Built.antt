-- Each command keeps what is true between two commands. Assumes nothing.
use Rattle.std.proofs.Common.{◌≡◌, ℕ, Bool, true, false, not, ◌&&◌, ◌||◌, eqb, ◌⊎◌, List, [], ◌∷◌, map, sym, refl, ap, ◌∙◌, ap₂, inl, inr}
use Rattle.std.proofs.lemmas.Bool.{cases_eq, cases_Bool, both_ways, and_from, and_left, and_right, eq-eqb, ne_eqb, or_left, or_right}
use Rattle.std.proofs.Math.Bool.{or-false}
use Rattle.states.specs.Sets.{State, has}
use Rattle.states.proofs.Members.{has_nothing}
use Rattle.expressions.specs.Expression.{empty, symbol, join, either, star, plus, optional, Labelled, Plain, plain}
use Rattle.expressions.specs.declared.code_range.CodeRange.{CodeRange}
use Rattle.expressions.specs.CodeRange.{contains}
use Rattle.expressions.specs.Positions.{Owns}
use Rattle.expressions.proofs.Owned.{last_owned}
use Rattle.expression_book.specs.declared.part.Part.{Part}
use Rattle.expression_book.specs.declared.row.Row.{Row}
use Rattle.expression_book.specs.declared.table.Table.{Table}
use Rattle.expression_book.specs.Rows.{row, takes}
use Rattle.expression_book.specs.Parts.{Shows}
use Rattle.expression_book.specs.Building.{Holds, Gives, Links, AllShow, Separate, Tabled, taken, Beside, Building}
use Rattle.expression_book.specs.Laws.{rule_at, follows_at}
use Rattle.expression_book.proofs.Grown.{link_rule, link_codes, link_follow}
use Rattle.expression_book.proofs.Pieces.{tabled_at, linked, tabled_empty, tabled_symbol, tabled_join, tabled_either, tabled_star, tabled_plus, tabled_optional, separate_symbol, separate_two}

pub holds_both : (a b c : Table) → Holds a b → Holds b c → Holds a c
holds_both a b c f g = record { kinds = g.kinds ∙ f.kinds; start = g.start ∙ f.start; ends = g.ends ∙ f.ends; note = g.note ∙ f.note }

-- the followers and the codes of the positions taken since the table was a
abbrev pub follows_new : Table → Table → ℕ → ℕ → Bool
follows_new a t p q = taken a t p && follows_at t p q

abbrev pub codes_new : Table → Table → ℕ → ℕ → Bool
codes_new a t p c = taken a t p && takes (row t.rows p) c

-- the table of what waits
abbrev pub Rows : Table → Table → List Labelled → Type 0
Rows a t es = Tabled (taken a t) (follows_new a t) (codes_new a t) es

-- ---- positions linked

module _ (a : Table) (r : ℕ) (t t' : Table) (L I : State) (links : Links L I t t') (inside : (p : ℕ) → has L p ≡ true → taken a t p ≡ true) where
  same_taken : (p : ℕ) → taken a t' p ≡ taken a t p
  same_taken p = ap (λ (s : State). has s p && not (has a.live p)) links.live

  more_follows : (p q : ℕ) → follows_new a t' p q ≡ linked (follows_new a t) (has L) (has I) p q
  more_follows p q =
      ap₂ (λ (x y : Bool). x && y) (same_taken p) (link_follow t t'.rows L I links.linked links.kept p q)
      ∙ shared (taken a t p) (follows_at t p q) (has L p) (has I q) (inside p)
    where
      shared : (x f l i : Bool) → (l ≡ true → x ≡ true) → (x && (f || (l && i))) ≡ ((x && f) || (l && i))
      shared true f l i h = refl
      shared false f true i h = absurd (both_ways false refl (h refl))
      shared false f false i h = refl

  same_codes : (p c : ℕ) → codes_new a t' p c ≡ codes_new a t p c
  same_codes p c =
      ap₂ (λ (x y : Bool). x && y) (same_taken p)
      (ap (λ (k : CodeRange). contains k c) (link_codes t t'.rows L I links.linked links.kept p))

  pub link_rows : (es : List Labelled) → Tabled (taken a t) (linked (follows_new a t) (has L) (has I)) (codes_new a t) es → Rows a t' es
  link_rows es =
      tabled_at (taken a t) (taken a t') (linked (follows_new a t) (has L) (has I)) (follows_new a t') (codes_new a t) (codes_new a t') es
      same_taken more_follows same_codes

  pub link_beside : Beside a r t → Beside a r t'
  link_beside b = record {
    rule = λ p h. link_rule t t'.rows L I links.linked links.kept p ∙ b.rule p (sym (same_taken p) ∙ h);
    live = λ p h. ap (λ (s : State). has s p) links.live ∙ b.live p h;
    kept = λ p h. links.kept p (off p (sym (same_taken p) ∙ h) (cases_Bool (has L p))) ∙ b.kept p (sym (same_taken p) ∙ h);
    holds = holds_both a t t' b.holds links.holds;
  }
    where
      off : (p : ℕ) → taken a t p ≡ false → (has L p ≡ true) ⊎ (has L p ≡ false) → has L p ≡ false
      off p n (inl e) = absurd (both_ways _ n (inside p e))
      off p n (inr e) = e

-- ---- a position given

module _ (a : Table) (r : ℕ) (codes : CodeRange) (at : ℕ) (t t' : Table) (gives : Gives r codes at t t') (b : Beside a r t) where
  -- the position was not taken before, nor live at first
  not_live : has a.live at ≡ false
  not_live = elim (cases_Bool (has a.live at)) [ inl e ↦ absurd (both_ways _ gives.free (b.live at e)) | inr e ↦ e ]

  pub not_taken : taken a t at ≡ false
  not_taken = and_left _ _ gives.free

  here_taken : taken a t' at ≡ true
  here_taken = and_from _ _ (gives.live at ∙ or_right (has t.live at) _ (eq-eqb at at refl)) (ap not not_live)

  other_taken : (p : ℕ) → (p ≡ at → ⊥) → taken a t' p ≡ taken a t p
  other_taken p d = ap (λ (x : Bool). x && not (has a.live p)) (gives.live p ∙ ap (λ (y : Bool). has t.live p || y) (ne_eqb p at d) ∙ or-false (has t.live p))

  -- at the position given, and elsewhere
  at_place : (f g : ℕ → Bool) → f at ≡ g at → ((p : ℕ) → (p ≡ at → ⊥) → f p ≡ g p) → (p : ℕ) → f p ≡ g p
  at_place f g here other p = elim (cases_eq p at) [ inl e ↦ ap f e ∙ here ∙ sym (ap g e) | inr d ↦ other p d ]

  other_than : (p : ℕ) → (p ≡ at → ⊥) → eqb at p ≡ false
  other_than p d = ne_eqb at p (λ e. d (sym e))

  give_used : (p : ℕ) → taken a t' p ≡ (eqb at p || taken a t p)
  give_used =
      at_place (taken a t') (λ p. eqb at p || taken a t p) (here_taken ∙ sym (or_left _ (taken a t at) (eq-eqb at at refl)))
      (λ p d. other_taken p d ∙ sym (ap (λ (x : Bool). x || taken a t p) (other_than p d)))

  give_follows : (p q : ℕ) → follows_new a t' p q ≡ follows_new a t p q
  give_follows p q =
      at_place (λ x. follows_new a t' x q) (λ x. follows_new a t x q)
      (and_right (taken a t' at) _ (ap (λ (v : Row). has v.follow q) gives.fresh ∙ has_nothing q) ∙ sym (and_left _ (follows_at t at q) not_taken))
      (λ x d. ap₂ (λ (y : Bool) (v : Row). y && has v.follow q) (other_taken x d) (gives.kept x d)) p

  give_codes : (p c : ℕ) → codes_new a t' p c ≡ ((eqb at p && contains codes c) || codes_new a t p c)
  give_codes p c =
      at_place (λ x. codes_new a t' x c) (λ x. (eqb at x && contains codes c) || codes_new a t x c)
      (ap₂ (λ (y : Bool) (v : Row). y && takes v c) here_taken gives.fresh
      ∙ sym (ap₂ (λ (x y : Bool). (x && contains codes c) || y) (eq-eqb at at refl) (and_left _ (takes (row t.rows at) c) not_taken) ∙ or-false (contains codes c)))
      (λ x d. ap₂ (λ (y : Bool) (v : Row). y && takes v c) (other_taken x d) (gives.kept x d)
      ∙ sym (ap (λ (y : Bool). (y && contains codes c) || codes_new a t x c) (other_than x d))) p

  pub give_rows : (es : List Labelled) → Rows a t es → Rows a t' (symbol at codes.low codes.high ∷ es)
  give_rows es rows =
      tabled_at (λ p. eqb at p || taken a t p) (taken a t') (follows_new a t) (follows_new a t')
      (λ p c. (eqb at p && contains codes c) || codes_new a t p c) (codes_new a t') (symbol at codes.low codes.high ∷ es) give_used give_follows give_codes
      (tabled_symbol (taken a t) (follows_new a t) (codes_new a t) es at codes.low codes.high rows)

  pub give_beside : Beside a r t'
  give_beside = record {
    rule = λ p h. elim (cases_eq p at) [
      | inl e ↦ ap (rule_at t') e ∙ ap (λ (v : Row). v.rule) gives.fresh
      | inr d ↦ ap (λ (v : Row). v.rule) (gives.kept p d) ∙ b.rule p (sym (other_taken p d) ∙ h)
    ];
    live = λ p h. gives.live p ∙ or_left _ _ (b.live p h);
    kept = λ p h. elim (cases_eq p at) [
      | inl e ↦ absurd (both_ways _ h (ap (taken a t') e ∙ here_taken))
      | inr d ↦ gives.kept p d ∙ b.kept p (sym (other_taken p d) ∙ h)
    ];
    holds = holds_both a t t' b.holds gives.holds;
  }

-- ---- the commands

module _ (a : Table) (r : ℕ) where
  -- nothing waits at first
  pub build_none : Building a r [] [] a
  build_none = record {
    waiting = [];
    named = refl;
    shown = tt;
    separate = tt;
    rows = record {
      used = λ p. (λ h. both_ways _ (none p) h, λ x. absurd x);
      follows = λ p q. (λ h. both_ways _ (and_left _ (follows_at a p q) (none p)) h, λ x. absurd x);
      codes = λ p c. (λ h. both_ways _ (and_left _ (takes (row a.rows p) c) (none p)) h, λ x. absurd x);
    };
    beside = record {
      rule = λ p h. absurd (both_ways _ (none p) h);
      live = λ p h. h;
      kept = λ p h. refl;
      holds = record { kinds = refl; start = refl; ends = refl; note = refl };
    };
  }
    where
      none : (p : ℕ) → taken a a p ≡ false
      none p = never (has a.live p)
        where
          never : (x : Bool) → (x && not x) ≡ false
          never true = refl
          never false = refl

  module _ (W : List Plain) (ks : List Part) (k : Part) (t t' : Table) where
    pub build_empty : Shows k empty → Building a r W ks t → Building a r (empty ∷ W) (k ∷ ks) t
    build_empty s b = record {
      waiting = empty ∷ b.waiting;
      named = ap (λ (x : List Plain). empty ∷ x) b.named;
      shown = (s, b.shown);
      separate = (tt, λ p x y. x, b.separate);
      rows = tabled_empty (taken a t) (follows_new a t) (codes_new a t) b.waiting b.rows;
      beside = b.beside;
    }

    pub build_symbol : (codes : CodeRange) (at : ℕ) → Gives r codes at t t' → ((lo hi : ℕ) → Shows k (symbol at lo hi)) → Building a r W ks t
        → Building a r (symbol tt codes.low codes.high ∷ W) (k ∷ ks) t'
    build_symbol codes at gives s b = record {
      waiting = symbol at codes.low codes.high ∷ b.waiting;
      named = ap (λ (x : List Plain). symbol tt codes.low codes.high ∷ x) b.named;
      shown = (s codes.low codes.high, b.shown);
      separate = separate_symbol at codes.low codes.high b.waiting (λ x. both_ways _ (not_taken a r codes at t t' gives b.beside) ((b.rows.used at).1 x)) b.separate;
      rows = give_rows a r codes at t t' gives b.beside b.waiting b.rows;
      beside = give_beside a r codes at t t' gives b.beside;
    }

    -- a last position of what waits was taken
    last_taken : (ka : Part) (x : Labelled) → Shows ka x → ((p : ℕ) → Owns x p → taken a t p ≡ true) → (p : ℕ) → has ka.last p ≡ true → taken a t p ≡ true
    last_taken ka x s own p h = own p (last_owned x p ((s.last p).0 h))

    -- ---- two become one: f with labels, g without

    module _ (f : Labelled → Labelled → Labelled) (g : Plain → Plain → Plain) (same : (x y : Labelled) → plain (f x y) ≡ g (plain x) (plain y))
        (apart : (x y : Labelled) (es : List Labelled) → Separate (y ∷ x ∷ es) → Separate (f x y ∷ es)) (ka kb : Part)
        (shows : (x y : Labelled) → Shows ka x → Shows kb y → Shows k (f x y))
        (table : (x y : Labelled) (es : List Labelled) → Shows ka x → Shows kb y → Rows a t (y ∷ x ∷ es) → Beside a r t → Rows a t' (f x y ∷ es) × Beside a r t') where
      build_two : (c d : Plain) → Building a r (d ∷ c ∷ W) (kb ∷ ka ∷ ks) t → Building a r (g c d ∷ W) (k ∷ ks) t'
      build_two c d b = go b.waiting b.named b.shown b.separate b.rows
        where
          go : (es : List Labelled) → map plain es ≡ d ∷ c ∷ W → AllShow (kb ∷ ka ∷ ks) es → Separate es → Rows a t es → Building a r (g c d ∷ W) (k ∷ ks) t'
          go [] n sh p u = absurd sh
          go (y ∷ []) n sh p u = absurd sh.1
          go (y ∷ x ∷ es) n (sy, (sx, sh)) p u =
              let e = same x y in
              let new = table x y es sx sy u b.beside in
              record { waiting = f x y ∷ es; named = cc; shown = (shows x y sx sy, sh); separate = apart x y es p; rows = new.0; beside = new.1 }

    pub build_join : (ka kb : Part) → Links ka.last kb.first t t' → ((x y : Labelled) → Shows ka x → Shows kb y → Shows k (join x y))
        → (c d : Plain) → Building a r (d ∷ c ∷ W) (kb ∷ ka ∷ ks) t → Building a r (join c d ∷ W) (k ∷ ks) t'
    build_join ka kb links shows = build_two join join (λ x y. refl) separate_two ka kb shows (λ x y es sx sy u b.
        let inside = last_taken ka x sx (λ q o. (u.used q).1 (inr (inl o))) in (
          link_rows a r t t' ka.last kb.first links inside (join x y ∷ es)
              (tabled_join (taken a t) (follows_new a t) (codes_new a t) es x y (has ka.last) (has kb.first) sx.last sy.first u),
          link_beside a r t t' ka.last kb.first links inside b,
        ))

    -- ---- one becomes another

    module _ (f : Labelled → Labelled) (g : Plain → Plain) (same : (x : Labelled) → plain (f x) ≡ g (plain x))
        (apart : (x : Labelled) (es : List Labelled) → Separate (x ∷ es) → Separate (f x ∷ es)) (ka : Part) (shows : (x : Labelled) → Shows ka x → Shows k (f x))
        (table : (x : Labelled) (es : List Labelled) → Shows ka x → Rows a t (x ∷ es) → Beside a r t → Rows a t' (f x ∷ es) × Beside a r t') where
      build_one : (c : Plain) → Building a r (c ∷ W) (ka ∷ ks) t → Building a r (g c ∷ W) (k ∷ ks) t'
      build_one c b = go b.waiting b.named b.shown b.separate b.rows
        where
          go : (es : List Labelled) → map plain es ≡ c ∷ W → AllShow (ka ∷ ks) es → Separate es → Rows a t es → Building a r (g c ∷ W) (k ∷ ks) t'
          go [] n sh p u = absurd sh
          go (x ∷ es) n (sx, sh) p u =
              let e = same x in
              let new = table x es sx u b.beside in
              record { waiting = f x ∷ es; named = cc; shown = (shows x sx, sh); separate = apart x es p; rows = new.0; beside = new.1 }

    -- its firsts follow its lasts
    module _ (ka : Part) (links : Links ka.last ka.first t t') where
      around : (x : Labelled) (es : List Labelled) → Shows ka x → Rows a t (x ∷ es) → (p : ℕ) → has ka.last p ≡ true → taken a t p ≡ true
      around x es sx u = last_taken ka x sx (λ q o. (u.used q).1 (inl o))

      pub build_star : ((x : Labelled) → Shows ka x → Shows k (star x)) → (c : Plain) → Building a r (c ∷ W) (ka ∷ ks) t → Building a r (star c ∷ W) (k ∷ ks) t'
      build_star shows = build_one star star (λ x. refl) (λ x es p. p) ka shows (λ x es sx u b. (
        link_rows a r t t' ka.last ka.first links (around x es sx u) (star x ∷ es)
            (tabled_star (taken a t) (follows_new a t) (codes_new a t) es x (has ka.last) (has ka.first) sx.last sx.first u),
        link_beside a r t t' ka.last ka.first links (around x es sx u) b,
      ))

      pub build_plus : ((x : Labelled) → Shows ka x → Shows k (plus x)) → (c : Plain) → Building a r (c ∷ W) (ka ∷ ks) t → Building a r (plus c ∷ W) (k ∷ ks) t'
      build_plus shows = build_one plus plus (λ x. refl) (λ x es p. p) ka shows (λ x es sx u b. (
        link_rows a r t t' ka.last ka.first links (around x es sx u) (plus x ∷ es)
            (tabled_plus (taken a t) (follows_new a t) (codes_new a t) es x (has ka.last) (has ka.first) sx.last sx.first u),
        link_beside a r t t' ka.last ka.first links (around x es sx u) b,
      ))

  -- ---- where the table stays as it is

  module _ (W : List Plain) (ks : List Part) (k : Part) (t : Table) where
    pub build_either : (ka kb : Part) → ((x y : Labelled) → Shows ka x → Shows kb y → Shows k (either x y))
        → (c d : Plain) → Building a r (d ∷ c ∷ W) (kb ∷ ka ∷ ks) t → Building a r (either c d ∷ W) (k ∷ ks) t
    build_either ka kb shows =
        build_two W ks k t t either either (λ x y. refl) separate_two ka kb shows (λ x y es sx sy u b. (tabled_either (taken a t) (follows_new a t) (codes_new a t) es x y u, b))

    pub build_optional : (ka : Part) → ((x : Labelled) → Shows ka x → Shows k (optional x))
        → (c : Plain) → Building a r (c ∷ W) (ka ∷ ks) t → Building a r (optional c ∷ W) (k ∷ ks) t
    build_optional ka shows =
        build_one W ks k t t optional optional (λ x. refl) (λ x es p. p) ka shows (λ x es sx u b. (tabled_optional (taken a t) (follows_new a t) (codes_new a t) es x u, b))
