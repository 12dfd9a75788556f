use Rattle.std.proofs.Common.{◌≡◌, ℕ, ◌-◌, List, map, length, take, drop, vec_items, sym, refl, ap, ◌∙◌}
use lib.ListN.{length-map}
use Rattle.std.specs.Option.{option_map, option_copied}
use Rattle.std.proofs.lemmas.List.{drop-map, take-map}
use Rattle.answers.specs.Texts.{last_line, parted}
use Rattle.contexts.specs.Contexts.{marker_of}
use Rattle.contexts.proofs.context.Context.last.Goals as goal

-- the codes of a part are a part of the codes
part_codes : {X : Type 0} (f : X → ℕ) (n i : ℕ) (xs : List X) → map f (take n (drop i xs)) ≡ take n (drop i (map f xs))
part_codes f n i xs = sym (take-map f n (drop i xs)) ∙ ap (take n) (sym (drop-map f i xs))

pub returns : goal.returns
returns g c =
    let code = g.B.Symbol.Symbol.code in
    let shown = parted g.B.Symbol.Shown.between g.B.Symbol.Shown.one in
    let t = c.in_ok-track.track.now in
    let part = c.part.result.now in
    let e = ap (map code) c.part.ensures ∙ part_codes code (t.to - t.from) t.from (vec_items t.text) in (
      last_line shown t.from (length part) (map code part),
      c.in_ok-last.ensures,
      record {
        cursor = marker_of code t;
        here = ap (option_map (marker_of code)) (sym c.as_ref.ensures.value ∙ ap option_copied c.in_ok-track.ensures.ok_part);
        after = refl;
        tells = ap (λ n. last_line shown t.from n (map code part)) (sym (length-map part code)) ∙ ap (λ p. last_line shown t.from (length p) p) e;
      },
    )
