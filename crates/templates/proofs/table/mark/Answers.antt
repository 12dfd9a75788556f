use Rattle.std.proofs.Common.{◌≡◌, ℕ, ◌-◌, ◌<◌, ◌≤◌, ◌&&◌, ◌||◌, eqb, ltb, leb, ◌⊎◌, List, length, get_or, subst, inl, inr, arith, rules}
use Rattle.std.proofs.lemmas.Bool.{cases_lt}
use Rattle.std.proofs.lemmas.Bool.Decides.{nat_tests}
use Rattle.std.proofs.lemmas.List.{places}
use borrow.Rule.Slice.PartMut.{put_mid, mid_of}
use Rattle.states.specs.Sets.{State, nothing}
use Rattle.templates.specs.Tables.{at, Marked}
use Rattle.templates.proofs.table.mark.Goals as goal

sized : (old : List State) (low high : ℕ) → low ≤ high → high ≤ length old → length (mid_of low (high - low) old) ≡ high - low
sized old low high l h = search (rules, places)

-- what the entries from low on, below high, gain as a part, the table gains
marked_part : (old part : List State) (low high q : ℕ) → low ≤ high → high ≤ length old → length part ≡ high - low
    → Marked (mid_of low (high - low) old) part q 0 (high - low)
    → (c p : ℕ) → at (put_mid low (high - low) old part) c p ≡ (at old c p || (eqb p q && (leb low c && ltb c high)))
marked_part old part low high q l h long inv c p = at_code (cases_lt c low) (cases_lt c high)
  where
    at_code : (c < low) ⊎ (low ≤ c) → (c < high) ⊎ (high ≤ c) → at (put_mid low (high - low) old part) c p ≡ (at old c p || (eqb p q && (leb low c && ltb c high)))
    at_code (inl below) x =
        let e : get_or (put_mid low (high - low) old part) c nothing ≡ get_or old c nothing = grind (arith, places) in
        grind (arith, nat_tests)
    at_code (inr from) (inr past) =
        let e : get_or (put_mid low (high - low) old part) c nothing ≡ get_or old c nothing = grind (arith, places) in
        grind (arith, nat_tests)
    at_code (inr from) (inl within) =
        let e : get_or (put_mid low (high - low) old part) c nothing ≡ get_or part (c - low) nothing = grind (arith, places) in
        let f : get_or (mid_of low (high - low) old) (c - low) nothing ≡ get_or old c nothing = grind (arith, places) in
        grind (arith, nat_tests, inv (c - low) p)

pub returns : goal.returns
returns c =
    let old = c.args.takes.now in
    let low = c.args.codes.start in
    let high = c.args.codes.end in
    let part = c.loop-entry.entry-items in
    let within : high ≤ length old = omega arith in
    let n = sized old low high c.requires.0 within in
    let all : c.loop-entry.entry-index ≡ high - low = omega arith in
    marked_part old part low high c.args.position c.requires.0 within (omega arith)
    (subst (Marked (mid_of low (high - low) old) part c.args.position 0) all c.loop-entry.invariant)
