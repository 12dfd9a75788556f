-- The answers of a template book, as its code makes them from words. Assumes nothing.
use Rattle.std.proofs.Common.{◌≡◌, ℕ, zero, suc, ◌+◌, ◌/◌, ◌<◌, Bool, false, ◌&&◌, eqb, ltb, length, get_or, sym, ap, ◌∙◌, add-one, arith}
use Rattle.std.proofs.lemmas.List.{get_or_default}
use Rattle.std.proofs.lemmas.Bool.{and_parts, and_from, eqb-true, eq-eqb, lt-ltb}
use Rattle.std.proofs.lemmas.Bool.Decides.{same_from_decides}
use Rattle.states.specs.Sets.{State, Rules, has, has_rule}
use Rattle.states.specs.Words.{Gathers}
use Rattle.states.proofs.Members.{is_set_of, same_rules}
use Rattle.templates.specs.declared.book.TemplateBook.{TemplateBook}
use Rattle.templates.specs.Templates.{leads}
use Rattle.templates.specs.Laws.{meaning, ended_by}

-- one lookup, a meet and a shift
module _ (b : TemplateBook) (s met out : State) (c : ℕ) (d : State) (byte : c < 256) (meets : (p : ℕ) → has met p ≡ (has s p && has (get_or b.takes c d) p))
    (first : has out 0 ≡ false) (others : (p : ℕ) → has out (p + 1) ≡ (ltb p 255 && has met p)) where
  at_place : (q : ℕ) → q < 256 → has out q ≡ leads b.takes s c q
  at_place zero l = first
  at_place (suc p) l =
      let long = b.size in
      let within : c < length b.takes = omega arith in
      ap (has out) (sym (add-one p)) ∙ others p ∙ ap (λ (x : Bool). x && has met p) (lt-ltb p 255 (omega arith)) ∙ meets p
      ∙ ap (λ (t : State). has s p && has t p) (get_or_default b.takes c d _ within)

  pub next_made : out ≡ (meaning b).next s c
  next_made = is_set_of out (leads b.takes s c) at_place

-- position p adds its rule
abbrev pub rule_of : ℕ → ℕ → Bool
rule_of p q = eqb q (p / 32) && ltb q 64

-- the rules of all positions that the state shares with the ends
pub ended_made : (b : TemplateBook) (s met : State) (out : Rules) → ((p : ℕ) → has met p ≡ (has s p && has b.ends p))
    → Gathers rule_of (has met) (has_rule out) → out ≡ (meaning b).ended s
ended_made b s met out meets all = same_rules out ((meaning b).ended s) (λ q l. same_from_decides _ _ (all q) (
  λ e. let w = (ended_by b s q).0 e in
      (w.0, meets w.0 ∙ and_from _ _ w.1 w.2, and_from _ _ (eq-eqb q (w.0 / 32) (sym w.3)) (lt-ltb q 64 l)),
  λ w. let h = and_parts (has s w.0) (has b.ends w.0) (sym (meets w.0) ∙ w.1) in
      (ended_by b s q).1 (w.0, h.0, h.1, sym (eqb-true q (w.0 / 32) (and_parts (eqb q (w.0 / 32)) (ltb q 64) w.2).0)),
))
