-- One turn of a loop that takes command after command off a run. Assumes nothing.
use Rattle.std.proofs.Common.{◌≡◌, ℕ, suc, ◌+◌, ◌-◌, ◌<◌, ◌≤◌, List, [], ◌∷◌, length, get_or, take, drop, Ok, Err, Result, sym, refl, ap, ◌∙◌, arith}
use Rattle.std.proofs.lemmas.List.{take_rest}
use Rattle.books.specs.declared.faults.Cause.{Cause}
use Rattle.expressions.specs.declared.command.Command.{Command}
use Rattle.expressions.specs.declared.command.Command.TheVariants.{Empty, Symbol, Join, Either, Star, Plus, Optional}
use Rattle.expressions.specs.Expression.{Plain}
use Rattle.expressions.specs.Commands.{takes, adds, most, decoded, applied, turn, read}
use Rattle.expressions.proofs.Steps.{passes}
use Rattle.expressions.proofs.Words.{length_applied, total, total_applied}
use Rattle.expressions.proofs.Runs.{decoded_less, read_on}

-- the bytes w, the first of which is a letter, as a loop takes them apart
abbrev pub Front : ℕ → ℕ → List ℕ → Result (Command × List ℕ) Cause → Type 0
Front last waiting w s = decoded last waiting (get_or w 0 0) (take (length w - 1) (drop 1 w)) ≡ s

-- From the bytes w, with W waiting, to the bytes t by the command c: fewer bytes are left, as many wait as the command takes and
-- at most 40 after it, and reading on is the same.
pub record Onward (last size : ℕ) (w : List ℕ) (W : List Plain) (c : Command) (t : List ℕ) : Type 0 where
  pub less : length t < length w
  pub enough : takes c ≤ length W
  pub few : takes c ≡ 0 → length W < most
  pub size_after : length (applied c W) ≡ length W + 1 - takes c
  pub most_after : length W ≤ most → length (applied c W) ≤ most
  pub symbols_after : total (applied c W) ≡ total W + adds c
  pub at_most_one : adds c ≤ 1
  pub same : read last size (length w) W w ≡ read last size (length t) (applied c W) t

few_after : (c : Command) (n m : ℕ) → n ≤ most → (takes c ≡ 0 → n < most) → m ≡ n + 1 - takes c → m ≤ most
few_after Empty n m h f e = omega (arith, f refl)
few_after (Symbol k) n m h f e = omega (arith, f refl)
few_after Join n m h f e = omega arith
few_after Either n m h f e = omega arith
few_after Star n m h f e = omega arith
few_after Plus n m h f e = omega arith
few_after Optional n m h f e = omega arith

few_added : (c : Command) → adds c ≤ 1
few_added Empty = omega arith
few_added (Symbol k) = omega arith
few_added Join = omega arith
few_added Either = omega arith
few_added Star = omega arith
few_added Plus = omega arith
few_added Optional = omega arith

pub onward : (last size n : ℕ) (w : List ℕ) (W : List Plain) (c : Command) (t : List ℕ) → length W ≡ n → 0 < length w → Front last n w (Ok (c, t)) →
    Onward last size w W c t
onward last size n [] W c t e some is = absurd (omega arith)
onward last size n (b ∷ rest) W c t e some is =
    let at : decoded last (length W) b rest ≡ Ok (c, t) =
    ap (λ (k : ℕ). decoded last k b rest) e ∙ ap (decoded last n b) (sym (take_rest (b ∷ rest) 1)) ∙ is in
    let p = passes last (length W) b rest c t at in
    let after = length_applied c W p.enough in
    record {
      less = omega (arith, decoded_less last W b rest c t at);
      enough = p.enough;
      few = p.few;
      size_after = after;
      most_after = λ h. few_after c (length W) (length (applied c W)) h p.few after;
      symbols_after = total_applied c W p.enough;
      at_most_one = few_added c;
      same = read_on last size W b rest c t at;
    }

-- a command that is refused ends the reading, at its offset
pub refused_at : (last size n : ℕ) (w : List ℕ) (W : List Plain) (q : Cause) → length W ≡ n → 0 < length w → Front last n w (Err q) →
    read last size (length w) W w ≡ Err (record { cause = q; place = size - length w })
refused_at last size n [] W q e some is = absurd (omega arith)
refused_at last size n (b ∷ rest) W q e some is =
    ap (turn (read last size (length rest)) W (size - suc (length rest)))
    (ap (λ (k : ℕ). decoded last k b rest) e ∙ ap (decoded last n b) (sym (take_rest (b ∷ rest) 1)) ∙ is)
