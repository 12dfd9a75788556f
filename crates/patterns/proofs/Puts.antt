-- Bytes that are put into a sink one behind another.
use Rattle.std.proofs.Common.{ℕ, ◌+◌, ◌<◌, List, [], ◌∷◌, ◌++◌, length, get_or, take, sym, ◌∙◌, subst, append_assoc}
use Rattle.std.proofs.lemmas.List.{take_more}
use Rattle.patterns.specs.declared.sink.Sink.{Sink}
use Rattle.patterns.specs.Buffers.{Put, Adds}

-- one run of bytes behind another
pub adds_both : {a b c : Sink} (v w : List ℕ) → Adds a v b → Adds b w c → Adds a (v ++ w) c
adds_both {c = c} v w x y = record {
  same = y.same ∙ x.same;
  puts = λ buffer u p. subst (λ l. Put buffer l c) (append_assoc u v w) (y.puts buffer (u ++ v) (x.puts buffer u p));
}

-- one byte more of a run
pub adds_more : {a b c : Sink} (w : List ℕ) (i : ℕ) → i < length w → Adds a (take i w) b → Adds b (get_or w i 0 ∷ []) c → Adds a (take (i + 1) w) c
adds_more {a} {c = c} w i h x y = subst (λ l. Adds a l c) (sym (take_more w i 0 h)) (adds_both (take i w) (get_or w i 0 ∷ []) x y)
