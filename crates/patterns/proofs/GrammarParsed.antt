-- Where there is no no, the marks are parsed by the rules, and give what they say.
use Rattle.std.proofs.Common.{◌≡◌, ℕ, suc, ◌+◌, ◌<◌, ◌≢◌, true, false, not, eqb, List, [], ◌∷◌, ◌++◌, length, Some, None, Option, refl, sym, ap, ◌∙◌, subst, append_assoc, append-nil, arith, ltb-true}
use Rattle.patterns.specs.declared.faults.PatternFault.{PatternFault}
use Rattle.patterns.specs.declared.marks.Repeat.{Repeat}
use Rattle.patterns.specs.declared.marks.Repeat.TheVariants.{Star, Plus, Optional}
use Rattle.patterns.specs.Marks.{Part, plain, escape, class, sign, width, repeat_of}
use Rattle.patterns.specs.Classes.{members, spans, falling, inner, in_class}
use Rattle.patterns.specs.Reading.{body_end, reserved}
use Rattle.patterns.specs.Grammar.{Pattern, literal, dot, among, concat, alternate, choice, sequence, pieces, piece, atom, bar, opening, closing, Parses, one_sequence, more_sequences, no_pieces, some_pieces, one_piece, more_pieces, one_atom, repeated_piece, plain_byte, escaped_byte, any_byte, one_class, in_brackets, some_below, falls_at, or_else, asked, unclosed_behind, all_closed, first_no}
use Rattle.patterns.proofs.GrammarTrees.{gathered, Inside, whole, put, Standing, standing, again, repeated_last, parted, shut, grown, tree, start}
use Rattle.patterns.proofs.GrammarClasses.{class_has_right, rises_in, some_there}
use Rattle.patterns.proofs.GrammarMarks.{signs, Proper, Each, neither, answered_yes, first_yes, not_true, no_last, Agrees, last_there, agrees_on}

-- ---- what stands so far is parsed

-- pieces, the last one first
abbrev Pieces : ℕ → List Part → List Pattern → Type 0
Pieces d w [] = w ≡ []
Pieces d w (p ∷ []) = Parses piece d w p
Pieces d w (p ∷ q ∷ ps) = (u : List Part) × (v : List Part) × (w ≡ u ++ v) × Parses pieces d u (gathered concat (q ∷ ps)) × Parses piece d v p

pieces_put : (d : ℕ) (w x : List Part) (p : Pattern) (ps : List Pattern) → Pieces d w ps → Parses piece d x p → Pieces d (w ++ x) (p ∷ ps)
pieces_put d w x p [] e k = subst (λ z. Parses piece d (z ++ x) p) (sym e) k
pieces_put d w x p (q ∷ []) h k = (w, x, refl, one_piece h, k)
pieces_put d w x p (q ∷ r ∷ ps) (u, v, e, g, h) k = (w, x, refl, more_pieces u v e g h, k)

pieces_again : (d c : ℕ) (r : Repeat) (w : List Part) (ps : List Pattern) → repeat_of c ≡ Some r → no_last ps ≡ false → Pieces d w ps
    → Pieces d (w ++ sign c ∷ []) (again r ps)
pieces_again d c r w [] e n h = cc
pieces_again d c r w (p ∷ []) e n h = repeated_piece w c r refl e h
pieces_again d c r w (p ∷ q ∷ ps) e n (u, v, f, g, h) =
    (u, v ++ sign c ∷ [], ap (λ z. z ++ sign c ∷ []) f ∙ append_assoc u v (sign c ∷ []), g, repeated_piece v c r refl e h)

pieces_parsed : (d : ℕ) (w : List Part) (ps : List Pattern) → Pieces d w ps → Parses sequence d w (gathered concat ps)
pieces_parsed d w [] e = no_pieces e
pieces_parsed d w (p ∷ []) h = some_pieces (one_piece h)
pieces_parsed d w (p ∷ q ∷ ps) (u, v, e, g, h) = some_pieces (more_pieces u v e g h)

-- sequences, the last one first, and then pieces
abbrev Sequences : ℕ → List Part → List Pattern → List Pattern → Type 0
Sequences d w [] ps = Pieces d w ps
Sequences d w (s ∷ ss) ps = (u : List Part) × (v : List Part) × (w ≡ u ++ bar ∷ v) × Parses choice d u (gathered alternate (s ∷ ss)) × Pieces d v ps

abbrev Within : ℕ → List Part → Inside → Type 0
Within d w l = Sequences d w l.sequences l.pieces

-- the pieces change where more marks come
sequences_on : (d : ℕ) (w x : List Part) (ss ps qs : List Pattern) → ((v : List Part) → Pieces d v ps → Pieces d (v ++ x) qs) → Sequences d w ss ps
    → Sequences d (w ++ x) ss qs
sequences_on d w x [] ps qs f h = f w h
sequences_on d w x (s ∷ ss) ps qs f (u, v, e, g, h) = (u, v ++ x, ap (λ z. z ++ x) e ∙ append_assoc u (bar ∷ v) x, g, f v h)

sequences_parsed : (d : ℕ) (w : List Part) (ss ps : List Pattern) → Sequences d w ss ps → Parses choice d w (gathered alternate (gathered concat ps ∷ ss))
sequences_parsed d w [] ps h = one_sequence (pieces_parsed d w ps h)
sequences_parsed d w (s ∷ ss) ps (u, v, e, g, h) = more_sequences u v e g (pieces_parsed d v ps h)

-- all marks, from the innermost open bracket outwards
abbrev Parsed : List Part → Inside → List Inside → Type 0
Parsed w l [] = Within 0 w l
Parsed w l (o ∷ os) = (u : List Part) × (v : List Part) × (w ≡ u ++ opening ∷ v) × (length os < 16) × Within (suc (length os)) v l × Parsed u o os

-- what is innermost changes where more marks come
parsed_on : (w x : List Part) (l l' : Inside) (os : List Inside) → ((v : List Part) → Within (length os) v l → Within (length os) (v ++ x) l') → Parsed w l os
    → Parsed (w ++ x) l' os
parsed_on w x l l' [] f h = f w h
parsed_on w x l l' (o ∷ os) f (u, v, e, n, h, k) = (u, v ++ x, ap (λ z. z ++ x) e ∙ append_assoc u (opening ∷ v) x, n, f v h, k)

parsed_atom : (w x : List Part) (s : Standing) (p : Pattern) → Parsed w s.here s.around → Parses atom (length s.around) x p
    → Parsed (w ++ x) (put p s.here) s.around
parsed_atom w x s p h k =
    parsed_on w x s.here (put p s.here) s.around
    (λ v g. sequences_on (length s.around) v x s.here.sequences s.here.pieces (p ∷ s.here.pieces)
    (λ u i. pieces_put (length s.around) u x p s.here.pieces i (one_atom k)) g) h

parsed_again : (w : List Part) (s : Standing) (c : ℕ) (r : Repeat) → Parsed w s.here s.around → repeat_of c ≡ Some r → no_last s.here.pieces ≡ false
    → Parsed (w ++ sign c ∷ []) (repeated_last r s).here s.around
parsed_again w s c r h e n =
    parsed_on w (sign c ∷ []) s.here (repeated_last r s).here s.around
    (λ v g. sequences_on (length s.around) v (sign c ∷ []) s.here.sequences s.here.pieces (again r s.here.pieces)
    (λ u i. pieces_again (length s.around) c r u s.here.pieces e n i) g) h

parsed_parted : (w : List Part) (s : Standing) → Parsed w s.here s.around → Parsed (w ++ bar ∷ []) (parted s).here s.around
parsed_parted w s h =
    parsed_on w (bar ∷ []) s.here (parted s).here s.around
    (λ v g. (v, [], refl, sequences_parsed (length s.around) v s.here.sequences s.here.pieces g, refl)) h

parsed_shut : (w : List Part) (l : Inside) (os : List Inside) → length os ≢ 0 → Parsed w l os
    → Parsed (w ++ closing ∷ []) (shut l os).here (shut l os).around
parsed_shut w l [] n h = absurd (n refl)
parsed_shut w l (o ∷ os) n (u, v, e, m, h, k) =
    subst (λ z. Parsed z (put (whole l) o) os) (sym (append_assoc u (opening ∷ v) (closing ∷ [])) ∙ ap (λ z. z ++ closing ∷ []) (sym e))
    (parsed_atom u (opening ∷ (v ++ closing ∷ [])) (standing o os) (whole l) k
    (in_brackets v refl m (sequences_parsed (suc (length os)) v l.sequences l.pieces h)))

-- ---- mark by mark

not_zero : (n k : ℕ) → n ≡ k → not (eqb n 0) ≡ true → k ≢ 0
not_zero n k e q z = let x = ap (λ i. not (eqb i 0)) (e ∙ z) in cc

rising : (o : Option ℕ) (g : Option PatternFault) → or_else (falls_at o) g ≡ None → o ≡ None
rising None g e = refl
rising (Some q) g e = cc

class_parsed : (before : Option Part) (many d p : ℕ) (body : List ℕ) → asked before many p (class body) ≡ None → Parses atom d (class body ∷ []) (among body)
class_parsed before many d p body e =
    let (f, g) = neither (falls_at (falling (spans (members (body_end p body) (inner body))))) _ e in
    let (c, l, i) = some_there (in_class (body_end p body) body) 256 (first_yes (some_below (in_class (body_end p body) body) 256) _ _ g) in
    one_class body c refl (rises_in (body_end p body) body (rising _ None (both f))) l (sym (class_has_right (body_end p body) body c) ∙ i)
  where
    both : {o : Option PatternFault} → o ≡ None → or_else o None ≡ None
    both e = ap (λ z. or_else z None) e

module _ (before : Option Part) (unclosed : List ℕ) (s : Standing) (a : Agrees before unclosed s) (p : ℕ) (w : List Part) (h : Parsed w s.here s.around) where
  parsed_mark : (m : Part) → Proper m → asked before (length unclosed) p m ≡ None → Parsed (w ++ m ∷ []) (grown m s).here (grown m s).around
  parsed_mark (plain b) k e = parsed_atom w (plain b ∷ []) s (literal b) h (plain_byte b refl (not_true (reserved b) (answered_yes _ _ e)))
  parsed_mark (escape b) k e = parsed_atom w (escape b ∷ []) s (literal b) h (escaped_byte b refl)
  parsed_mark (class body) k e = parsed_atom w (class body ∷ []) s (among body) h (class_parsed before (length unclosed) (length s.around) p body e)
  parsed_mark (sign c) k e =
      signs (λ n. asked before (length unclosed) p (sign n) ≡ None → Parsed (w ++ sign n ∷ []) (grown (sign n) s).here (grown (sign n) s).around)
      (λ q. parsed_again w s 42 Star h refl (last_there before unclosed s a p _ _ q))
      (λ q. parsed_again w s 43 Plus h refl (last_there before unclosed s a p _ _ q))
      (λ q. parsed_again w s 63 Optional h refl (last_there before unclosed s a p _ _ q))
      (λ q. parsed_atom w (sign 46 ∷ []) s dot h (any_byte refl))
      (λ q. parsed_parted w s h)
      (λ q. (w, [], refl, let l = ltb-true (length unclosed) 16 (first_yes _ _ _ q) in omega (arith, a.many), refl, h))
      (λ q. parsed_shut w s.here s.around (not_zero (length unclosed) (length s.around) a.many (first_yes _ _ _ q)) h)
      c k e

-- the marks that are left
pub parsed : (before : Option Part) (unclosed : List ℕ) (p : ℕ) (s : Standing) (w ms : List Part) → Agrees before unclosed s → Each Proper ms
    → Parsed w s.here s.around → first_no before unclosed p ms None ≡ None → Parses choice 0 (w ++ ms) (tree s ms)
parsed before unclosed p s w [] a k h e = by unclosed s.around a.many h e
  where
    by : (ps : List ℕ) (os : List Inside) → length ps ≡ length os → Parsed w s.here os → all_closed ps ≡ None → Parses choice 0 (w ++ []) (whole s.here)
    by [] [] n g q = subst (λ z. Parses choice 0 z (whole s.here)) (sym (append-nil w)) (sequences_parsed 0 w s.here.sequences s.here.pieces g)
    by [] (o ∷ os) n g q = absurd (omega arith)
    by (x ∷ ps) os n g q = cc
parsed before unclosed p s w (m ∷ ms) a k h e =
    let (f, g) = neither (asked before (length unclosed) p m) (first_no (Some m) (unclosed_behind p m unclosed) (p + width m) ms None) e in
    subst (λ z. Parses choice 0 z (tree (grown m s) ms)) (append_assoc w (m ∷ []) ms)
    (parsed (Some m) (unclosed_behind p m unclosed) (p + width m) (grown m s) (w ++ m ∷ []) ms (agrees_on before unclosed s a p m k.0 f) k.1
    (parsed_mark before unclosed s a p w h m k.0 f) g)

pub all_parsed : (ms : List Part) → Each Proper ms → first_no None [] 0 ms None ≡ None → Parses choice 0 ms (tree start ms)
all_parsed ms k e = parsed None [] 0 start [] ms (record { many = refl; first = refl }) k refl e
