-- What a text means to a book. A text is a list of codes.
use Rattle.std.specs.Prelude.{ℕ, List, [], ◌∷◌}
use Rattle.states.specs.Sets.{State, Rules}
use Rattle.books.specs.Meaning.{Meaning}

-- the state that a text leads to from s, by a rule for the next state
abbrev pub after : (State → ℕ → State) → State → List ℕ → State
after next s [] = s
after next s (c ∷ cs) = after next (next s c) cs

-- the rules that a whole text meets: those ended by the state that it leads to from the start
abbrev pub meets : Meaning → List ℕ → Rules
meets m text = m.ended (after m.next m.start text)
