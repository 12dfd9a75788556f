-- A buffer that a run of bytes is put into, as far as there is room.
use Rattle.std.specs.Prelude.{◌≡◌, ℕ, ◌-◌, ◌^◌, min, List, ◌++◌, length, take, drop}
use Rattle.patterns.specs.declared.sink.Sink.{Sink}

-- the buffer with the bytes w at its front, as many as it takes
abbrev pub laid : List ℕ → List ℕ → List ℕ
laid w buffer = take (length buffer) w ++ drop (length w) buffer

-- The bytes w, and nothing else, were put into what was `buffer` once. They are counted whether there was room for them or not,
-- up to the greatest number.
pub record Put (buffer w : List ℕ) (sink : Sink) : Type 0 where
  pub bytes : sink.buffer.now ≡ laid w buffer
  pub many : sink.wanted ≡ min (length w) (2 ^ 64 - 1)

-- putting w in leads from what a sink holds to what another does, in the same buffer
pub record Adds (sink : Sink) (w : List ℕ) (sink' : Sink) : Type 0 where
  pub same : sink'.buffer.ghost_name ≡ sink.buffer.ghost_name
  pub puts : (buffer v : List ℕ) → Put buffer v sink → Put buffer (v ++ w) sink'
