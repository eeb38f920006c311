-- The ends in memory, as contracts see them.
use Rattle.std.specs.Prelude.{◌≡◌, ℕ, ◌*◌, ◌-◌, min, nat_lt, List, [], ◌∷◌, ◌++◌, drop, false, Option, None, Some, if◌then◌else◌, zero, suc}
use Rattle.edge_io.specs.Counts.{counted, last_count}
use Rattle.edge_io.specs.declared.clock.Reading.{Reading}

-- a source in memory: the bytes still to come, the most that a call gives, the numbers of the calls that fail, how many
-- calls there were, and how many of them failed
pub record SourceState : Type 0 where
  pub left : List ℕ
  pub step : ℕ
  pub fails : List ℕ
  pub calls : ℕ
  pub faults : ℕ

-- a sink in memory: the bytes that were written, and the rest as of a source; writes and flushes are counted together
pub record SinkState : Type 0 where
  pub written : List ℕ
  pub step : ℕ
  pub fails : List ℕ
  pub calls : ℕ
  pub faults : ℕ

-- the source after it gave its first `n` bytes
abbrev pub after_read : SourceState → ℕ → SourceState
after_read source n = record source { left = drop n source.left; calls = counted source.calls }

-- the source after a call that failed
abbrev pub after_read_fault : SourceState → SourceState
after_read_fault source = record source { calls = counted source.calls; faults = counted source.faults }

-- the sink after it took these bytes
abbrev pub after_write : SinkState → List ℕ → SinkState
after_write sink taken = record sink { written = sink.written ++ taken; calls = counted sink.calls }

-- the sink after a call that failed
abbrev pub after_write_fault : SinkState → SinkState
after_write_fault sink = record sink { calls = counted sink.calls; faults = counted sink.faults }

-- the greatest multiple of 1000 that fits into 64 bits is this often 1000
abbrev pub most_steps : ℕ
most_steps = 18446744073709551

-- the reading of a step clock after `made` readings
abbrev pub step_reading : ℕ → Reading
step_reading made = record { ms = 1000 * min made most_steps; stop = false }

-- its first `made` readings
abbrev pub step_readings : ℕ → List Reading
step_readings zero = []
step_readings (suc made) = step_readings made ++ (step_reading made ∷ [])

-- all its readings, where the count of them isn't used up
abbrev pub told_readings : ℕ → Option (List Reading)
told_readings made = if nat_lt made last_count then Some (step_readings made) else None

-- the last of its first `made` readings, 0 where there was none
abbrev pub step_last : ℕ → ℕ
step_last made = 1000 * min (made - 1) most_steps

-- a connection in memory: its source, its sink, and the number of readings that its clock made
abbrev pub Connection : Type 0
Connection = SourceState × SinkState × ℕ

-- a listener in memory: the connections that it still has to hand out, and how many it did
pub record ListenerState : Type 0 where
  pub waiting : List Connection
  pub given : ℕ

-- a net in memory: its connections, its count of faults, and what the listener that was shut last had handed out, and
-- which connections it had left
pub record NetState : Type 0 where
  pub waiting : List Connection
  pub faults : ℕ
  pub served : ℕ
  pub left : Option (List Connection)

-- what is left in the source that the next dial gives
abbrev pub next_peer : List Connection → Option (List ℕ)
next_peer [] = None
next_peer (connection ∷ others) = Some connection.0.left

-- the two ends of a connection, with their counts of faults at 0
abbrev pub fresh_source : SourceState → SourceState
fresh_source source = record source { faults = 0 }

abbrev pub fresh_sink : SinkState → SinkState
fresh_sink sink = record sink { faults = 0 }

-- these ends are those of the first connection, and the others are left
abbrev pub IsFirstDialled : List Connection → SourceState × SinkState → List Connection → Type 0
IsFirstDialled [] ends left = ⊥
IsFirstDialled (connection ∷ others) ends left =
    (ends.0 ≡ fresh_source connection.0) × (ends.1 ≡ fresh_sink connection.1) × (left ≡ others)
