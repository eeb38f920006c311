-- How long a peer is left alone before it is asked again.
use Rattle.std.specs.Prelude.{ℕ, ◌*◌, min}

-- the rest behind one of so many milliseconds: twice as long, and five seconds at most
abbrev pub longer_wait : ℕ → ℕ
longer_wait ms = min (2 * ms) 5000
