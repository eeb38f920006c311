-- How many connections a server accepts, and where it may end.
use Rattle.std.specs.Prelude.{ℕ, ◌^◌, ◌<◌, ◌≤◌, ◌==◌, ◌⊎◌, if◌then◌else◌}

-- the most connections that are accepted, where so many are asked for: 0 asks for as many as can be counted
abbrev pub most_connections : ℕ → ℕ
most_connections connections = if connections == 0 then 2 ^ 62 else connections

-- whoever accepts may end: no more connections will come, or accepting failed, or `limit` of them were given
abbrev pub MayEnd : Type 0 → ℕ → ℕ → ℕ → Type 0
MayEnd over faults given limit = ∥ over ∥₁ ⊎ (0 < faults) ⊎ (limit ≤ given)
