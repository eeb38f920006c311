-- The queue of a lane, at the end at which batches are pushed, as plain data.
use Rattle.std.specs.Prelude.{ℕ, List}
use Rattle.watch_lane.specs.Batches.{BatchData}

-- how many batches it has room for, and those that it has taken since it was made, the oldest first
pub record QueueData : Type 0 where
  pub capacity : ℕ
  pub sent : List BatchData
