-- A log that nobody else holds, with its caches and what is known of it, as plain data.
use Rattle.std.specs.Prelude.{◌≡◌, ℕ}
use Rattle.rev_front.specs.Passes.{Pass, empty_log, pass_from}
use Rattle.rev_log.specs.Changes.{RevisionData}
use Rattle.up_api.specs.declared.settings.Settings.{Settings}
use Rattle.up_store.specs.Stores.{StoreData, KnowsAll}
use Rattle.local_client.specs.Caches.{CachesData, SoleData, window_in}

-- the store, the caches, and what is known of the log
pub record CachedLogData : Type 0 where
  pub store : StoreData
  pub caches : CachesData
  pub pass : Pass RevisionData

-- a store and its caches, of whose log this is known
abbrev pub known_log : SoleData → Pass RevisionData → CachedLogData
known_log sole pass = record { store = sole.store; caches = sole.caches; pass = pass }

-- all of the log is known
abbrev pub KnowsWhole : CachedLogData → Type 0
KnowsWhole log = KnowsAll log.store.whole log.pass

-- how many changes of a resource the caches keep at least
abbrev pub window_of : CachedLogData → ℕ
window_of log = window_in log.caches

-- a new log, of which all is known and nothing was loaded
pub record IsNewLog (first : ℕ) (settings : Settings) (log : CachedLogData) : Type 0 where
  pub pass_is : log.pass ≡ pass_from (empty_log first) log.pass.seat
  pub whole : KnowsWhole log
  pub history_is : log.store.history ≡ settings.history
  pub window_is : window_of log ≡ settings.window
