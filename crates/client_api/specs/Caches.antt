-- Of a client that is alone and knows the log whole: how often a call reads the store's states and histories, and that
-- answers are those of the caches.
use Rattle.std.specs.Prelude.{◌≡◌, ℕ, ◌+◌, ◌≤◌, IfOk, Result}
use Rattle.std.specs.declared.alloc.AllocError.{AllocError}
use Rattle.kube_meta.specs.declared.resources.Resource.{Resource}
use Rattle.select_all.specs.declared.selection.Meaning.{Meaning}
use Rattle.select_all.specs.declared.selection.Meaning.TheVariants.{Exact}
use Rattle.list_rules.specs.declared.ask.ListAsk.{ListAsk}
use Rattle.list_rules.specs.declared.get.GetAsk.{GetAsk}
use Rattle.watch_rules.specs.declared.ask.WatchAsk.{WatchAsk}
use Rattle.watch_rules.specs.declared.starts.Start.{Start}
use Rattle.watch_rules.specs.declared.starts.Start.TheVariants.{FromRevision}
use Rattle.client_api.specs.declared.answers.ListNo.{ListNo}
use Rattle.client_api.specs.declared.answers.Took.{Took}
use Rattle.client_api.specs.declared.answers.Took.TheVariants.{Events, Quiet, Lost}
use Rattle.client_api.specs.Answers.{GotData, ListedData, BegunData}
use Rattle.client_api.specs.Facts.{Cached, Watched}

-- the store is read at most once, and not at all where the cache isn't behind the compaction floor
pub record ReadsCache (resource : Resource) (floor : ℕ) (old new : Cached) : Type 0 where
  pub unread : floor ≤ old.ends resource → new.reads ≡ old.reads
  pub few : (old.reads ≤ new.reads) × (new.reads ≤ old.reads + 1)

-- what is read of the store by a read of this resource; and its answer is within the cache
pub record AnswersFrom {A E : Type 0} (within : A → ℕ → Type 0) (resource : Resource) (floor : ℕ) (old : Cached) (answer : Result A E) (new : Cached) : Type 0 where
  pub reads : ReadsCache resource floor old new
  pub of_cache : IfOk answer (λ given. within given (new.ends resource))

-- ---- each call

-- at one revision alone the store may be read
abbrev pub UnlessExact : Meaning → Type 0 → Type 0
UnlessExact (Exact asked) fact = Unit {0}
UnlessExact meaning fact = fact

abbrev pub ListsCache : ListAsk → ℕ → Cached → Result ListedData ListNo → Cached → Type 0
ListsCache ask floor old answer new =
    UnlessExact ask.meaning (AnswersFrom (λ listed end. listed.rev ≤ end) ask.selection.resource floor old answer new)

abbrev pub GetsCache : GetAsk → ℕ → Cached → Result GotData ListNo → Cached → Type 0
GetsCache ask floor old answer new = AnswersFrom (λ got end. got.at ≤ end) ask.resource floor old answer new

-- a start from a revision is at that one, reached or not
abbrev pub StartsWithin : Start → BegunData → ℕ → Type 0
StartsWithin (FromRevision revision) begun end = Unit {0}
StartsWithin start begun end = begun.at ≤ end

abbrev pub BeginsCache : WatchAsk → ℕ → Cached → Result BegunData ListNo → Cached → Type 0
BeginsCache ask floor old answer new = AnswersFrom (StartsWithin ask.start) ask.selection.resource floor old answer new

-- events are told up to the cache's end at most
abbrev pub TakesWithin : Took → ℕ → Type 0
TakesWithin (Events from upto lines) end = upto ≤ end
TakesWithin (Quiet upto reached) end = Unit {0}
TakesWithin (Lost at floor) end = Unit {0}

abbrev pub TakesCache : Watched → ℕ → Cached → Result Took AllocError → Cached → Type 0
TakesCache watched floor old answer new = AnswersFrom TakesWithin watched.selection.resource floor old answer new
