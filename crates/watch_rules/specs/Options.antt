-- The options of a watch, which stand in the query of its request: `resourceVersion`, `resourceVersionMatch`,
-- `sendInitialEvents`, `allowWatchBookmarks` and `timeoutSeconds` (Kubernetes API concepts, "Resource versions" and
-- "Streaming lists"; KEP-956, KEP-3157). Others, `limit` and `continue` among them, are passed over.
use Rattle.std.specs.Prelude.{◌≡◌, ℕ, zero, suc, Bool, true, false, not, ◌&&◌, List, [], ◌∷◌, find, bytes_eq, codes, nat_le, Option, Some, None, is_some, is_none, unwrap_or, option_map, option_and_then, if◌then◌else◌}
use Rattle.std.specs.Option.{option_map_or}
use Rattle.std.specs.Result.{result_ok}
use Rattle.kube_meta.specs.Revisions.{revision_of}
use Rattle.http_read.specs.Queries.{first_value, unless_empty, is_truth}
use Rattle.select_all.specs.declared.selection.Selection.{Selection}
use Rattle.select_all.specs.declared.selection.Meaning.TheVariants.{MostRecent, Any, NotOlder}
use Rattle.watch_rules.specs.declared.starts.Start.{Start}
use Rattle.watch_rules.specs.declared.starts.Start.TheVariants.{FromState, FromHere, FromRevision}
use Rattle.watch_rules.specs.declared.refusal.WatchNo.{WatchNo}
use Rattle.watch_rules.specs.declared.refusal.WatchNo.TheVariants.{BadRevision, MatchWithoutInitial, InitialNeedsNotOlder, BadTimeout}
use Rattle.watch_rules.specs.declared.ask.WatchAsk.{WatchAsk}

-- the pairs of a query, in order
abbrev pub Query : Type 0
Query = List (List ℕ × List ℕ)

-- ---- what is set; an empty value counts as none, except for the two truth parameters

-- `resourceVersion`, by which the start is chosen; an empty one counts as unset
abbrev pub revision_text : Query → Option (List ℕ)
revision_text query = unless_empty (first_value (codes "resourceVersion") query)

-- `resourceVersionMatch`, which a watch has with `sendInitialEvents` alone; an empty one counts as unset
abbrev pub match_text : Query → Option (List ℕ)
match_text query = unless_empty (first_value (codes "resourceVersionMatch") query)

-- `timeoutSeconds`, after which the server ends the watch; an empty one counts as unset
abbrev pub timeout_text : Query → Option (List ℕ)
timeout_text query = unless_empty (first_value (codes "timeoutSeconds") query)

-- `sendInitialEvents`: whether the objects that stand are told as events first (KEP-3157); nothing where it isn't given
abbrev pub initial_events : Query → Option Bool
initial_events query = option_map is_truth (first_value (codes "sendInitialEvents") query)

-- `allowWatchBookmarks`: whether bookmarks may come (KEP-956); they may not where it isn't given
abbrev pub allows_bookmarks : Query → Bool
allows_bookmarks query = option_map_or is_truth (first_value (codes "allowWatchBookmarks") query) false

-- ---- what the texts say; numbers are written as revisions are

-- the number that a text says, in digits with no leading zero, up to 2^62; nothing where it says none
abbrev pub revision_number : List ℕ → Option ℕ
revision_number text = result_ok (revision_of text)

-- a time limit is at most 1,000,000 seconds
abbrev pub timeout_seconds : List ℕ → Option ℕ
timeout_seconds text = option_and_then (λ number. if nat_le number 1000000 then Some number else None) (revision_number text)

-- the match asks for a state at the given revision or a newer one, as the initial events of a watch must be asked for
abbrev pub is_not_older_than : List ℕ → Bool
is_not_older_than text = bytes_eq text (codes "NotOlderThan")

-- ---- the refusals

-- there is this reason for refusing the query, be there others or not
abbrev pub has_fault : Query → WatchNo → Bool
has_fault query BadRevision = option_map_or (λ text. is_none (revision_number text)) (revision_text query) false
has_fault query MatchWithoutInitial = is_some (match_text query) && is_none (initial_events query)
has_fault query InitialNeedsNotOlder = is_some (initial_events query) && not (option_map_or is_not_older_than (match_text query) false)
has_fault query BadTimeout = option_map_or (λ text. is_none (timeout_seconds text)) (timeout_text query) false

-- why a query is refused: the first reason that holds, in this order; nothing where it is accepted
abbrev pub query_fault : Query → Option WatchNo
query_fault query = find (has_fault query) (BadRevision ∷ MatchWithoutInitial ∷ InitialNeedsNotOlder ∷ BadTimeout ∷ [])

-- ---- the start, by sendInitialEvents and the revision

-- where a watch starts, by `sendInitialEvents` and a revision, of which 0 is any (API concepts, "Semantics for watch"):
-- with the events of a state, or with the changes since a state or since the revision
abbrev pub start_of : Option Bool → Option ℕ → Start
start_of None None = FromState MostRecent
start_of None (Some zero) = FromState Any
start_of None (Some (suc r)) = FromRevision (suc r)
start_of (Some true) None = FromState MostRecent
start_of (Some true) (Some zero) = FromState Any
start_of (Some true) (Some (suc r)) = FromState (NotOlder (suc r))
start_of (Some false) None = FromHere MostRecent
start_of (Some false) (Some zero) = FromHere Any
start_of (Some false) (Some (suc r)) = FromRevision (suc r)

-- ---- what is asked for

-- No refusal holds, and this is what the query asks for. A closing bookmark ends the initial events where these are
-- sent and bookmarks are allowed; 0 seconds stand where no time limit is set.
pub record MeansWatch (selection : Selection) (query : Query) (ask : WatchAsk) : Type 0 where
  pub unrefused : query_fault query ≡ None
  pub of : ask.selection ≡ selection
  pub starts : ask.start ≡ start_of (initial_events query) (option_and_then revision_number (revision_text query))
  pub closes : ask.closing ≡ (unwrap_or (initial_events query) false && allows_bookmarks query)
  pub marks : ask.bookmarks ≡ allows_bookmarks query
  pub ends : ask.timeout_s ≡ unwrap_or (option_and_then timeout_seconds (timeout_text query)) 0
