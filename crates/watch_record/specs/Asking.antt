-- The watch that a header asks for: its namespace, empty for all, and its query, in which `watch` is true.
use Rattle.std.specs.Prelude.{◌≡◌, ℕ, Bool, true, false, ◌&&◌, List, [], codes, Option, Some, None, is_none, unwrap_or, Result, Ok}
use Rattle.std.specs.Result.{is_ok}
use Rattle.std.specs.Option.{option_map_or}
use Rattle.kube_meta.specs.Names.{is_namespace}
use Rattle.kube_meta.specs.declared.resources.Resource.{Resource}
use Rattle.http_read.specs.Queries.{query_pairs, first_value, unless_empty, is_truth}
use Rattle.select_all.specs.Reading.{IsRead, selection_of}
use Rattle.select_all.specs.declared.selection.Selection.{Selection}
use Rattle.select_all.specs.declared.selection.SelNo.{SelNo}
use Rattle.watch_rules.specs.Options.{Query, query_fault, MeansWatch}
use Rattle.watch_rules.specs.declared.ask.WatchAsk.{WatchAsk}
use Rattle.watch_record.specs.declared.header.Header.{Header}

-- the parameters of the watch's request: names and values, in the order of the query
abbrev pub pairs_of : Header → Query
pairs_of header = query_pairs header.query

-- the namespace that the header names; nothing where that text is empty
abbrev pub asked_namespace : Header → Option (List ℕ)
asked_namespace header = unless_empty (Some header.namespace)

-- the first value of a name, and no text where there is none
abbrev pub first_text : List ℕ → Query → List ℕ
first_text name query = unwrap_or (unless_empty (first_value name query)) []

-- what the texts of the two selectors are read as, or the first fault of one
abbrev pub selection_in : Header → Result Selection SelNo
selection_in header =
    selection_of header.resource (asked_namespace header) (first_text (codes "labelSelector") (pairs_of header)) (first_text (codes "fieldSelector") (pairs_of header))

-- the query asks for a watch
abbrev pub is_watch_request : Query → Bool
is_watch_request query = option_map_or is_truth (first_value (codes "watch") query) false

-- nothing refuses it
abbrev pub is_asked : Header → Bool
is_asked header =
    option_map_or is_namespace (asked_namespace header) true
    && (is_ok (selection_in header) && (is_none (query_fault (pairs_of header)) && is_watch_request (pairs_of header)))

-- what a reader of two selectors keeps: nothing where one of them is refused, or else the selection that they stand for
abbrev pub KeepsSelection : Resource → Option (List ℕ) → List ℕ → List ℕ → Option Selection → Type 0
KeepsSelection resource ns label field None = is_ok (selection_of resource ns label field) ≡ false
KeepsSelection resource ns label field (Some selection) =
    (selection_of resource ns label field ≡ Ok selection) × IsRead resource ns label field selection

-- the texts of the two selectors stand for this selection: the one by the grammar of label selectors, the other by that of
-- field selectors
abbrev pub AsksFor : Header → Selection → Type 0
AsksFor header selection =
    IsRead header.resource (asked_namespace header) (first_text (codes "labelSelector") (pairs_of header))
    (first_text (codes "fieldSelector") (pairs_of header)) selection

-- what is asked for
pub record IsAskOf (header : Header) (ask : WatchAsk) : Type 0 where
  pub selection : Selection
  pub selects : AsksFor header selection
  pub means : MeansWatch selection (pairs_of header) ask
