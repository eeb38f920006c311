-- What a list answers, between what was known before and what is known afterwards.
use Rattle.std.specs.Prelude.{◌≡◌, ◌↔◌, ℕ, List, Option, option_map, Result, Ok, Err}
use Rattle.kube_meta.specs.Rows.{RowData, behind}
use Rattle.rev_front.specs.Passes.{Pass}
use Rattle.rev_log.specs.Changes.{RevisionData}
use Rattle.up_api.specs.Sections.{log_of}
use Rattle.select_all.specs.Listings.{IsListing}
use Rattle.list_rules.specs.declared.ask.ListAsk.{ListAsk}
use Rattle.list_rules.specs.Pages.{page_of, next_of, left_of, remaining_of}
use Rattle.list_rules.specs.Tokens.{token_text}
use Rattle.json_obj.specs.declared.replies.More.{More}
use Rattle.client_api.specs.declared.answers.ListNo.{ListNo}
use Rattle.client_api.specs.declared.answers.ListNo.TheVariants.{Expired, TooLarge, Absent, Memory}
use Rattle.client_api.specs.Answers.{ListedData}
use Rattle.client_api.specs.Fresh.{IsFresh}
use Rattle.client_api.specs.Refusals.{IsTooLarge, IsExpired}

-- the next page: its token, at the revision of this one and behind this key, and how many rows are left, where that
-- is told
abbrev pub more_at : ListAsk → ℕ → ℕ → List ℕ → More
more_at ask rev left key = record {
  token = token_text ask.selection ask.label_text ask.field_text rev key;
  left = remaining_of ask.selection left;
}

-- what is told of a next page: there is one exactly where some rows are left of those from where this page begins
abbrev pub more_of : ListAsk → ℕ → List RowData → Option More
more_of ask rev rows = option_map (more_at ask rev (left_of ask.limit rows)) (next_of ask.limit rows)

-- the page that begins with these rows: the first `limit` of them, or all where there is no limit
abbrev pub page_at : ListAsk → ℕ → List RowData → ListedData
page_at ask rev rows = record { rev = rev; rows = page_of ask.limit rows; more = more_of ask rev rows }

-- The rows are the page that begins with `all`, and `left` tells what a reply tells of the rows left behind it: it is 0
-- exactly where none are, and their number where that is told.
pub record IsCut (ask : ListAsk) (all rows : List RowData) (left : ℕ) : Type 0 where
  pub rows_are : rows ≡ page_of ask.limit all
  pub none_left : (left ≡ 0) ↔ (left_of ask.limit all ≡ 0)
  pub told : remaining_of ask.selection left ≡ remaining_of ask.selection (left_of ask.limit all)

-- A list: at a fresh revision, of the selection's rows there, in the order of their keys, those behind the ask's key,
-- the first `limit` of them where there is a limit; and whether more are left.
pub record IsListed (base : List RowData) (p : Pass RevisionData) (ask : ListAsk) (listed : ListedData) (q : Pass RevisionData) : Type 0 where
  pub all : List RowData
  pub fresh : IsFresh p ask.meaning listed.rev q
  pub listing : IsListing (log_of base q) ask.selection listed.rev all
  pub rows_are : listed.rows ≡ page_of ask.limit (behind ask.after all)
  pub more_is : listed.more ≡ more_of ask listed.rev (behind ask.after all)

-- what a list answers; of want of memory nothing is said
abbrev pub IsListAnswer : List RowData → Pass RevisionData → ListAsk → Result ListedData ListNo → Pass RevisionData → Type 0
IsListAnswer base p ask (Ok listed) q = IsListed base p ask listed q
IsListAnswer base p ask (Err (Expired asked floor)) q = IsExpired ask.meaning asked floor q
IsListAnswer base p ask (Err (TooLarge asked current)) q = IsTooLarge p ask.meaning asked current q
IsListAnswer base p ask (Err (Absent at)) q = ⊥
IsListAnswer base p ask (Err Memory) q = Unit {0}
