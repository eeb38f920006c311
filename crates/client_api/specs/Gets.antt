-- What a get answers, between what was known before and what is known afterwards.
use Rattle.std.specs.Prelude.{◌≡◌, ℕ, List, Some, None, Result, Ok, Err}
use Rattle.kube_meta.specs.Rows.{RowData}
use Rattle.rev_front.specs.Passes.{Pass}
use Rattle.rev_log.specs.Changes.{RevisionData}
use Rattle.rev_log.specs.States.{row_at}
use Rattle.up_api.specs.Sections.{log_of}
use Rattle.list_rules.specs.declared.get.GetAsk.{GetAsk}
use Rattle.client_api.specs.declared.answers.ListNo.{ListNo}
use Rattle.client_api.specs.declared.answers.ListNo.TheVariants.{Expired, TooLarge, Absent, Memory}
use Rattle.client_api.specs.Answers.{GotData}
use Rattle.client_api.specs.Fresh.{IsFresh}
use Rattle.client_api.specs.Refusals.{IsTooLarge}

-- a get: the row that stands at the key at a fresh revision
pub record IsGot (base : List RowData) (p : Pass RevisionData) (ask : GetAsk) (got : GotData) (q : Pass RevisionData) : Type 0 where
  pub fresh : IsFresh p ask.meaning got.at q
  pub row : row_at (log_of base q) ask.resource got.at ask.key ≡ Some got.row

-- no row stands at the key at a fresh revision
pub record IsAbsent (base : List RowData) (p : Pass RevisionData) (ask : GetAsk) (at : ℕ) (q : Pass RevisionData) : Type 0 where
  pub fresh : IsFresh p ask.meaning at q
  pub row : row_at (log_of base q) ask.resource at ask.key ≡ None

-- what a get answers, which is never of one revision alone; of want of memory nothing is said
abbrev pub IsGetAnswer : List RowData → Pass RevisionData → GetAsk → Result GotData ListNo → Pass RevisionData → Type 0
IsGetAnswer base p ask (Ok got) q = IsGot base p ask got q
IsGetAnswer base p ask (Err (Expired asked floor)) q = ⊥
IsGetAnswer base p ask (Err (TooLarge asked current)) q = IsTooLarge p ask.meaning asked current q
IsGetAnswer base p ask (Err (Absent at)) q = IsAbsent base p ask at q
IsGetAnswer base p ask (Err Memory) q = Unit {0}
