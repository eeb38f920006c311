-- A list: all of a cluster's objects of a selection, at one revision, as its pages tell them.
use Rattle.std.specs.Prelude.{◌≡◌, ◌⊎◌, ℕ, ◌≤◌, ◌^◌, IsTrue, List, [], ◌++◌, All, Option, Some, Result, Ok, Err, IfSome}
use Rattle.edge_io.specs.Sent.{Sent, IsWrittenOut, IsSentOn}
use Rattle.kube_meta.specs.Names.{IsNamespace}
use Rattle.kube_meta.specs.Rows.{RowData, AreRising}
use Rattle.line_stream.specs.ClusterRequests.{page_request}
use Rattle.select_all.specs.declared.selection.Selection.{Selection}
use Rattle.select_all.specs.Reading.{IsRead}
use Rattle.select_all.specs.Selecting.{selects}
use Rattle.cluster_link.specs.Pages.{PageData, GatheredData, ArePages, LacksPage, page_requests}
use Rattle.cluster_link.specs.declared.refusal.ClusterNo.{ClusterNo}
use Rattle.cluster_link.specs.declared.refusal.ClusterNo.TheVariants as no

-- whose it is, its rows, and the revision at which they stand
pub record ListData : Type 0 where
  pub selection : Selection
  pub rows : List RowData
  pub at : ℕ

-- all objects of a resource, or those of a namespace
pub record IsOfAll (s : Selection) : Type 0 where
  pub read : IsRead s.resource s.ns [] [] s
  pub namespace : IfSome s.ns IsNamespace

-- a row of a list at a revision: its object is selected, and it isn't younger
abbrev pub IsTestedRow : Selection → ℕ → RowData → Type 0
IsTestedRow s at row = (row.rev ≤ at) × IsTrue (selects s row.obj)

-- rows that a list may have: such ones, in the order of their keys
pub record AreListed (s : Selection) (at : ℕ) (rows : List RowData) : Type 0 where
  pub rising : AreRising rows
  pub each : All (IsTestedRow s at) rows

-- what holds of each list
pub record IsClusterList (list : ListData) : Type 0 where
  pub all : IsOfAll list.selection
  pub some : 1 ≤ list.at
  pub bounded : list.at ≤ 2 ^ 62
  pub rows : AreListed list.selection list.at list.rows

-- what was gathered is rows that a list may have
abbrev pub IsGathered : Selection → GatheredData → Type 0
IsGathered s gathered = (at : ℕ) × (gathered.at ≡ Some at) × AreListed s at gathered.rows

-- ---- the bytes

-- The bytes that were taken are the pages of the list: each was asked for by the token of the one before, and the last
-- gives none. The requests were sent on, and nothing else.
pub record HasList (s : Selection) (taken : List ℕ) (sent : Sent) (list : ListData) : Type 0 where
  pub selection : list.selection ≡ s
  pub pages : List PageData
  pub kept : List ℕ
  pub are : ArePages s.resource pages (record { rows = list.rows; at = Some list.at; token = [] }) taken kept
  pub requests : IsSentOn (page_requests s.resource s.ns pages) sent

-- behind some pages one more was asked for, and wasn't to be had
pub record LacksNext (s : Selection) (taken : List ℕ) (left : Option (List ℕ)) (sent : Sent) (why : ClusterNo) : Type 0 where
  pub pages : List PageData
  pub gathered : GatheredData
  pub first : List ℕ
  pub last : List ℕ
  pub kept : List ℕ
  pub are : ArePages s.resource pages gathered first kept
  pub taken_are : taken ≡ first ++ last
  pub lacks : LacksPage s.resource gathered (page_requests s.resource s.ns pages) (page_request s.resource s.ns gathered.token) kept last left sent why

-- the pages were read, and aren't those of a list: their rows aren't such rows, or there are too many
pub record LacksRows (s : Selection) (taken : List ℕ) (sent : Sent) (why : ClusterNo) : Type 0 where
  pub pages : List PageData
  pub gathered : GatheredData
  pub kept : List ℕ
  pub are : ArePages s.resource pages gathered taken kept
  pub requests : IsWrittenOut (page_requests s.resource s.ns pages) sent
  pub fault : ((why ≡ no.BadLine) × (gathered.token ≡ []) × ¬ (IsGathered s gathered)) ⊎ (why ≡ no.TooLong)

-- what the reading of a list answers that took these bytes
abbrev pub AnswersList : Selection → List ℕ → Option (List ℕ) → Sent → Result ListData ClusterNo → Type 0
AnswersList s taken left sent (Ok list) = HasList s taken sent list
AnswersList s taken left sent (Err why) = LacksNext s taken left sent why ⊎ LacksRows s taken sent why

-- and that of its pages
pub record HoldsPages (s : Selection) (taken : List ℕ) (sent : Sent) (gathered : GatheredData) : Type 0 where
  pub pages : List PageData
  pub kept : List ℕ
  pub are : ArePages s.resource pages gathered taken kept
  pub last : gathered.token ≡ []
  pub requests : IsSentOn (page_requests s.resource s.ns pages) sent

abbrev pub AnswersPages : Selection → List ℕ → Option (List ℕ) → Sent → Result (Unit {0}) ClusterNo → GatheredData → Type 0
AnswersPages s taken left sent (Ok u) gathered = HoldsPages s taken sent gathered
AnswersPages s taken left sent (Err why) gathered = LacksNext s taken left sent why ⊎ LacksRows s taken sent why
