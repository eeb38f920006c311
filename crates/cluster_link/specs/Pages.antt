-- The pages of a list, as they come over a connection: each is asked for by the token that the one before gave.
use Rattle.std.specs.Prelude.{◌≡◌, ◌≢◌, ◌⊎◌, ◌↔◌, ℕ, List, [], ◌∷◌, ◌++◌, map, All, Option, Some, None, Result, Ok, Err, Bool, false}
use Rattle.std.specs.List.{flat_map}
use Rattle.edge_io.specs.Sent.{Sent, IsWrittenOut, IsSentOn, IsBrokenOff}
use Rattle.kube_meta.specs.declared.resources.Resource.{Resource}
use Rattle.kube_meta.specs.Rows.{RowData}
use Rattle.line_stream.specs.Bodies.{IsBody, ReadsBody}
use Rattle.line_stream.specs.ClusterRequests.{page_request}
use Rattle.line_stream.specs.declared.asking.AskNo.{AskNo}
use Rattle.line_stream.specs.declared.asking.AskNo.TheVariants as ask
use Rattle.line_stream.specs.declared.refusal.LineNo.{LineNo}
use Rattle.watch_lines.specs.Pages.{IsPageText}
use Rattle.cluster_link.specs.Refusals.{request_refusal, reply_refusal}
use Rattle.cluster_link.specs.declared.refusal.ClusterNo.{ClusterNo}
use Rattle.cluster_link.specs.declared.refusal.ClusterNo.TheVariants as no

-- the most bytes of a page
abbrev pub most_page : ℕ
most_page = 268435456

-- A page: the token by which it was asked for, what was read before and not used, the bytes that were taken for it, its
-- text, what this tells, and what was read beyond it.
pub record PageData : Type 0 where
  pub asked : List ℕ
  pub before : List ℕ
  pub taken : List ℕ
  pub text : List ℕ
  pub rows : List RowData
  pub at : ℕ
  pub token : List ℕ
  pub beyond : List ℕ

-- it is the body of a reply, and its text tells that
pub record IsPageRead (resource : Resource) (page : PageData) : Type 0 where
  pub body : IsBody (page.before ++ page.taken) page.text page.beyond
  pub tells : IsPageText resource page.text page.rows page.at page.token

-- what pages come to: their rows, their revision, which there is none of before the first, and the token of what
-- follows
pub record GatheredData : Type 0 where
  pub rows : List RowData
  pub at : Option ℕ
  pub token : List ℕ

-- before the first page
abbrev pub no_pages : GatheredData
no_pages = record { rows = []; at = None; token = [] }

-- the requests for pages of a resource, of a namespace or of all
abbrev pub page_requests : Resource → Option (List ℕ) → List PageData → List ℕ
page_requests resource ns pages = flat_map (λ page. page_request resource ns page.asked) pages

-- the revision of pages: that of the first, if there is one
abbrev pub revision_of_pages : List PageData → Option ℕ
revision_of_pages [] = None
revision_of_pages (page ∷ pages) = Some page.at

-- These pages were read over a new connection. They are of one revision; each was asked for by the token of the one
-- before, the first by none; each stands behind what was read with the one before; these bytes were taken for them, and
-- `kept` was read beyond them.
pub record ArePages (resource : Resource) (pages : List PageData) (gathered : GatheredData) (taken kept : List ℕ) : Type 0 where
  pub read : All (IsPageRead resource) pages
  pub revision : gathered.at ≡ revision_of_pages pages
  pub one_revision : All (λ page. gathered.at ≡ Some page.at) pages
  pub rows : gathered.rows ≡ flat_map (λ page. page.rows) pages
  pub asked : map (λ page. page.asked) pages ++ gathered.token ∷ [] ≡ [] ∷ map (λ page. page.token) pages
  pub behind : map (λ page. page.before) pages ++ kept ∷ [] ≡ [] ∷ map (λ page. page.beyond) pages
  pub taken_are : taken ≡ flat_map (λ page. page.taken) pages

-- ---- one more page

-- the page is of the revision of those before it, or the first
abbrev pub IsOfRevision : Option ℕ → ℕ → Type 0
IsOfRevision None at = Unit {0}
IsOfRevision (Some before) at = before ≡ at

-- it is of another revision than those before it
abbrev pub IsOfOtherRevision : Option ℕ → ℕ → Type 0
IsOfOtherRevision None at = ⊥
IsOfOtherRevision (Some before) at = before ≢ at

-- what was gathered with a page that has these rows, this revision and this token
abbrev pub with_page : GatheredData → List RowData → ℕ → List ℕ → GatheredData
with_page gathered rows at token = record { rows = gathered.rows ++ rows; at = Some at; token = token }

-- what becomes of a page: it is added, and more are to come where it gives a token; or it is of another revision
abbrev pub AddsPage : GatheredData → List RowData → ℕ → List ℕ → Result Bool ClusterNo → GatheredData → Type 0
AddsPage old rows at token (Ok more) new = IsOfRevision old.at at × (new ≡ with_page old rows at token) × ((more ≡ false) ↔ (token ≡ []))
AddsPage old rows at token (Err why) new = (why ≡ no.Memory) ⊎ ((why ≡ no.MixedPages) × IsOfOtherRevision old.at at)

-- the text is a page that isn't added, or it is none
abbrev pub IsNoPage : Resource → GatheredData → List ℕ → ClusterNo → Type 0
IsNoPage resource gathered text why =
    (why ≡ no.Memory)
    ⊎ (((why ≡ no.BadLine) × ((rows : List RowData) (at : ℕ) (token : List ℕ) → ¬ (IsPageText resource text rows at token)))
    ⊎ ((why ≡ no.MixedPages) × ((rows : List RowData) × (at : ℕ) × (token : List ℕ) × IsPageText resource text rows at token × IsOfOtherRevision gathered.at at)))

-- what becomes of a body's text
abbrev pub TakesPage : Resource → GatheredData → List ℕ → Result Bool ClusterNo → GatheredData → Type 0
TakesPage resource old text (Ok more) new = (rows : List RowData) × (at : ℕ) × (token : List ℕ) × IsPageText resource text rows at token × AddsPage old rows at token (Ok more) new
TakesPage resource old text (Err why) new = IsNoPage resource old text why

-- no page stands in the bytes that were kept and taken: there is no body, or its text isn't one
abbrev pub HasNoPage : Resource → GatheredData → List ℕ → Option (List ℕ) → ClusterNo → Type 0
HasNoPage resource gathered bytes left why =
    ((fault : LineNo) × (kept : List ℕ) × (why ≡ reply_refusal fault) × ReadsBody most_page bytes kept left (Err fault))
    ⊎ ((text : List ℕ) × (after : List ℕ) × IsBody bytes text after × IsNoPage resource gathered text why)

-- the last of two requests wasn't sent on: it was broken off, or there was no memory for it and nothing of it was
-- written
abbrev pub IsLeftUnsent : List ℕ → List ℕ → AskNo → Sent → Type 0
IsLeftUnsent first last ask.WriteFault sent = IsBrokenOff (first ++ last) sent
IsLeftUnsent first last ask.Memory sent = IsWrittenOut first sent

-- behind some requests a page was asked for and wasn't to be had: its request wasn't sent on, and nothing was taken; or
-- none stands in the bytes
abbrev pub LacksPage : Resource → GatheredData → List ℕ → List ℕ → List ℕ → List ℕ → Option (List ℕ) → Sent → ClusterNo → Type 0
LacksPage resource gathered first last kept taken left sent why =
    ((fault : AskNo) × (why ≡ request_refusal fault) × IsLeftUnsent first last fault sent × (taken ≡ []))
    ⊎ (IsSentOn (first ++ last) sent × HasNoPage resource gathered (kept ++ taken) left why)

-- the page that was read behind what was gathered
pub record IsNextPage (resource : Resource) (old : GatheredData) (kept taken : List ℕ) (page : PageData) (new : GatheredData) (beyond : List ℕ) : Type 0 where
  pub asked : page.asked ≡ old.token
  pub before : page.before ≡ kept
  pub taken_is : page.taken ≡ taken
  pub after : page.beyond ≡ beyond
  pub read : IsPageRead resource page
  pub same : IsOfRevision old.at page.at
  pub new_is : new ≡ with_page old page.rows page.at page.token

-- what asking for one more page answers: it was read, and more are to come or not; or why it wasn't to be had
abbrev pub NextPage : Resource → Option (List ℕ) → GatheredData → List ℕ → List ℕ → Option (List ℕ) → Sent → Result Bool ClusterNo → GatheredData → List ℕ → Type 0
NextPage resource ns old kept taken left sent (Ok more) new beyond =
    IsSentOn (page_request resource ns old.token) sent × (page : PageData) × IsNextPage resource old kept taken page new beyond × ((more ≡ false) → new.token ≡ [])
NextPage resource ns old kept taken left sent (Err why) new beyond = LacksPage resource old [] (page_request resource ns old.token) kept taken left sent why
