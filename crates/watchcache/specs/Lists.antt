-- What a cluster sends that is asked for the objects of a resource, where a server is to mirror them.
use Rattle.std.specs.Prelude.{◌≡◌, ◌⊎◌, ℕ, List, [], ◌++◌, Option, Some, IfSome, Result, Ok, Err, if◌then◌else◌, ◌<◌, ⊤}
use Rattle.client_api.specs.declared.resources.Resources.{Resources}
use Rattle.cluster_link.specs.Lists.{ListData, IsClusterList, IsGathered}
use Rattle.cluster_link.specs.Pages.{ArePages, GatheredData, HasNoPage, PageData}
use Rattle.cluster_link.specs.declared.refusal.ClusterNo.{ClusterNo}
use Rattle.cluster_link.specs.declared.refusal.ClusterNo.TheVariants.{ReadFault, WriteFault, Memory, BadLine, TooLong}
use Rattle.edge_io.specs.Told.{prepended}
use Rattle.kube_meta.specs.declared.resources.Resource.{Resource}
use Rattle.kube_meta.specs.declared.resources.Resource.TheVariants.{Pods, ConfigMaps, Deployments}
use Rattle.select_all.specs.Reading.{IsRead}
use Rattle.select_all.specs.declared.selection.Selection.{Selection}
use Rattle.watchcache.specs.declared.lists.NoList.{NoList}
use Rattle.watchcache.specs.declared.lists.NoList.TheVariants as no_list

-- a selection of all objects of a resource, in this namespace or in all
abbrev pub IsOfResource : Resource → Option (List ℕ) → Selection → Type 0
IsOfResource resource namespace s = IsRead resource namespace [] [] s

-- the resource that is listed first of these: the pods, else the config maps, else the deployments
abbrev pub first_listed : Resources → Resource
first_listed these = if these.pods then Pods else (if these.config_maps then ConfigMaps else Deployments)

-- what it sends begins with the pages of a list of the objects
pub record SendsList (resource : Resource) (namespace : Option (List ℕ)) (bytes : List ℕ) : Type 0 where
  pub taken : List ℕ
  pub left : Option (List ℕ)
  pub list : ListData
  pub pages : List PageData
  pub kept : List ℕ
  pub of_resource : IsOfResource resource namespace list.selection
  pub lawful : IsClusterList list
  pub front : Some bytes ≡ prepended taken left
  pub are : ArePages resource pages (record { rows = list.rows; at = Some list.at; token = [] }) taken kept

-- behind some pages there is none, for this reason
pub record SendsNoPage (resource : Resource) (why : ClusterNo) (bytes : List ℕ) : Type 0 where
  pub first : List ℕ
  pub last : List ℕ
  pub left : Option (List ℕ)
  pub pages : List PageData
  pub gathered : GatheredData
  pub kept : List ℕ
  pub front : Some bytes ≡ prepended (first ++ last) left
  pub are : ArePages resource pages gathered first kept
  pub lacks : HasNoPage resource gathered (kept ++ last) left why

-- the pages aren't those of a list, or are too long
pub record SendsNoRows (resource : Resource) (namespace : Option (List ℕ)) (why : ClusterNo) (bytes : List ℕ) : Type 0 where
  pub taken : List ℕ
  pub left : Option (List ℕ)
  pub selection : Selection
  pub pages : List PageData
  pub gathered : GatheredData
  pub kept : List ℕ
  pub of_resource : IsOfResource resource namespace selection
  pub front : Some bytes ≡ prepended taken left
  pub are : ArePages resource pages gathered taken kept
  pub fault : ((why ≡ BadLine) × (gathered.token ≡ []) × ¬ (IsGathered selection gathered)) ⊎ (why ≡ TooLong)

-- it sends no list, for this reason
abbrev pub SendsNoList : Resource → Option (List ℕ) → ClusterNo → List ℕ → Type 0
SendsNoList resource namespace why bytes = SendsNoPage resource why bytes ⊎ SendsNoRows resource namespace why bytes

-- the reason is one of those that its bytes give
abbrev pub IsOfReply : ClusterNo → Type 0
IsOfReply ReadFault = ⊥
IsOfReply WriteFault = ⊥
IsOfReply Memory = ⊥
IsOfReply why = ⊤

-- what a cluster sends is listed, where what was read of it is a list, or refused
abbrev pub ListsAll : Resource → Option (List ℕ) → Option (List ℕ) → Result ListData ClusterNo → Type 0
ListsAll resource namespace sends (Ok list) = IsClusterList list → IfSome sends (SendsList resource namespace)
ListsAll resource namespace sends (Err why) = IsOfReply why → IfSome sends (SendsNoList resource namespace why)

-- ---- lists over further connections, by the net's count of faults before and after

-- why the list of a resource isn't to be had, for this reason
abbrev pub LacksFor : Resource → ClusterNo → ℕ → ℕ → NoList → Type 0
LacksFor resource why old new no_list.Net = old < new
LacksFor resource why old new (no_list.Refused of fault) = (new ≡ old) × (of ≡ resource) × (fault ≡ why) × IsOfReply why
LacksFor resource why old new no_list.Memory = new ≡ old

-- the same, whatever the reason
abbrev pub LacksOne : Resource → ℕ → ℕ → NoList → Type 0
LacksOne resource old new no_list.Net = old < new
LacksOne resource old new (no_list.Refused of fault) = (new ≡ old) × (of ≡ resource) × IsOfReply fault
LacksOne resource old new no_list.Memory = new ≡ old

-- and of one of these, but that which is listed first
abbrev pub LacksOther : Resources → ℕ → ℕ → NoList → Type 0
LacksOther these old new no_list.Net = old < new
LacksOther these old new (no_list.Refused of fault) = (new ≡ old) × ¬ (of ≡ first_listed these) × IsOfReply fault
LacksOther these old new no_list.Memory = new ≡ old
