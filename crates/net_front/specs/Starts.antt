-- Why a server of a cluster doesn't start that has its lists.
use Rattle.std.specs.Prelude.{⊤}
use Rattle.cluster_link.specs.declared.refusal.ClusterNo.{ClusterNo}
use Rattle.cluster_link.specs.declared.refusal.ClusterNo.TheVariants.{Memory, Behind, OtherValue, OtherLog, Passed}

-- the reason is one for which there is no mirror behind a list, or there was no memory
abbrev pub IsOfStart : ClusterNo → Type 0
IsOfStart Memory = ⊤
IsOfStart OtherLog = ⊤
IsOfStart OtherValue = ⊤
IsOfStart (Behind to at) = ⊤
IsOfStart (Passed to at) = ⊤
IsOfStart why = ⊥
