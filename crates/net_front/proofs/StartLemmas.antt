-- Why there is no mirror behind a list.
use Rattle.std.proofs.Common.{ℕ, List, sym, subst, inl, inr}
use Rattle.cluster_link.specs.Lists.{ListData}
use Rattle.cluster_link.specs.Refusals.{anew_refusal}
use Rattle.cluster_link.specs.Relisting.{IsNotBegun, NamesRefusal}
use Rattle.cluster_link.specs.declared.refusal.ClusterNo.{ClusterNo}
use Rattle.kube_meta.specs.Rows.{RowData}
use Rattle.mirror_log.specs.MirrorLogs.{MirrorLogData}
use Rattle.mirror_log.specs.declared.refusal.RebaseNo.{RebaseNo}
use Rattle.mirror_log.specs.declared.refusal.RebaseNo.TheVariants as rebase
use Rattle.net_front.specs.Starts.{IsOfStart}

anew : (to at : ℕ) (fault : RebaseNo) → IsOfStart (anew_refusal to at fault)
anew to at (rebase.Behind end) = tt
anew to at rebase.OtherLog = tt
anew to at (rebase.Passed reached) = tt
anew to at rebase.Memory = tt

named : (m : MirrorLogData) (rows : List RowData) (to at : ℕ) (fault : RebaseNo) (why : ClusterNo) (new : MirrorLogData) → NamesRefusal m rows to at fault why new → IsOfStart why
named m rows to at rebase.OtherLog why new (inl (key, why_is, differs)) = subst IsOfStart (sym why_is) tt
named m rows to at rebase.OtherLog why new (inr (inl (why_is, nowhere))) = subst IsOfStart (sym why_is) tt
named m rows to at rebase.OtherLog why new (inr (inr (fault, why_is, store))) = subst IsOfStart (sym why_is) (anew to at fault)
named m rows to at (rebase.Behind end) why new is = subst IsOfStart (sym is) tt
named m rows to at (rebase.Passed reached) why new is = subst IsOfStart (sym is) tt
named m rows to at rebase.Memory why new is = subst IsOfStart (sym is) tt

-- it is one of a start
pub start_of : (list : ListData) (why : ClusterNo) → IsNotBegun list why → IsOfStart why
start_of list why (inl memory) = subst IsOfStart (sym memory) tt
start_of list why (inr (before, after, empty, un)) = named un.between list.rows _ list.at un.fault why _ un.named
