-- What the objects of a log are.
use Rattle.std.specs.Prelude.{◌≡◌, ℕ, List, All, IfSome, true}
use Rattle.kube_meta.specs.declared.objects.Obj.{Obj}
use Rattle.kube_meta.specs.declared.resources.Resource.{Resource}
use Rattle.kube_meta.specs.Resources.{same_resource}
use Rattle.rev_log.specs.Logs.{Log}
use Rattle.rev_log.specs.States.{row_in_base}

-- A fact holds of each object of a resource in a log: of those that stood at its base, and of those written since.
pub record EachObject (P : Obj → Type 0) (log : Log) (resource : Resource) : Type 0 where
  pub base : (key : List ℕ) → IfSome (row_in_base log.base resource key) (λ row. P row.obj)
  pub written : All (λ revision. All (λ change. same_resource change.resource resource ≡ true → IfSome change.new P) revision.changes) log.revisions
