-- A log with one more revision, of which each object may be stored.
use Rattle.std.specs.Prelude.{All, IfSome}
use Rattle.std.proofs.Common.{◌≡◌, ℕ, true, List, [], ◌∷◌, ◌++◌, map, subst}
use Rattle.std.proofs.lemmas.List.Elements.{All-nil, All-cons, All-append, All-map, All-weaker}
use Rattle.std.proofs.lemmas.List.Sorted.{All-permutation}
use Rattle.kube_meta.specs.Resources.{same_resource}
use Rattle.kube_meta.specs.declared.resources.Resource.{Resource}
use Rattle.cache_world.proofs.PlaceLemmas.{same_is}
use Rattle.rev_log.specs.Changes.{ChangeData, RevisionData}
use Rattle.rev_log.specs.Logs.{Log}
use Rattle.up_store.specs.Transacting.{IsRevisionOf}
use Rattle.up_store.specs.Writes.{change_of, write_of}
use Rattle.up_store.specs.declared.writes.WriteAsk.{WriteAsk}
use Rattle.up_store.specs.declared.writes.WriteAsk.TheVariants as write
use Rattle.watch_lines.specs.Stored.{IsStored}
use Rattle.laws.specs.Storable.{IsStorable, HoldsStored}

-- what a change writes to a resource may be stored
abbrev OfChange : Resource → ChangeData → Type 0
OfChange resource change = same_resource change.resource resource ≡ true → IfSome change.new (IsStored resource)

of_change : (resource : Resource) (rev : ℕ) (ask : WriteAsk) → IsStorable ask → OfChange resource (change_of rev ask)
of_change resource rev (write.Create r obj) is same = subst (λ r. IsStored r obj) (same_is r resource same) is
of_change resource rev (write.Replace r obj given) is same = subst (λ r. IsStored r obj) (same_is r resource same) is
of_change resource rev (write.Remove r key) is same = tt

-- one more revision
pub stored_behind : (log : Log) (revision : RevisionData) → ((resource : Resource) → All (OfChange resource) revision.changes) → HoldsStored log
    → HoldsStored (record log { revisions = log.revisions ++ revision ∷ [] })
stored_behind log revision all holds resource = record {
  base = (holds resource).base;
  written = All-append (λ (r : RevisionData). All (OfChange resource) r.changes) log.revisions (revision ∷ []) (holds resource).written
      (All-cons (λ (r : RevisionData). All (OfChange resource) r.changes) revision [] (all resource) (All-nil (λ (r : RevisionData). All (OfChange resource) r.changes)));
}

pub changes_of_write : (log : Log) (ask : WriteAsk) → IsStorable ask → (resource : Resource) → All (OfChange resource) (write_of log ask).changes
changes_of_write log ask is resource =
    All-cons (OfChange resource) (change_of _ ask) [] (of_change resource _ ask is) (All-nil (OfChange resource))

pub changes_of_writes : (log : Log) (asks : List WriteAsk) (revision : RevisionData) → IsRevisionOf log asks revision → All IsStorable asks → (resource : Resource) → All (OfChange resource) revision.changes
changes_of_writes log asks revision of all resource =
    All-permutation (OfChange resource) (map (change_of revision.rev) asks) revision.changes of.changes
    (All-map (OfChange resource) (change_of revision.rev) asks (All-weaker IsStorable (λ ask. OfChange resource (change_of revision.rev ask)) (λ ask is. of_change resource revision.rev ask is) asks all))
