-- What a server of a cluster comes to.
use Rattle.std.proofs.Common.{◌≡◌, ◌≢◌, ◌⊎◌, ◌∙◌, refl, sym, subst, inl, inr, arith, ◌<◌, ℕ, List, Option, Some, IfSome}
use Rattle.cluster_link.specs.declared.refusal.ClusterNo.{ClusterNo}
use Rattle.cluster_link.specs.declared.refusal.ClusterNo.TheVariants.{WriteFault, ReadFault, CutShort, Memory, BadReply, Refused, Told, BadLine, TooLong, Order, Behind, OtherValue, OtherLog, MixedPages, Passed}
use Rattle.edge_io.specs.Sent.{Sent}
use Rattle.kube_meta.specs.declared.resources.Resource.{Resource}
use Rattle.net_front.specs.Starts.{IsOfStart}
use Rattle.watchcache.specs.declared.asked.ServeOptions.{ServeOptions}
use Rattle.watchcache.specs.declared.lists.NoList.{NoList}
use Rattle.watchcache.specs.declared.lists.NoList.TheVariants as no_list
use Rattle.watchcache.specs.Lists.{IsOfReply, LacksFor, LacksOne, LacksOther, SendsList, SendsNoList, first_listed}
use Rattle.watchcache.specs.Run.{IsHalted, IsTold, NetUse, Refuses, RunsCluster, RunsFrom, RunsListed, TellsStart}
use Rattle.watchcache.specs.Texts.{cluster_line}
use Rattle.watchcache.proofs.PeerLemmas.{dialled, opened, sent_by, unopened}
use Rattle.watchcache.proofs.ServerLemmas.{server_since, used}
use Rattle.watchcache.specs.declared.noted.Notes.{Notes}

-- the same, of any resource that is listed first
abbrev Runs : Resource → Option (List ℕ) → ServeOptions → NetUse → Sent → ℕ → Type 0
Runs first namespace options net sent status =
    RunsFrom (SendsList first namespace) ClusterNo (SendsNoList first namespace) IsOfReply (cluster_line first) options.cluster options net sent status
    ⊎ IsHalted (SendsList first namespace) options.cluster options net sent status

module _ (namespace : Option (List ℕ)) (options : ServeOptions) (sent : Sent) (status : ℕ) where
  -- the first list was read
  pub behind : (resource : Resource) (f f-new s s-new : ℕ) (over : Type 0) (left other : Option (List ℕ)) (notes : Notes) → notes.dialled ≡ options.cluster
      → resource ≡ first_listed options.resources → IfSome left (SendsList resource namespace)
      → RunsListed options (used f f-new s s-new over other notes) sent status → RunsCluster namespace options (used f f-new s s-new over left notes) sent status
  behind resource f f-new s s-new over left other notes at first has runs = subst (λ (r : Resource). Runs r namespace options (used f f-new s s-new over left notes) sent status) first (by runs)
    where
      by : RunsListed options (used f f-new s s-new over other notes) sent status → Runs resource namespace options (used f f-new s s-new over left notes) sent status
      by (inl served) =
          inl (opened (SendsList resource namespace) ClusterNo (SendsNoList resource namespace) IsOfReply (cluster_line resource) options.cluster options sent status f f-new s s-new over left other notes at has served)
      by (inr un) = inr (record { dialled = at; opened = has; halted = record { resource = un.resource; why = un.why; other = un.other; told = un.told } })

  -- it wasn't
  pub unlisted : (resource : Resource) (why : ClusterNo) (f f-new s s-new : ℕ) (over : Type 0) (left other : Option (List ℕ)) (notes : Notes) → notes.dialled ≡ options.cluster
      → resource ≡ first_listed options.resources
      → (IsOfReply why → IfSome left (SendsNoList resource namespace why)) → Refuses IsOfReply (cluster_line resource) why (used f f-new s s-new over other notes) sent status
      → RunsCluster namespace options (used f f-new s s-new over left notes) sent status
  unlisted resource why f f-new s s-new over left other notes at first sends refuses =
      subst (λ (r : Resource). Runs r namespace options (used f f-new s s-new over left notes) sent status) first
      (inl (unopened (SendsList resource namespace) ClusterNo (SendsNoList resource namespace) IsOfReply (cluster_line resource) options.cluster options why sent status f f-new s s-new over left other notes at sends refuses))

  -- the counts before the dial, and what the cluster sends, tell it as well
  pub dialled_first : (f f-mid f-new s s-mid s-new : ℕ) (over : Type 0) (peer left : Option (List ℕ)) (notes : Notes) → f-mid ≡ f → s-mid ≡ s → IfSome peer (λ bytes. left ≡ Some bytes)
      → RunsCluster namespace options (used f-mid f-new s-mid s-new over left notes) sent status → RunsCluster namespace options (used f f-new s s-new over peer notes) sent status
  dialled_first f f-mid f-new s s-mid s-new over peer left notes f-is s-is same (inl runs) =
      let first : Resource = first_listed options.resources in
      inl (dialled (SendsList first namespace) ClusterNo (SendsNoList first namespace) IsOfReply (cluster_line first) options.cluster options sent status f f-mid f-new s s-mid s-new over peer left notes f-is s-is same runs)
  dialled_first f f-mid f-new s s-mid s-new over peer left notes f-is s-is same (inr h) =
      let first : Resource = first_listed options.resources in
      inr (record {
        dialled = h.dialled;
        opened = sent_by (SendsList first namespace) peer left same h.opened;
        halted = record {
          resource = h.halted.resource;
          why = h.halted.why;
          other = h.halted.other;
          told = (h.halted.told.0, (h.halted.told.1.0 ∙ f-is, h.halted.told.1.1 ∙ s-is), h.halted.told.2);
        };
      })

-- what is so of the counts before is so of those that they are
pub listed_since : (options : ServeOptions) (sent : Sent) (status f f-mid f-new s s-mid s-new : ℕ) (over : Type 0) (peer other : Option (List ℕ)) (notes : Notes) → f-mid ≡ f → s-mid ≡ s
    → RunsListed options (used f-mid f-new s-mid s-new over other notes) sent status → RunsListed options (used f f-new s s-new over peer notes) sent status
listed_since options sent status f f-mid f-new s s-mid s-new over peer other notes f-is s-is (inl served) =
    inl (server_since options sent status f f-mid f-new s s-mid s-new over peer other notes f-is s-is served)
listed_since options sent status f f-mid f-new s s-mid s-new over peer other notes f-is s-is (inr un) =
    inr (record { resource = un.resource; why = un.why; other = un.other; told = (un.told.0, (un.told.1.0 ∙ f-is, un.told.1.1 ∙ s-is), un.told.2) })

-- a resource has no mirror, though it has a list
pub unmirrored : (options : ServeOptions) (resource : Resource) (why : ClusterNo) (sent : Sent) (status f f-new s s-new : ℕ) (over : Type 0) (peer : Option (List ℕ)) (notes : Notes) → IsOfStart why
    → TellsStart resource why sent status → f-new ≡ f → s-new ≡ s → RunsListed options (used f f-new s s-new over peer notes) sent status
unmirrored options resource Memory sent status f f-new s s-new over peer notes start tells quiet served = inl (inr (served, inr (quiet, tells)))
unmirrored options resource OtherLog sent status f f-new s s-new over peer notes start tells quiet served =
    inr (record { resource = resource; why = OtherLog; other = inr start; told = (tt, (quiet, served), tells) })
unmirrored options resource OtherValue sent status f f-new s s-new over peer notes start tells quiet served =
    inr (record { resource = resource; why = OtherValue; other = inr start; told = (tt, (quiet, served), tells) })
unmirrored options resource (Behind to at) sent status f f-new s s-new over peer notes start tells quiet served =
    inr (record { resource = resource; why = Behind to at; other = inr start; told = (tt, (quiet, served), tells) })
unmirrored options resource (Passed to at) sent status f f-new s s-new over peer notes start tells quiet served =
    inr (record { resource = resource; why = Passed to at; other = inr start; told = (tt, (quiet, served), tells) })
unmirrored options resource WriteFault sent status f f-new s s-new over peer notes start tells quiet served = absurd start
unmirrored options resource ReadFault sent status f f-new s s-new over peer notes start tells quiet served = absurd start
unmirrored options resource CutShort sent status f f-new s s-new over peer notes start tells quiet served = absurd start
unmirrored options resource BadReply sent status f f-new s s-new over peer notes start tells quiet served = absurd start
unmirrored options resource (Refused code) sent status f f-new s s-new over peer notes start tells quiet served = absurd start
unmirrored options resource (Told code) sent status f f-new s s-new over peer notes start tells quiet served = absurd start
unmirrored options resource BadLine sent status f f-new s s-new over peer notes start tells quiet served = absurd start
unmirrored options resource TooLong sent status f f-new s s-new over peer notes start tells quiet served = absurd start
unmirrored options resource (Order last got) sent status f f-new s s-new over peer notes start tells quiet served = absurd start
unmirrored options resource MixedPages sent status f f-new s s-new over peer notes start tells quiet served = absurd start

-- why a resource that isn't the first isn't listed
pub other_lacks : (options : ServeOptions) (resource : Resource) (old new : ℕ) (lack : NoList) → ¬ (resource ≡ first_listed options.resources) → LacksOne resource old new lack
    → LacksOther options.resources old new lack
other_lacks options resource old new no_list.Net other lacks = lacks
other_lacks options resource old new (no_list.Refused of why) other lacks = (lacks.0, λ same. other (sym lacks.1 ∙ same), lacks.2)
other_lacks options resource old new no_list.Memory other lacks = lacks

-- the counts before are these
pub other_since : (options : ServeOptions) (old mid new : ℕ) (lack : NoList) → mid ≡ old → LacksOther options.resources mid new lack → LacksOther options.resources old new lack
other_since options old mid new lack same lacks = subst (λ (n : ℕ). LacksOther options.resources n new lack) same lacks

-- the same of one resource, whatever the reason
pub one_since : (resource : Resource) (why : ClusterNo) (old mid new : ℕ) (lack : NoList) → mid ≡ old → LacksFor resource why mid new lack → LacksOne resource old new lack
one_since resource why old mid new no_list.Net same lacks = subst (λ (n : ℕ). n < new) same lacks
one_since resource why old mid new (no_list.Refused of fault) same lacks = (lacks.0 ∙ same, lacks.1, subst IsOfReply (sym lacks.2) lacks.3)
one_since resource why old mid new no_list.Memory same lacks = lacks ∙ same

-- the reason for which a resource has no mirror is told, unless it is want of memory
pub told_start : (resource : Resource) (why : ClusterNo) (sent : Sent) (status : ℕ) → why ≢ Memory → IsTold (cluster_line resource why) 13 sent status → TellsStart resource why sent status
told_start resource Memory sent status other told = absurd (other refl)
told_start resource WriteFault sent status other told = told
told_start resource ReadFault sent status other told = told
told_start resource CutShort sent status other told = told
told_start resource BadReply sent status other told = told
told_start resource (Refused code) sent status other told = told
told_start resource (Told code) sent status other told = told
told_start resource BadLine sent status other told = told
told_start resource TooLong sent status other told = told
told_start resource (Order last got) sent status other told = told
told_start resource (Behind to at) sent status other told = told
told_start resource OtherValue sent status other told = told
told_start resource OtherLog sent status other told = told
told_start resource MixedPages sent status other told = told
told_start resource (Passed to at) sent status other told = told
