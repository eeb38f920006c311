-- A session over the clients of a connection is one over the clients that they were made of.
use Rattle.std.proofs.Common.{◌≡◌, Bool, List, Option, Some, subst}
use Rattle.client_api.specs.Facts.{Facts}
use Rattle.kube_meta.specs.Rows.{RowData}
use Rattle.kube_meta.specs.declared.resources.Resource.{Resource}
use Rattle.net_front.specs.Probes.{facts_of}
use Rattle.net_front.specs.declared.followed.Followed.{Followed}
use Rattle.rev_front.specs.Passes.{Pass}
use Rattle.rev_log.specs.Changes.{RevisionData}
use Rattle.sess_serve.specs.Each.{IsEachSession, Strand, strand_of, strands}
use Rattle.sess_serve.specs.Ends.{Traffic}
use Rattle.sess_serve.specs.declared.ends.SessionEnd.{SessionEnd}
use Rattle.up_api.specs.declared.settings.Settings.{Settings}

-- what contracts know of the clients of one type
pub record Kind (C : Type 0) : Type 1 where
  pub base : List RowData
  pub mirror : Bool
  pub facts : C → Facts
  pub whole : C → Type 0
  pub pass : C → Pass RevisionData

-- the strand of such a client, whose log is that of this resource, on a connection of a server that follows these
abbrev pub strand_at : {C : Type 0} → Kind C → Settings → Option Resource → Option Followed → C → Pass RevisionData → Strand
strand_at kind set own followed client after =
    strand_of set kind.base kind.mirror (facts_of own followed (kind.facts client)) (kind.whole client) (kind.pass client) after

-- what holds of it holds of that of an equal client, of an equal server
same_at : {C : Type 0} (kind : Kind C) (set : Settings) (old new : C) (own known : Option Resource) (followed now : Option Followed) (after : Pass RevisionData)
    → old ≡ new → own ≡ known → followed ≡ now → (P : Strand → Type 0) → P (strand_at kind set own followed old after) → P (strand_at kind set known now new after)
same_at kind set old new own known followed now after client alone desk P is =
    subst (λ c. P (strand_at kind set known now c after)) client
    (subst (λ o. P (strand_at kind set o now old after)) alone (subst (λ f. P (strand_at kind set own f old after)) desk is))

-- so does a session over three
pub each_at : {P M D : Type 0} (kp : Kind P) (km : Kind M) (kd : Kind D) (set : Settings)
    (p p2 : P) (m m2 : M) (d d2 : D) (op om od : Option Resource) (rp rm rd : Resource) (fp fm fd now : Option Followed)
    → p ≡ p2 → op ≡ Some rp → fp ≡ now → m ≡ m2 → om ≡ Some rm → fm ≡ now → d ≡ d2 → od ≡ Some rd → fd ≡ now
    → (pa ma da : Pass RevisionData) (traffic : Traffic) (how : SessionEnd)
    → IsEachSession (strands (strand_at kp set op fp p pa) (strand_at km set om fm m ma) (strand_at kd set od fd d da)) traffic how
    → IsEachSession (strands (strand_at kp set (Some rp) now p2 pa) (strand_at km set (Some rm) now m2 ma) (strand_at kd set (Some rd) now d2 da)) traffic how
each_at kp km kd set p p2 m m2 d d2 op om od rp rm rd fp fm fd now pods pods_own pods_desk maps maps_own maps_desk deploys deploys_own deploys_desk pa ma da traffic how is =
    same_at kp set p p2 op (Some rp) fp now pa pods pods_own pods_desk
    (λ s. IsEachSession (strands s (strand_at km set (Some rm) now m2 ma) (strand_at kd set (Some rd) now d2 da)) traffic how)
    (same_at km set m m2 om (Some rm) fm now ma maps maps_own maps_desk
    (λ s. IsEachSession (strands (strand_at kp set op fp p pa) s (strand_at kd set (Some rd) now d2 da)) traffic how)
    (same_at kd set d d2 od (Some rd) fd now da deploys deploys_own deploys_desk
    (λ s. IsEachSession (strands (strand_at kp set op fp p pa) (strand_at km set om fm m ma) s) traffic how)
    is))
