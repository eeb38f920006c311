-- Where nobody else holds the log, replies and what becomes of the log are determined by the requests.
use Rattle.std.specs.Prelude.{◌≡◌, ◌⊎◌, ℕ, ◌≤◌, List, [], ◌∷◌, Bool, true, false, Option, Some, Err, map}
use Rattle.std.specs.List.{AllByRecursion}
use Rattle.rev_front.specs.Passes.{Pass, IsPass, end_from}
use Rattle.rev_log.specs.Changes.{RevisionData}
use Rattle.rev_log.specs.Logs.{Fits}
use Rattle.client_api.specs.Alone.{known}
use Rattle.route_req.specs.declared.documents.Document.TheVariants as document
use Rattle.metrics.specs.declared.caches.Metrics.{Metrics}
use Rattle.metrics.specs.declared.caches.CacheMetrics.{CacheMetrics}
use Rattle.client_api.specs.declared.answers.ListNo.TheVariants as list_no
use Rattle.client_api.specs.declared.resources.Resources.{Resources}
use Rattle.sess_reply.specs.Replies.{listed, described, metered, unready}
use Rattle.sess_turns.specs.Terms.{Terms}
use Rattle.sess_serve.specs.Answers.{Answer, replied, is_stream}
use Rattle.sess_serve.specs.Steps.{Exchange, Run, AreAlone}

-- each of the requests is answered by a reply, and none by the stream of a watch
abbrev pub HaveReplies : List Exchange → Type 0
HaveReplies exchanges = AllByRecursion (λ (e : Exchange). is_stream e.answer ≡ false) exchanges

-- caches of one resource that stand for the log up to the same revision hold as many objects
abbrev pub HoldAlike : Option CacheMetrics → Option CacheMetrics → Type 0
HoldAlike (Some a) (Some b) = b.end ≡ a.end → b.objects ≡ a.objects
HoldAlike a b = Unit {0}

-- Metrics tell one revision, floor and generation, and of caches that stand for the same how many objects they hold. How
-- far each cache is, and what else is told, the requests alone don't determine.
pub record TellAlike (a b : Metrics) : Type 0 where
  pub revision : b.revision ≡ a.revision
  pub floor : b.floor ≡ a.floor
  pub generation : b.generation ≡ a.generation
  pub pods : HoldAlike a.pods b.pods
  pub config_maps : HoldAlike a.config_maps b.config_maps
  pub deployments : HoldAlike a.deployments b.deployments

-- Two answers are one; but two refusals of a list whose one revision isn't kept any more may tell different floors; metrics
-- may differ in what requests don't determine; and a mirror may pass a probe that it failed, or not any more.
abbrev pub AreOne : Bool → Answer → Answer → Type 0
AreOne mirror (replied (listed ask (Err (list_no.Expired asked floor)))) other =
    (n : ℕ) × (other ≡ replied (listed ask (Err (list_no.Expired asked n))))
AreOne mirror (replied (metered told)) other = (again : Metrics) × (other ≡ replied (metered again)) × TellAlike told again
AreOne mirror (replied (described served (document.Probe probe))) other =
    (other ≡ replied (described served (document.Probe probe))) ⊎ ((mirror ≡ true) × (other ≡ replied (unready probe)))
AreOne mirror (replied (unready probe)) other =
    (mirror ≡ true)
    × ((other ≡ replied (unready probe)) ⊎ ((served : Resources) × (other ≡ replied (described served (document.Probe probe)))))
AreOne mirror answer other = other ≡ answer

-- the same requests are answered by the same answers
abbrev pub AreAnsweredAlike : Bool → List Exchange → List Exchange → Type 0
AreAnsweredAlike mirror [] [] = Unit {0}
AreAnsweredAlike mirror (e ∷ es) (f ∷ fs) =
    (f.request ≡ e.request) × AreOne mirror e.answer f.answer × AreAnsweredAlike mirror es fs
AreAnsweredAlike mirror es fs = ⊥

-- what is known of a log is lawful, and its floor isn't above its end
pub record IsSound (p : Pass RevisionData) : Type 0 where
  pub lawful : IsPass Fits p
  pub floor : p.floor ≤ end_from p.first p.seen

-- Two runs of the same requests from the same log, which answer each by a reply, have the same answers, and leave the same
-- log, with the same floor and generation.
abbrev pub RepliesAreDetermined : Type 0
RepliesAreDetermined =
    (terms : Terms) (p last o final : Pass RevisionData) (es fs : List Exchange) →
    IsSound p → IsSound o → known o ≡ known p →
    Run terms p es last → AreAlone terms p es → Run terms o fs final → AreAlone terms o fs →
    map (λ (f : Exchange). f.request) fs ≡ map (λ (e : Exchange). e.request) es → HaveReplies es → HaveReplies fs →
    AreAnsweredAlike terms.mirror es fs × (known final ≡ known last)
