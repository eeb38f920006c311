-- Where nobody else holds the log, two runs of the same requests have the same answers.
use Rattle.std.specs.Prelude.{Result, Ok, Err, IsSomeAnd, IfSome}
use Rattle.std.proofs.Common.{◌≡◌, ◌≢◌, ℕ, ◌≤◌, ◌⊎◌, inl, inr, Bool, true, false, List, [], ◌∷◌, length, map, Option, Some, None, refl, ap, sym, ◌∙◌, subst, length-append, arith}
use Rattle.std.proofs.lemmas.Bool.{true≢false}
use Rattle.route_req.specs.declared.documents.Document.{Document}
use Rattle.route_req.specs.declared.documents.Document.TheVariants as document
use Rattle.route_req.specs.declared.documents.Probe.{Probe}
use Rattle.kube_meta.specs.Rows.{RowData}
use Rattle.kube_meta.specs.declared.resources.Resource.{Resource}
use Rattle.kube_meta.specs.declared.resources.Resource.TheVariants.{Pods, ConfigMaps, Deployments}
use Rattle.metrics.specs.declared.caches.Metrics.{Metrics}
use Rattle.metrics.specs.declared.caches.CacheMetrics.{CacheMetrics}
use Rattle.rev_front.specs.Passes.{Pass, IsPass, Whole, revision}
use Rattle.rev_log.specs.Changes.{RevisionData}
use Rattle.rev_log.specs.Logs.{Log, Fits}
use Rattle.rev_log.specs.States.{IsStateAt}
use Rattle.rev_log.proofs.StateLemmas.{are_unique}
use Rattle.up_api.specs.Sections.{log_of}
use Rattle.http_read.specs.declared.request.Req.{Req}
use Rattle.up_store.specs.Replies.{IsOperationReply}
use Rattle.up_store.specs.Stores.{accepted}
use Rattle.up_store.specs.Transacting.{IsTransactionAnswer}
use Rattle.up_store.specs.Writes.{IsWriteAnswer}
use Rattle.up_store.specs.declared.operations.Operate.{Operate}
use Rattle.up_store.specs.declared.operations.Operate.TheVariants.{Cut, Compact, Restart, Disconnect}
use Rattle.up_store.specs.declared.operations.OpNo.{OpNo}
use Rattle.up_store.specs.declared.operations.OpNo.TheVariants as op_no
use Rattle.up_store.specs.declared.transactions.TxWriteNo.{TxWriteNo}
use Rattle.up_store.specs.declared.writes.WriteAsk.{WriteAsk}
use Rattle.up_store.specs.declared.writes.WriteNo.{WriteNo}
use Rattle.up_store.specs.declared.writes.Written.{Written}
use Rattle.route_req.specs.Asks.{IsRoute}
use Rattle.route_req.specs.Outcomes.{AnswersAgree, RefusalsAgree, RoutesAreNotRefused}
use Rattle.route_req.specs.declared.routing.Routed.{Routed}
use Rattle.route_req.specs.declared.routing.Routed.TheVariants as routed
use Rattle.route_req.specs.declared.routing.RouteNo.{RouteNo}
use Rattle.route_req.specs.declared.routing.RouteNo.TheVariants as route_no
use Rattle.client_api.specs.Alone.{known, IsSoleRead, SoleWrite, SoleTransact, SoleOperate, IsSoleOperation}
use Rattle.client_api.specs.Answers.{GotData, ListedData}
use Rattle.client_api.specs.Gets.{IsGetAnswer}
use Rattle.client_api.specs.Lists.{IsListAnswer}
use Rattle.client_api.specs.Metered.{IsCacheMetrics, AreMetrics}
use Rattle.client_api.specs.Told.{IsToldRead, IsToldWrite, IsToldTx, IsToldOperation}
use Rattle.client_api.specs.declared.answers.ListNo.{ListNo}
use Rattle.client_api.specs.declared.resources.Resources.{Resources}
use Rattle.client_api.specs.declared.answers.ListNo.TheVariants.{TooLarge, Expired, Absent, Memory}
use Rattle.client_api.specs.Starts.{StartsTooLarge}
use Rattle.sess_reply.specs.Replies.{unrouted, wrote, transacted, got, listed, operated, unoperated, described, metered, unready, unwatched, bad_upgrade}
use Rattle.sess_turns.specs.Terms.{Terms}
use Rattle.sess_serve.specs.Answers.{Answer, replied, streamed, is_stream, IsAnswerTo, IsUnrouted}
use Rattle.sess_serve.specs.Http.{IsPlainOrUpgrade, FailsUpgrade}
use Rattle.sess_serve.specs.Steps.{Exchange, Says, IsAlone, Run, AreAlone}
use Rattle.laws.specs.Determined.{HaveReplies, AreOne, AreAnsweredAlike, HoldAlike, TellAlike, IsSound, RepliesAreDetermined}
use Rattle.laws.proofs.AnswerLemmas.{refusal_of, routed_clash, upgrade_clash}
use Rattle.laws.proofs.ChangesLemmas.{as_answered, as_written, made_of, one_write, one_transaction, one_operation, write_refused, tx_refused}
use Rattle.laws.proofs.ReadsLemmas.{one_list, one_get, one_start}

-- ---- the floor stays within the log

abbrev low : Whole RevisionData → Type 0
low w = w.floor ≤ revision w

low-accepted : (history : ℕ) (w : Whole RevisionData) (r : RevisionData) → low w → low (accepted history w r)
low-accepted history w r is = omega (arith, is, length-append w.log (r ∷ []))

low-written : (terms : Terms) (history : ℕ) (ask : WriteAsk) (w after : Whole RevisionData) (a : Result Written WriteNo) → IsToldWrite a →
    IsWriteAnswer terms.base terms.mirror history ask w after a → low w → low after
low-written terms history ask w after (Ok a) told is low_w = subst low (sym is.2) (low-accepted history w _ low_w)
low-written terms history ask w after (Err fault) told is low_w = subst low (sym (write_refused terms.base terms.mirror history w ask after fault told is).1) low_w

low-transacted : (terms : Terms) (history : ℕ) (asks : List WriteAsk) (w after : Whole RevisionData) (a : Result (List Written) TxWriteNo) → IsToldTx a →
    IsTransactionAnswer terms.base terms.mirror history asks w after a → low w → low after
low-transacted terms history asks w after (Ok a) told is low_w = subst low (sym is.2.2) (low-accepted history w is.2.0 low_w)
low-transacted terms history asks w after (Err fault) told is low_w = subst low (sym (tx_refused terms.base terms.mirror history w asks after fault told is).1) low_w

low-operated : (ask : Operate) (w after : Whole RevisionData) (a : Result ℕ OpNo) → IsSoleOperation ask w a after → low w → low after
low-operated Cut w after (Ok n) is low_w = subst low (sym is.1) low_w
low-operated Cut w after (Err (op_no.UsedUp at)) is low_w = subst low (sym is.2) low_w
low-operated Cut w after (Err (op_no.Compacted asked floor)) is low_w = absurd is
low-operated Cut w after (Err (op_no.Future asked current)) is low_w = absurd is
low-operated Cut w after (Err op_no.Memory) is low_w = absurd is
low-operated (Compact at) w after (Ok n) is low_w = subst low (sym is.3) is.2
low-operated (Compact at) w after (Err (op_no.UsedUp n)) is low_w = absurd is
low-operated (Compact at) w after (Err (op_no.Compacted asked floor)) is low_w = subst low (sym is.3) low_w
low-operated (Compact at) w after (Err (op_no.Future asked current)) is low_w = subst low (sym is.3) low_w
low-operated (Compact at) w after (Err op_no.Memory) is low_w = absurd is
low-operated Restart w after a is low_w = subst low (sym is) low_w
low-operated Disconnect w after a is low_w = subst low (sym is) low_w

-- ---- what describes the server, and metrics

abbrev IsDescribedBy : Bool → Resources → Document → Answer → Type 0
IsDescribedBy mirror served text a =
    (a ≡ replied (described served text)) ⊎ ((probe : Probe) × (text ≡ document.Probe probe) × (mirror ≡ true) × (a ≡ replied (unready probe)))

-- two answers, of which what is said is known
moved-one : (mirror : Bool) (a b x y : Answer) → a ≡ x → b ≡ y → AreOne mirror x y → AreOne mirror a b
moved-one mirror a b x y first second one =
    subst (λ (z : Answer × Answer). AreOne mirror z.0 z.1) {x = (x, y)} {y = (a, b)} (λ i. (sym first i, sym second i)) one

same-described : (mirror : Bool) (served : Resources) (text : Document) → AreOne mirror (replied (described served text)) (replied (described served text))
same-described mirror served document.Version = refl
same-described mirror served document.CoreVersions = refl
same-described mirror served document.Groups = refl
same-described mirror served document.AppsGroup = refl
same-described mirror served document.CoreResources = refl
same-described mirror served document.AppsResources = refl
same-described mirror served document.OpenApi = refl
same-described mirror served (document.Namespace ns) = refl
same-described mirror served (document.Probe probe) = inl refl

same-probe : (a b : Probe) → document.Probe a ≡ document.Probe b → a ≡ b
same-probe a b e = cc

described-one : (mirror : Bool) (served : Resources) (text : Document) (a b : Answer) → IsDescribedBy mirror served text a →
    IsDescribedBy mirror served text b → AreOne mirror a b
described-one mirror served text a b (inl is) (inl is') = moved-one mirror a b _ _ is is' (same-described mirror served text)
described-one mirror served text a b (inl is) (inr is') =
    moved-one mirror a b (replied (described served (document.Probe is'.0))) (replied (unready is'.0))
    (is ∙ ap (λ (t : Document). replied (described served t)) is'.1) is'.3 (inr (is'.2, refl))
described-one mirror served text a b (inr is) (inl is') =
    moved-one mirror a b (replied (unready is.0)) (replied (described served (document.Probe is.0))) is.3
    (is' ∙ ap (λ (t : Document). replied (described served t)) is.1) (is.2, inr (served, refl))
described-one mirror served text a b (inr is) (inr is') =
    let same : is'.0 ≡ is.0 = same-probe is'.0 is.0 (sym is'.1 ∙ is.1) in
    moved-one mirror a b (replied (unready is.0)) (replied (unready is.0)) is.3
    (is'.3 ∙ ap (λ (p : Probe). replied (unready p)) same) (is.2, inl refl)

-- the same log has the same state
module _ (base : List RowData) (q r : Pass RevisionData) (same : known r ≡ known q) where
  same-log : log_of base r ≡ log_of base q
  same-log = ap (λ (w : Whole RevisionData). record { first = w.first; base = base; revisions = w.log }) same

  hold-alike : (resource : Resource) (a b : Option CacheMetrics) → IfSome a (IsCacheMetrics base resource q) → IfSome b (IsCacheMetrics base resource r) → HoldAlike a b
  hold-alike resource None None is is' = tt
  hold-alike resource None (Some b) is is' = tt
  hold-alike resource (Some a) None is is' = tt
  hold-alike resource (Some a) (Some b) is is' = λ ends.
      let state : IsStateAt (log_of base q) resource a.end is'.rows =
      subst (λ (z : Log × ℕ). IsStateAt z.0 resource z.1 is'.rows) {x = (log_of base r, b.end)} {y = (log_of base q, a.end)} (λ i. (same-log i, ends i)) is'.state in
      is'.objects ∙ ap length (are_unique (log_of base q) resource a.end is'.rows is.rows state is.state) ∙ sym is.objects

  tell-alike : (p o : Pass RevisionData) (a b : Metrics) → AreMetrics base p a q → AreMetrics base o b r → TellAlike a b
  tell-alike p o a b is is' = record {
    revision = is'.revision ∙ ap (λ (w : Whole RevisionData). revision w) same ∙ sym is.revision;
    floor = is'.floor ∙ ap (λ (w : Whole RevisionData). w.floor) same ∙ sym is.floor;
    generation = is'.generation ∙ ap (λ (w : Whole RevisionData). w.gen) same ∙ sym is.generation;
    pods = hold-alike Pods a.pods b.pods is.pods is'.pods;
    config_maps = hold-alike ConfigMaps a.config_maps b.config_maps is.config_maps is'.config_maps;
    deployments = hold-alike Deployments a.deployments b.deployments is.deployments is'.deployments;
  }

-- ---- what an answer says, by what its request asks for

abbrev ByRoute : Terms → ℕ → Pass RevisionData → Req → Answer → Pass RevisionData → Routed → Type 0
ByRoute terms history p req a q (routed.List ask) =
    (x : Result ListedData ListNo) × (a ≡ replied (listed ask x)) × IsToldRead x × IsListAnswer terms.base p ask x q × IsSoleRead p q
ByRoute terms history p req a q (routed.Get ask) =
    (x : Result GotData ListNo) × (a ≡ replied (got ask x)) × IsToldRead x × IsGetAnswer terms.base p ask x q × IsSoleRead p q
ByRoute terms history p req a q (routed.Write ask) =
    (x : Result Written WriteNo) × (a ≡ replied (wrote ask x)) × IsToldWrite x × IsWriteAnswer terms.base terms.mirror history ask (known p) (known q) x
ByRoute terms history p req a q (routed.Transact asks) =
    (x : Result (List Written) TxWriteNo) × (a ≡ replied (transacted asks x)) × IsToldTx x
    × IsTransactionAnswer terms.base terms.mirror history asks (known p) (known q) x
ByRoute terms history p req a q (routed.Operate ask) =
    ((x : Result ℕ OpNo) × (a ≡ replied (operated ask x)) × (terms.operable ≡ true) × IsToldOperation x × IsOperationReply p ask x q
    × SoleOperate p ask x q)
    ⊎ ((a ≡ replied (unoperated ask)) × (terms.operable ≡ false) × IsSoleRead p q)
ByRoute terms history p req a q (routed.Describe document) = IsDescribedBy terms.mirror terms.resources document a × IsSoleRead p q
ByRoute terms history p req a q routed.Metrics =
    (told : Metrics) × (a ≡ replied (metered told)) × AreMetrics terms.base p told q × IsSoleRead p q
ByRoute terms history p req a q (routed.Watch ask) =
    ((asked : ℕ) × (current : ℕ) × (a ≡ replied (unwatched ask (TooLarge asked current))) × IsPlainOrUpgrade req
    × StartsTooLarge p ask asked current q × IsSoleRead p q)
    ⊎ ((a ≡ replied (bad_upgrade ask)) × FailsUpgrade req.upgrade × IsSoleRead p q)

-- the request has a route, and its answer is by it; or it has none, and is told why
record Routes (terms : Terms) (history : ℕ) (p : Pass RevisionData) (req : Req) (a : Answer) (q : Pass RevisionData) : Type 0 where
  route : Routed
  is : IsRoute req route
  by : ByRoute terms history p req a q route

record Untold (p : Pass RevisionData) (req : Req) (a : Answer) (q : Pass RevisionData) : Type 0 where
  fault : RouteNo
  answer_is : a ≡ replied (unrouted fault)
  is : IsUnrouted req fault
  sole : IsSoleRead p q

module _ (terms : Terms) (history : ℕ) (if-sole : (P : ℕ → Type 0) → IsSomeAnd terms.sole_history P → P history) where
  routes : (p q : Pass RevisionData) (req : Req) (a : Answer) → IsAnswerTo req a → Says terms p a q → IsAlone terms p a q → is_stream a ≡ false →
      Routes terms history p req a q ⊎ Untold p req a q
  routes p q req (replied (unrouted fault)) to says sole plain = inr (record { fault = fault; answer_is = refl; is = to; sole = sole })
  routes p q req (replied (wrote ask x)) to says sole plain =
      let said = as_written terms.base terms.mirror history p q ask x says.0 (if-sole (λ h. SoleWrite terms.base terms.mirror h p ask x q) sole) in
      inl (record { route = routed.Write ask; is = to; by = (x, refl, says.0, said) })
  routes p q req (replied (transacted asks x)) to says sole plain =
      inl (record { route = routed.Transact asks; is = to; by = (x, refl, says.0, as_answered terms.base terms.mirror history p q asks x says.0 (if-sole (λ h. SoleTransact terms.base terms.mirror h p asks x q) sole)) })
  routes p q req (replied (got ask x)) to says sole plain = inl (record { route = routed.Get ask; is = to; by = (x, refl, says.0, says.1, sole) })
  routes p q req (replied (listed ask x)) to says sole plain = inl (record { route = routed.List ask; is = to; by = (x, refl, says.0, says.1, sole) })
  routes p q req (replied (operated ask x)) to says sole plain =
      inl (record { route = routed.Operate ask; is = to; by = inl (x, refl, says.0, says.1, says.2, sole) })
  routes p q req (replied (unoperated ask)) to says sole plain = inl (record { route = routed.Operate ask; is = to; by = inr (refl, says.0, sole) })
  routes p q req (replied (described served text)) to says sole plain =
      inl (record { route = routed.Describe text; is = to; by = (inl (ap (λ (r : Resources). replied (described r text)) says.0), sole) })
  routes p q req (replied (metered told)) to says sole plain = inl (record { route = routed.Metrics; is = to; by = (told, refl, says, sole) })
  routes p q req (replied (unready probe)) to says sole plain =
      inl (record { route = routed.Describe (document.Probe probe); is = to; by = (inr (probe, refl, says.0, refl), sole) })
  routes p q req (replied (unwatched ask (TooLarge asked current))) to says sole plain =
      inl (record { route = routed.Watch ask; is = to.0; by = inl (asked, current, refl, to.1, says, sole) })
  routes p q req (replied (unwatched ask (Expired asked floor))) to says sole plain = absurd says
  routes p q req (replied (unwatched ask (Absent at))) to says sole plain = absurd says
  routes p q req (replied (unwatched ask Memory)) to says sole plain = absurd says
  routes p q req (replied (bad_upgrade ask)) to says sole plain = inl (record { route = routed.Watch ask; is = to.0; by = inr (refl, to.1, sole) })
  routes p q req (streamed ask stream) to says sole plain = absurd (cc)

  -- ---- the floor

  low-read : (p q : Pass RevisionData) → IsSoleRead p q → low (known p) → low (known q)
  low-read p q sole is = subst low (sym sole.same) is

  low-after : (p q : Pass RevisionData) (req : Req) (a : Answer) (route : Routed) → ByRoute terms history p req a q route → low (known p) → low (known q)
  low-after p q req a (routed.List ask) by is = low-read p q by.4 is
  low-after p q req a (routed.Get ask) by is = low-read p q by.4 is
  low-after p q req a (routed.Write ask) by is = low-written terms history ask (known p) (known q) by.0 by.2 by.3 is
  low-after p q req a (routed.Transact asks) by is = low-transacted terms history asks (known p) (known q) by.0 by.2 by.3 is
  low-after p q req a (routed.Operate ask) by is = elim by [
    | inl x ↦ low-operated ask (known p) (known q) x.0 (made_of p q ask x.0 x.3 x.5) is
    | inr x ↦ low-read p q x.2 is
  ]
  low-after p q req a (routed.Describe text) by is = low-read p q by.1 is
  low-after p q req a routed.Metrics by is = low-read p q by.3 is
  low-after p q req a (routed.Watch ask) by is = elim by [
    | inl x ↦ low-read p q x.5 is
    | inr x ↦ low-read p q x.2 is
  ]

  -- ---- two answers to one request

  module _ (p q o r : Pass RevisionData) (sound : IsSound p) (lawful : IsPass Fits q) (sound' : IsSound o) (lawful' : IsPass Fits r) (same : known o ≡ known p) where
    reads-same : IsSoleRead p q → IsSoleRead o r → known r ≡ known q
    reads-same sole sole' = sole'.same ∙ same ∙ sym sole.same

    are-one : (a b x y : Answer) → a ≡ x → b ≡ y → AreOne terms.mirror x y → AreOne terms.mirror a b
    are-one = moved-one terms.mirror

    by-one : (req : Req) (a b : Answer) (route : Routed) → ByRoute terms history p req a q route → ByRoute terms history o req b r route → AreOne terms.mirror a b × (known r ≡ known q)
    by-one req a b (routed.List ask) by by' =
        (are-one a b _ _ by.1 by'.1 (one_list terms.base p q o r sound lawful by.4 sound' lawful' by'.4 same terms.mirror ask by.0 by'.0 by.2 by'.2 by.3 by'.3), reads-same by.4 by'.4)
    by-one req a b (routed.Get ask) by by' =
        (are-one a b (replied (got ask by.0)) (replied (got ask by'.0)) by.1 by'.1 (one_get terms.base p q o r sound lawful by.4 sound' lawful' by'.4 same ask by.0 by'.0 by.2 by'.2 by.3 by'.3), reads-same by.4 by'.4)
    by-one req a b (routed.Write ask) by by' =
        let one = one_write terms.base terms.mirror history (known p) ask (known q) (known r) by.0 by'.0 by.2 by'.2 by.3
        (subst (λ (w : Whole RevisionData). IsWriteAnswer terms.base terms.mirror history ask w (known r) by'.0) same by'.3) in
        (are-one a b (replied (wrote ask by.0)) (replied (wrote ask by'.0)) by.1 by'.1 (ap (λ (x : Result Written WriteNo). replied (wrote ask x)) one.0), one.1)
    by-one req a b (routed.Transact asks) by by' =
        let one = one_transaction terms.base terms.mirror history (known p) asks (known q) (known r) by.0 by'.0 by.2 by'.2 by.3
        (subst (λ (w : Whole RevisionData). IsTransactionAnswer terms.base terms.mirror history asks w (known r) by'.0) same by'.3) in
        (are-one a b (replied (transacted asks by.0)) (replied (transacted asks by'.0)) by.1 by'.1 (ap (λ (x : Result (List Written) TxWriteNo). replied (transacted asks x)) one.0), one.1)
    by-one req a b (routed.Operate ask) by by' =
        elim by [
          | inl x ↦ elim by' [
            | inl y ↦
                let one = one_operation p q o r sound lawful lawful' same ask x.0 y.0 x.3 y.3 x.4 y.4 x.5 y.5 in
                (are-one a b (replied (operated ask x.0)) (replied (operated ask y.0)) x.1 y.1 (ap (λ (z : Result ℕ OpNo). replied (operated ask z)) one.0), one.1)
            | inr y ↦ absurd (true≢false (sym x.2 ∙ y.1))
          ]
          | inr x ↦ elim by' [
            | inl y ↦ absurd (true≢false (sym y.2 ∙ x.1))
            | inr y ↦ (are-one a b (replied (unoperated ask)) (replied (unoperated ask)) x.0 y.0 refl, reads-same x.2 y.2)
          ]
        ]
    by-one req a b (routed.Describe text) by by' = (described-one terms.mirror terms.resources text a b by.0 by'.0, reads-same by.1 by'.1)
    by-one req a b routed.Metrics by by' =
        let again : known r ≡ known q = reads-same by.3 by'.3 in
        (are-one a b (replied (metered by.0)) (replied (metered by'.0)) by.1 by'.1 (by'.0, refl, tell-alike terms.base q r again p o by.0 by'.0 by.2 by'.2), again)
    by-one req a b (routed.Watch ask) by by' = elim by [
      | inl x ↦ elim by' [
        | inl y ↦ (
          are-one a b (replied (unwatched ask (TooLarge x.0 x.1))) (replied (unwatched ask (TooLarge y.0 y.1))) x.2 y.2
              (ap (λ (no : ListNo). replied (unwatched ask no)) (one_start p q o r sound lawful x.5 sound' lawful' y.5 same ask x.0 x.1 y.0 y.1 x.4 y.4)),
          reads-same x.5 y.5,
        )
        | inr y ↦ absurd (upgrade_clash req.upgrade x.3 y.1)
      ]
      | inr x ↦ elim by' [
        | inl y ↦ absurd (upgrade_clash req.upgrade y.3 x.1)
        | inr y ↦ (are-one a b (replied (bad_upgrade ask)) (replied (bad_upgrade ask)) x.0 y.0 refl, reads-same x.2 y.2)
      ]
    ]

    module _ (agree : AnswersAgree) (refusals : RefusalsAgree) (unrefused : RoutesAreNotRefused) (req : Req) (a b : Answer) where
      isn't-memory : (fault : RouteNo) → IsUnrouted req fault → fault ≢ route_no.Memory
      isn't-memory fault is same_fault = subst (IsUnrouted req) same_fault is

      one-answer : Routes terms history p req a q ⊎ Untold p req a q → Routes terms history o req b r ⊎ Untold o req b r → AreOne terms.mirror a b × (known r ≡ known q)
      one-answer first second = elim first [
        | inl x ↦ elim second [
          | inl y ↦ by-one req a b x.route x.by (subst (ByRoute terms history o req b r) (agree req y.route x.route y.is x.is) y.by)
          | inr y ↦ absurd (routed_clash terms o r req unrefused y.fault x.route y.is x.is)
        ]
        | inr x ↦ elim second [
          | inl y ↦ absurd (routed_clash terms p q req unrefused x.fault y.route x.is y.is)
          | inr y ↦
              let one : y.fault ≡ x.fault = refusals req y.fault x.fault (refusal_of terms o r req y.fault y.is) (refusal_of terms p q req x.fault x.is) (isn't-memory y.fault y.is) (isn't-memory x.fault x.is) in
              (are-one a b (replied (unrouted x.fault)) (replied (unrouted y.fault)) x.answer_is y.answer_is (ap (λ (no : RouteNo). replied (unrouted no)) one), reads-same x.sole y.sole)
        ]
      ]

  low-then : (p q : Pass RevisionData) (req : Req) (a : Answer) → Routes terms history p req a q ⊎ Untold p req a q → low (known p) → low (known q)
  low-then p q req a so is = elim so [
    | inl x ↦ low-after p q req a x.route x.by is
    | inr y ↦ low-read p q y.sole is
  ]

  -- ---- two runs

  module _ (agree : AnswersAgree) (refusals : RefusalsAgree) (unrefused : RoutesAreNotRefused) where
    runs-agree : (p last o final : Pass RevisionData) (es fs : List Exchange) → IsSound p → IsSound o → known o ≡ known p →
        Run terms p es last → AreAlone terms p es → Run terms o fs final → AreAlone terms o fs →
        map (λ (f : Exchange). f.request) fs ≡ map (λ (e : Exchange). e.request) es → HaveReplies es → HaveReplies fs → AreAnsweredAlike terms.mirror es fs × (known final ≡ known last)
    runs-agree p last o final [] [] sound sound' same run alone run' alone' requests plain plain' = (tt, ap known (sym run') ∙ same ∙ ap known run)
    runs-agree p last o final [] (f ∷ fs) sound sound' same run alone run' alone' requests plain plain' = absurd (let e : f.request ∷ map (λ (x : Exchange). x.request) fs ≡ [] = requests in cc)
    runs-agree p last o final (e ∷ es) [] sound sound' same run alone run' alone' requests plain plain' = absurd (let h : [] ≡ e.request ∷ map (λ (x : Exchange). x.request) es = requests in cc)
    runs-agree p last o final (e ∷ es) (f ∷ fs) sound sound' same run alone run' alone' requests plain plain' =
        let both : f.request ∷ map (λ (x : Exchange). x.request) fs ≡ e.request ∷ map (λ (x : Exchange). x.request) es = requests in
        let head : f.request ≡ e.request = cc in
        let tail : map (λ (x : Exchange). x.request) fs ≡ map (λ (x : Exchange). x.request) es = cc in
        let first = routes p e.pass e.request e.answer run.0.answers run.0.says alone.0 plain.0 in
        let second = routes o f.pass e.request f.answer (subst (λ (req : Req). IsAnswerTo req f.answer) head run'.0.answers) run'.0.says alone'.0 plain'.0 in
        let lawful : IsPass Fits e.pass = run.0.onward.lawful sound.lawful in
        let lawful' : IsPass Fits f.pass = run'.0.onward.lawful sound'.lawful in
        let one = one-answer p e.pass o f.pass sound lawful sound' lawful' same agree refusals unrefused e.request e.answer f.answer first second in
        let next = runs-agree e.pass last f.pass final es fs
        (record { lawful = lawful; floor = low-then p e.pass e.request e.answer first sound.floor })
        (record { lawful = lawful'; floor = low-then o f.pass e.request f.answer second sound'.floor })
        one.1 run.1 alone.1 run'.1 alone'.1 tail plain.1 plain'.1 in
        ((head, one.0, next.0), next.1)

-- how many revisions a log keeps that somebody holds alone; any number where nobody does
abbrev history-of : Option ℕ → ℕ
history-of None = 0
history-of (Some n) = n

kept-so : (o : Option ℕ) (P : ℕ → Type 0) → IsSomeAnd o P → P (history-of o)
kept-so None P is = absurd is
kept-so (Some n) P is = is

pub are_determined : AnswersAgree → RefusalsAgree → RoutesAreNotRefused → RepliesAreDetermined
are_determined agree refusals unrefused terms p last o final es fs =
    runs-agree terms (history-of terms.sole_history) (kept-so terms.sole_history) agree refusals unrefused p last o final es fs
