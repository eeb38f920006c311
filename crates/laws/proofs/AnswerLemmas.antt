-- Each answer serves its request, or tells what stands in its way.
use Rattle.std.specs.Prelude.{Result, Ok, Err, IfSome}
use Rattle.std.proofs.Common.{◌≡◌, ℕ, ◌⊎◌, inl, inr, true, List, [], ◌∷◌, Option, Some, None, refl, ap, sym, subst}
use Rattle.route_req.specs.declared.documents.Document.TheVariants as document
use Rattle.rev_front.specs.Passes.{Pass}
use Rattle.rev_log.specs.Changes.{RevisionData}
use Rattle.http_read.specs.declared.request.Req.{Req}
use Rattle.http_read.specs.declared.request.Upgrade.{Upgrade}
use Rattle.ws_watch.specs.Handshake.{IsUpgrade}
use Rattle.list_rules.specs.declared.ask.ListAsk.{ListAsk}
use Rattle.list_rules.specs.declared.get.GetAsk.{GetAsk}
use Rattle.watch_rules.specs.declared.ask.WatchAsk.{WatchAsk}
use Rattle.watch_rules.specs.declared.starts.Start.{Start}
use Rattle.up_store.specs.Replies.{IsWriteReply, IsTransactionReply, IsOperationReply, IsWriteRefused, IsTxRefused}
use Rattle.up_store.specs.declared.operations.Operate.{Operate}
use Rattle.up_store.specs.declared.operations.OpNo.{OpNo}
use Rattle.up_store.specs.declared.transactions.TxWriteNo.{TxWriteNo}
use Rattle.up_store.specs.declared.transactions.TxWriteNo.TheVariants as tx_no
use Rattle.up_store.specs.declared.writes.WriteAsk.{WriteAsk}
use Rattle.up_store.specs.declared.writes.WriteNo.{WriteNo}
use Rattle.up_store.specs.declared.writes.WriteNo.TheVariants as write_no
use Rattle.up_store.specs.declared.writes.Written.{Written}
use Rattle.route_req.specs.Asks.{IsRoute, IsRefusal}
use Rattle.route_req.specs.Outcomes.{AnswersAgree, RoutesAreNotRefused}
use Rattle.route_req.specs.declared.routing.Routed.{Routed}
use Rattle.route_req.specs.declared.routing.Routed.TheVariants as routed
use Rattle.route_req.specs.declared.routing.RouteNo.{RouteNo}
use Rattle.route_req.specs.declared.routing.RouteNo.TheVariants as route_no
use Rattle.client_api.specs.Answers.{GotData, ListedData}
use Rattle.client_api.specs.Gets.{IsGetAnswer}
use Rattle.client_api.specs.Lists.{IsListAnswer}
use Rattle.client_api.specs.Told.{IsToldRead, IsToldWrite, IsToldTx, IsToldOperation}
use Rattle.client_api.specs.declared.answers.ListNo.{ListNo}
use Rattle.client_api.specs.declared.resources.Resources.{Resources}
use Rattle.client_api.specs.declared.answers.ListNo.TheVariants.{Expired, TooLarge, Absent, Memory}
use Rattle.sess_reply.specs.Replies.{unrouted, wrote, transacted, got, listed, operated, unoperated, described, metered, unready, unwatched, bad_upgrade}
use Rattle.sess_turns.specs.Terms.{Terms}
use Rattle.sess_serve.specs.Answers.{Answer, Stream, gone, begun, replied, streamed, IsAnswerTo, IsUnrouted}
use Rattle.sess_serve.specs.Http.{FailsUpgrade}
use Rattle.sess_serve.specs.Steps.{Exchange, Says, StreamSays, UnwatchedSays}
use Rattle.laws.specs.Hindered.{IsHindered, IsCutOff}
use Rattle.laws.specs.Answered.{RequestsAreServed}
use Rattle.laws.specs.Served.{IsServed}
use Rattle.laws.proofs.ReachLemmas.{too_large_there, expired_there, start_too_large, barred}
use Rattle.laws.proofs.WriteLemmas.{refused_write, refused_transaction}

abbrev pub exchange : Req → Answer → Pass RevisionData → Exchange
exchange req answer q = record { request = req; answer = answer; pass = q }

abbrev pub Outcome : Terms → Pass RevisionData → Exchange → Routed → Type 0
Outcome terms p e route = IsServed terms p e route ⊎ IsHindered terms p e route

-- a head that asks for a WebSocket as it must doesn't fail to
pub upgrade_clash : (upgrade : Option Upgrade) → IfSome upgrade (λ (u : Upgrade). IsUpgrade u.key u.version) → FailsUpgrade upgrade → ⊥
upgrade_clash None is fails = fails
upgrade_clash (Some u) is fails = fails is

module _ (terms : Terms) (p q : Pass RevisionData) (req : Req) where
  pub list_outcome : (ask : ListAsk) (answer : Result ListedData ListNo) → IsToldRead answer → IsListAnswer terms.base p ask answer q →
      Outcome terms p (exchange req (replied (listed ask answer)) q) (routed.List ask)
  list_outcome ask (Ok page) told is = inl (page, record { answer_is = refl; status_is = refl }, is)
  list_outcome ask (Err (Expired asked floor)) told is = inr (expired_there p q ask.meaning asked floor is)
  list_outcome ask (Err (TooLarge asked current)) told is = inr (too_large_there p q ask.meaning asked current is)
  list_outcome ask (Err (Absent at)) told is = absurd is
  list_outcome ask (Err Memory) told is = absurd told

  pub get_outcome : (ask : GetAsk) (answer : Result GotData ListNo) → IsToldRead answer → IsGetAnswer terms.base p ask answer q →
      Outcome terms p (exchange req (replied (got ask answer)) q) (routed.Get ask)
  get_outcome ask (Ok given) told is = inl (inl (given, record { answer_is = refl; status_is = refl }, is))
  get_outcome ask (Err (Expired asked floor)) told is = absurd is
  get_outcome ask (Err (TooLarge asked current)) told is = inr (too_large_there p q ask.meaning asked current is)
  get_outcome ask (Err (Absent at)) told is = inl (inr (at, record { answer_is = refl; status_is = refl }, is))
  get_outcome ask (Err Memory) told is = absurd told

  turned-down : (ask : WriteAsk) (fault : WriteNo) → IsWriteRefused terms.base terms.mirror p ask fault q →
      Outcome terms p (exchange req (replied (wrote ask (Err fault))) q) (routed.Write ask)
  turned-down ask fault is = inr (is.at, is.known, refused_write terms.mirror _ ask fault is.refused)

  pub write_outcome : (ask : WriteAsk) (answer : Result Written WriteNo) → IsToldWrite answer → IsWriteReply terms.base terms.mirror p ask answer q →
      Outcome terms p (exchange req (replied (wrote ask answer)) q) (routed.Write ask)
  write_outcome ask (Ok written) told is = inl (written, record { answer_is = refl; status_is = refl }, is)
  write_outcome ask (Err (write_no.Exists at present)) told is = turned-down ask (write_no.Exists at present) is
  write_outcome ask (Err (write_no.Absent at)) told is = turned-down ask (write_no.Absent at) is
  write_outcome ask (Err (write_no.Stale at given present)) told is = turned-down ask (write_no.Stale at given present) is
  write_outcome ask (Err (write_no.UsedUp at)) told is = turned-down ask (write_no.UsedUp at) is
  write_outcome ask (Err (write_no.ReadOnly at)) told is = turned-down ask (write_no.ReadOnly at) is
  write_outcome ask (Err write_no.Memory) told is = absurd told

  all-turned-down : (asks : List WriteAsk) (fault : TxWriteNo) → IsTxRefused terms.base terms.mirror p asks fault q →
      Outcome terms p (exchange req (replied (transacted asks (Err fault))) q) (routed.Transact asks)
  all-turned-down asks fault is = inr (is.at, is.known, refused_transaction terms.mirror _ asks fault is.refused)

  pub transaction_outcome : (asks : List WriteAsk) (answer : Result (List Written) TxWriteNo) → IsToldTx answer → IsTransactionReply terms.base terms.mirror p asks answer q →
      Outcome terms p (exchange req (replied (transacted asks answer)) q) (routed.Transact asks)
  transaction_outcome asks (Ok answers) told is = inl (answers, record { answer_is = refl; status_is = refl }, is)
  transaction_outcome asks (Err (tx_no.Item index fault)) told is = all-turned-down asks (tx_no.Item index fault) is
  transaction_outcome asks (Err (tx_no.UsedUp at)) told is = all-turned-down asks (tx_no.UsedUp at) is
  transaction_outcome asks (Err (tx_no.ReadOnly at)) told is = all-turned-down asks (tx_no.ReadOnly at) is
  transaction_outcome asks (Err tx_no.Memory) told is = absurd told

  pub operation_outcome : (ask : Operate) (answer : Result ℕ OpNo) → terms.operable ≡ true → IsToldOperation answer → IsOperationReply p ask answer q →
      Outcome terms p (exchange req (replied (operated ask answer)) q) (routed.Operate ask)
  operation_outcome ask (Ok number) takes told is = inl (takes, number, record { answer_is = refl; status_is = refl }, is)
  operation_outcome ask (Err fault) takes told is = inr (inr (barred p q ask fault told is))

  unwatched_outcome : (ask : WatchAsk) (fault : ListNo) → UnwatchedSays terms p ask fault q →
      Outcome terms p (exchange req (replied (unwatched ask fault)) q) (routed.Watch ask)
  unwatched_outcome ask (TooLarge asked current) says = inr (inr (start_too_large terms p q ask ask.start asked current says.asks says.too_large))
  unwatched_outcome ask (Expired asked floor) says = absurd says
  unwatched_outcome ask (Absent at) says = absurd says
  unwatched_outcome ask Memory says = absurd says

  stream_outcome : (ask : WatchAsk) (stream : Stream) → StreamSays terms p ask stream q →
      Outcome terms p (exchange req (streamed ask stream) q) (routed.Watch ask)
  stream_outcome ask (gone asked floor) says =
      inr (inr (subst (λ (start : Start). IsCutOff terms p ask start q) (sym says.from) (floor, says.lost)))
  stream_outcome ask (begun opened watch) says =
      inl (record { opened = opened; watch = watch; answer_is = refl; starts = says.1; turns = says.2 })

  -- ---- a request that has a route isn't told that it has none

  pub refusal_of : (fault : RouteNo) → IsUnrouted req fault → IsRefusal req fault
  refusal_of route_no.ForeignSite is = is
  refusal_of route_no.MediaType is = is
  refusal_of (route_no.Unserved what) is = is
  refusal_of route_no.NoPath is = is
  refusal_of route_no.NoMethod is = is
  refusal_of (route_no.Selector fault) is = is
  refusal_of (route_no.List fault) is = is
  refusal_of (route_no.Watch fault) is = is
  refusal_of (route_no.Object fault) is = is
  refusal_of route_no.Operation is = is
  refusal_of (route_no.Transaction fault) is = is
  refusal_of route_no.Memory is = absurd is

  pub routed_clash : RoutesAreNotRefused → (fault : RouteNo) (route : Routed) → IsUnrouted req fault → IsRoute req route → ⊥
  routed_clash unrefused fault route unrouted_is is = subst (IsUnrouted req) (unrefused req route fault is (refusal_of fault unrouted_is)) unrouted_is

  -- ---- whatever the answer

  module _ (agree : AnswersAgree) (unrefused : RoutesAreNotRefused) (route : Routed) (is : IsRoute req route) where
    same-route : (other : Routed) (e : Exchange) → IsRoute req other → Outcome terms p e other → Outcome terms p e route
    same-route other e to outcome = subst (Outcome terms p e) (agree req other route to is) outcome

    pub outcome_of : (answer : Answer) → IsAnswerTo req answer → Says terms p answer q → Outcome terms p (exchange req answer q) route
    outcome_of (replied (unrouted fault)) to says = absurd (routed_clash unrefused fault route to is)
    outcome_of (replied (wrote ask answer)) to says = same-route _ _ to (write_outcome ask answer says.0 says.1)
    outcome_of (replied (transacted asks answer)) to says = same-route _ _ to (transaction_outcome asks answer says.0 says.1)
    outcome_of (replied (got ask answer)) to says = same-route _ _ to (get_outcome ask answer says.0 says.1)
    outcome_of (replied (listed ask answer)) to says = same-route _ _ to (list_outcome ask answer says.0 says.1)
    outcome_of (replied (operated ask answer)) to says = same-route _ _ to (operation_outcome ask answer says.0 says.1 says.2)
    outcome_of (replied (unoperated ask)) to says = same-route (routed.Operate ask) _ to (inr (inl says.0))
    outcome_of (replied (described served document)) to says =
        same-route _ _ to (inl (inl (record { answer_is = ap (λ (r : Resources). replied (described r document)) says.0; status_is = refl })))
    outcome_of (replied (metered told)) to says = same-route routed.Metrics _ to (inl (told, record { answer_is = refl; status_is = refl }, says))
    outcome_of (replied (unready probe)) to says =
        same-route (routed.Describe (document.Probe probe)) _ to (inl (inr (probe, refl, says.0, record { answer_is = refl; status_is = refl })))
    outcome_of (replied (unwatched ask fault)) to says = same-route _ _ to.0 (unwatched_outcome ask fault says)
    outcome_of (replied (bad_upgrade ask)) to says = same-route _ _ to.0 (inr (inl to.1))
    outcome_of (streamed ask stream) to says = same-route _ _ to.0 (stream_outcome ask stream says)

pub are_served : AnswersAgree → RoutesAreNotRefused → RequestsAreServed
are_served agree unrefused terms p last [] run = tt
are_served agree unrefused terms p last (e ∷ es) run = (
  λ route is. outcome_of terms p e.pass e.request agree unrefused route is e.answer run.0.answers run.0.says,
  are_served agree unrefused terms e.pass last es run.1,
)
