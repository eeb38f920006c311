-- Where nobody else holds the log, what is due is served.
use Rattle.std.specs.Prelude.{Result, Ok, Err, IsSomeAnd}
use Rattle.std.proofs.Common.{◌≡◌, ◌∙◌, ℕ, inl, inr, true, List, [], ◌∷◌, Option, Some, None, refl, ap, sym, subst}
use Rattle.std.proofs.lemmas.Bool.{true≢false}
use Rattle.route_req.specs.declared.documents.Document.TheVariants as document
use Rattle.rev_front.specs.Passes.{Pass, IsPass, Whole}
use Rattle.rev_log.specs.Changes.{RevisionData}
use Rattle.rev_log.specs.Logs.{Fits}
use Rattle.http_read.specs.declared.request.Req.{Req}
use Rattle.up_store.specs.Replies.{IsWriteReply, IsTransactionReply, IsOperationReply}
use Rattle.up_api.specs.Sections.{log_of}
use Rattle.up_store.specs.declared.operations.Operate.{Operate}
use Rattle.up_store.specs.declared.operations.OpNo.{OpNo}
use Rattle.up_store.specs.declared.transactions.TxWriteNo.{TxWriteNo}
use Rattle.up_store.specs.declared.writes.WriteAsk.{WriteAsk}
use Rattle.up_store.specs.declared.writes.WriteNo.{WriteNo}
use Rattle.up_store.specs.declared.writes.Written.{Written}
use Rattle.route_req.specs.Asks.{IsRoute}
use Rattle.route_req.specs.Outcomes.{AnswersAgree, RoutesAreNotRefused}
use Rattle.route_req.specs.declared.routing.Routed.{Routed}
use Rattle.route_req.specs.declared.routing.Routed.TheVariants as routed
use Rattle.watch_rules.specs.declared.ask.WatchAsk.{WatchAsk}
use Rattle.watch_rules.specs.declared.starts.Start.{Start}
use Rattle.client_api.specs.Alone.{known, IsSoleRead, SoleWrite, SoleTransact, SoleOperate}
use Rattle.client_api.specs.declared.answers.ListNo.{ListNo}
use Rattle.client_api.specs.declared.resources.Resources.{Resources}
use Rattle.client_api.specs.declared.answers.ListNo.TheVariants.{Expired, TooLarge, Absent, Memory}
use Rattle.client_api.specs.Told.{IsToldWrite, IsToldTx, IsToldOperation}
use Rattle.sess_reply.specs.Replies.{unrouted, wrote, transacted, got, listed, operated, unoperated, described, metered, unready, unwatched, bad_upgrade}
use Rattle.sess_turns.specs.Terms.{Terms}
use Rattle.sess_serve.specs.Answers.{Answer, Stream, gone, begun, replied, streamed, IsAnswerTo}
use Rattle.sess_serve.specs.Steps.{Exchange, Says, StreamSays, UnwatchedSays, IsAlone, IsAloneStream}
use Rattle.laws.specs.Due.{IsDue, IsKept, MayBeDone}
use Rattle.laws.specs.Hindered.{IsHindered, IsCutOff}
use Rattle.laws.specs.Answered.{RequestsAreServedAlone}
use Rattle.laws.specs.Served.{IsServed}
use Rattle.laws.specs.Writing.{Takes}
use Rattle.laws.proofs.AnswerLemmas.{exchange, Outcome, get_outcome, list_outcome, routed_clash, upgrade_clash}
use Rattle.laws.proofs.ChangesLemmas.{as_answered, as_written, tx_refused, write_refused}
use Rattle.laws.proofs.ReachLemmas.{reach_clash, start_clash, start_too_large, operation_clash}
use Rattle.laws.proofs.WriteLemmas.{refused_write, refused_transaction, takes_clash}

unless-hindered : (terms : Terms) (p : Pass RevisionData) (e : Exchange) (route : Routed) → Outcome terms p e route → (IsHindered terms p e route → ⊥) → IsServed terms p e route
unless-hindered terms p e route outcome clear = elim outcome [
  | inl served ↦ served
  | inr hindered ↦ absurd (clear hindered)
]

module _ (terms : Terms) (p q : Pass RevisionData) (req : Req) (lawful : IsPass Fits p) where
  abbrev answered : Answer → Exchange
  answered answer = exchange req answer q

  floor-stays : IsSoleRead p q → q.floor ≡ p.floor
  floor-stays sole = ap (λ (w : Whole RevisionData). w.floor) sole.same

  -- ---- writes

  taken : (history : ℕ) (ask : WriteAsk) (answer : Result Written WriteNo) → IsToldWrite answer → IsWriteReply terms.base terms.mirror p ask answer q →
      SoleWrite terms.base terms.mirror history p ask answer q → Takes terms.mirror (log_of terms.base p) (ask ∷ []) →
      IsServed terms p (answered (replied (wrote ask answer))) (routed.Write ask)
  taken history ask (Ok written) told is sole takes = (written, record { answer_is = refl; status_is = refl }, is)
  taken history ask (Err fault) told is sole takes =
      let answer = as_written terms.base terms.mirror history p q ask (Err fault) told sole in
      let refused = write_refused terms.base terms.mirror history (known p) ask (known q) fault told answer in
      absurd (takes_clash _ _ _ takes (refused_write _ _ ask fault refused.0))

  all-taken : (history : ℕ) (asks : List WriteAsk) (answer : Result (List Written) TxWriteNo) → IsToldTx answer → IsTransactionReply terms.base terms.mirror p asks answer q →
      SoleTransact terms.base terms.mirror history p asks answer q → Takes terms.mirror (log_of terms.base p) asks →
      IsServed terms p (answered (replied (transacted asks answer))) (routed.Transact asks)
  all-taken history asks (Ok answers) told is sole takes = (answers, record { answer_is = refl; status_is = refl }, is)
  all-taken history asks (Err fault) told is sole takes =
      let answer = as_answered terms.base terms.mirror history p q asks (Err fault) told sole in
      let refused = tx_refused terms.base terms.mirror history (known p) asks (known q) fault told answer in
      absurd (takes_clash _ _ _ takes (refused_transaction _ _ asks fault refused.0))

  -- the history of a log that nobody else holds
  with-history : (history : Option ℕ) (P : ℕ → Type 0) → IsSomeAnd history P → (n : ℕ) × P n
  with-history None P is = absurd is
  with-history (Some n) P is = (n, is)

  -- ---- operations

  done : (ask : Operate) (answer : Result ℕ OpNo) → terms.operable ≡ true → IsToldOperation answer → IsOperationReply p ask answer q → SoleOperate p ask answer q → MayBeDone p ask →
      IsServed terms p (answered (replied (operated ask answer))) (routed.Operate ask)
  done ask (Ok number) takes told is sole may = (takes, number, record { answer_is = refl; status_is = refl }, is)
  done ask (Err fault) takes told is sole may = absurd (operation_clash p q ask fault may told is sole)

  -- ---- watches

  begins : (ask : WatchAsk) (stream : Stream) → StreamSays terms p ask stream q → IsAloneStream p stream q → IsKept terms p ask ask.start →
      IsServed terms p (answered (streamed ask stream)) (routed.Watch ask)
  begins ask (gone asked floor) says sole kept = absurd (start_clash terms p q ask ask.start lawful sole.same kept
      (subst (λ (start : Start). IsCutOff terms p ask start q) (sym says.from) (floor, says.lost)))
  begins ask (begun opened watch) says sole kept = record { opened = opened; watch = watch; answer_is = refl; starts = says.1; turns = says.2 }

  refused-start : (ask : WatchAsk) (fault : ListNo) → UnwatchedSays terms p ask fault q → IsSoleRead p q → IsKept terms p ask ask.start → ⊥
  refused-start ask (TooLarge asked current) says sole kept =
      start_clash terms p q ask ask.start lawful sole.same kept (start_too_large terms p q ask ask.start asked current says.asks says.too_large)
  refused-start ask (Expired asked floor) says sole kept = says
  refused-start ask (Absent at) says sole kept = says
  refused-start ask Memory says sole kept = says

  -- ---- whatever the answer

  module _ (agree : AnswersAgree) (unrefused : RoutesAreNotRefused) (route : Routed) (is : IsRoute req route) (due : IsDue terms p req route) where
    same-due : (other : Routed) (e : Exchange) → IsRoute req other → (IsDue terms p req other → IsServed terms p e other) → IsServed terms p e route
    same-due other e to serves = subst (λ (r : Routed). IsDue terms p req r → IsServed terms p e r) (agree req other route to is) serves due

    pub served_of : (answer : Answer) → IsAnswerTo req answer → Says terms p answer q → IsAlone terms p answer q → IsServed terms p (answered answer) route
    served_of (replied (unrouted fault)) to says sole = absurd (routed_clash terms p q req unrefused fault route to is)
    served_of (replied (wrote ask answer)) to says sole = same-due (routed.Write ask) _ to (λ takes.
        let there = with-history terms.sole_history (λ history. SoleWrite terms.base terms.mirror history p ask answer q) sole in
        taken there.0 ask answer says.0 says.1 there.1 takes)
    served_of (replied (transacted asks answer)) to says sole = same-due (routed.Transact asks) _ to (λ takes.
        let there = with-history terms.sole_history (λ history. SoleTransact terms.base terms.mirror history p asks answer q) sole in
        all-taken there.0 asks answer says.0 says.1 there.1 takes)
    served_of (replied (got ask answer)) to says sole = same-due (routed.Get ask) _ to (λ in_reach.
        unless-hindered terms p (answered (replied (got ask answer))) (routed.Get ask) (get_outcome terms p q req ask answer says.0 says.1)
        (reach_clash p q ask.meaning lawful (floor-stays sole) in_reach))
    served_of (replied (listed ask answer)) to says sole = same-due (routed.List ask) _ to (λ in_reach.
        unless-hindered terms p (answered (replied (listed ask answer))) (routed.List ask) (list_outcome terms p q req ask answer says.0 says.1)
        (reach_clash p q ask.meaning lawful (floor-stays sole) in_reach))
    served_of (replied (operated ask answer)) to says sole = same-due (routed.Operate ask) _ to (λ due. done ask answer says.0 says.1 says.2 sole due.1)
    served_of (replied (unoperated ask)) to says sole = same-due (routed.Operate ask) _ to (λ due. absurd (true≢false (sym due.0 ∙ says.0)))
    served_of (replied (described served document)) to says sole =
        same-due (routed.Describe document) _ to (λ _. inl (record { answer_is = ap (λ (r : Resources). replied (described r document)) says.0; status_is = refl }))
    served_of (replied (metered told)) to says sole = same-due routed.Metrics _ to (λ _. (told, record { answer_is = refl; status_is = refl }, says))
    served_of (replied (unready probe)) to says sole =
        same-due (routed.Describe (document.Probe probe)) _ to (λ _. inr (probe, refl, says.0, record { answer_is = refl; status_is = refl }))
    served_of (replied (unwatched ask fault)) to says sole = same-due (routed.Watch ask) _ to.0 (λ d. absurd (refused-start ask fault says sole d.1))
    served_of (replied (bad_upgrade ask)) to says sole = same-due (routed.Watch ask) _ to.0 (λ d. absurd (upgrade_clash req.upgrade d.0 to.1))
    served_of (streamed ask stream) to says sole = same-due (routed.Watch ask) _ to.0 (λ d. begins ask stream says sole d.1)

pub are_served_alone : AnswersAgree → RoutesAreNotRefused → RequestsAreServedAlone
are_served_alone agree unrefused terms p last [] lawful run alone = tt
are_served_alone agree unrefused terms p last (e ∷ es) lawful run alone = (
  λ route is due. served_of terms p e.pass e.request lawful agree unrefused route is due e.answer run.0.answers run.0.says alone.0,
  are_served_alone agree unrefused terms e.pass last es (run.0.onward.lawful lawful) run.1 alone.1,
)
