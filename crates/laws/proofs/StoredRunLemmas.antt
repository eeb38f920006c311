-- The objects of a log stay such as may be stored.
use Rattle.std.specs.Prelude.{Result, Ok, Err, All, IsSomeAnd}
use Rattle.std.proofs.Common.{◌≡◌, ℕ, List, [], ◌∷◌, Option, Some, None, sym, ap, subst, ◌∙◌}
use Rattle.http_read.specs.declared.request.Req.{Req}
use Rattle.rev_front.specs.Passes.{Pass, Whole}
use Rattle.rev_log.specs.Changes.{RevisionData}
use Rattle.up_api.specs.Sections.{log_of}
use Rattle.up_store.specs.Stores.{log_in, IsCutAnswer, IsCompactionAnswer}
use Rattle.up_store.specs.declared.operations.Operate.{Operate}
use Rattle.up_store.specs.declared.operations.Operate.TheVariants.{Cut, Compact, Restart, Disconnect}
use Rattle.up_store.specs.declared.operations.OpNo.{OpNo}
use Rattle.up_store.specs.declared.operations.OpNo.TheVariants as op_no
use Rattle.up_store.specs.declared.transactions.TxWriteNo.{TxWriteNo}
use Rattle.up_store.specs.declared.writes.WriteAsk.{WriteAsk}
use Rattle.up_store.specs.declared.writes.WriteNo.{WriteNo}
use Rattle.up_store.specs.declared.writes.Written.{Written}
use Rattle.client_api.specs.Alone.{known, SoleWrite, SoleTransact, IsSoleOperation}
use Rattle.client_api.specs.Told.{IsToldWrite, IsToldTx}
use Rattle.sess_reply.specs.Replies.{Reply, unrouted, wrote, transacted, got, listed, operated, unoperated, described, metered, unready, unwatched, bad_upgrade}
use Rattle.sess_turns.specs.Terms.{Terms}
use Rattle.sess_turns.specs.Turns.{Finish, timed_out, stopped, lost, spent, broken, AloneFinish}
use Rattle.sess_serve.specs.Answers.{Answer, gone, begun, replied, streamed, IsAnswerTo}
use Rattle.sess_serve.specs.Steps.{Says, IsAlone}
use Rattle.laws.specs.Storable.{IsStorable, AsksStorable, RequestsAreStorable, HoldsStored, LogsStayStored}
use Rattle.laws.proofs.ChangesLemmas.{as_answered, as_written, made_of, tx_refused, write_refused}
use Rattle.laws.proofs.StorableLemmas.{stored_behind, changes_of_write, changes_of_writes}

-- the history of a log that nobody else holds
with_history : (history : Option ℕ) (P : ℕ → Type 0) → IsSomeAnd history P → (n : ℕ) × P n
with_history None P is = absurd is
with_history (Some n) P is = (n, is)

module _ (terms : Terms) (p q : Pass RevisionData) (holds : HoldsStored (log_of terms.base p)) where
  -- the log as a writer has it
  abbrev Has : Whole RevisionData → Type 0
  Has w = HoldsStored (log_in terms.base w)

  same_log : (w : Whole RevisionData) → w.first ≡ p.first → w.log ≡ p.seen → Has w
  same_log w first log = subst (λ (z : ℕ × List RevisionData). HoldsStored (record { first = z.0; base = terms.base; revisions = z.1 }))
      {x = (p.first, p.seen)} {y = (w.first, w.log)} (λ i. (sym first i, sym log i)) holds

  unchanged : known q ≡ known p → Has (known q)
  unchanged same = subst Has (sym same) holds

  seen_unchanged : q.first ≡ p.first → q.seen ≡ p.seen → Has (known q)
  seen_unchanged first seen = same_log (known q) first seen

  writes : (history : ℕ) (ask : WriteAsk) (answer : Result Written WriteNo) → IsStorable ask → IsToldWrite answer → SoleWrite terms.base terms.mirror history p ask answer q → Has (known q)
  writes history ask (Ok written) is told sole =
      let answered = as_written terms.base terms.mirror history p q ask (Ok written) told sole in
      subst Has (sym answered.2) (stored_behind (log_of terms.base p) _ (changes_of_write (log_of terms.base p) ask is) holds)
  writes history ask (Err fault) is told sole =
      let answered = as_written terms.base terms.mirror history p q ask (Err fault) told sole in
      unchanged (write_refused terms.base terms.mirror history (known p) ask (known q) fault told answered).1

  transacts : (history : ℕ) (asks : List WriteAsk) (answer : Result (List Written) TxWriteNo) → All IsStorable asks → IsToldTx answer → SoleTransact terms.base terms.mirror history p asks answer q → Has (known q)
  transacts history asks (Ok answers) all told sole =
      let answered = as_answered terms.base terms.mirror history p q asks (Ok answers) told sole in
      subst Has (sym answered.2.2)
      (stored_behind (log_of terms.base p) answered.2.0 (changes_of_writes (log_of terms.base p) asks answered.2.0 answered.2.1 all) holds)
  transacts history asks (Err fault) all told sole =
      let answered = as_answered terms.base terms.mirror history p q asks (Err fault) told sole in
      unchanged (tx_refused terms.base terms.mirror history (known p) asks (known q) fault told answered).1

  cuts : (w : Whole RevisionData) (answer : Result ℕ OpNo) → IsCutAnswer (known p) w answer → Has w
  cuts w (Ok gen) is = subst Has (sym is.1) holds
  cuts w (Err (op_no.UsedUp at)) is = subst Has (sym is.2) holds
  cuts w (Err (op_no.Compacted asked floor)) is = absurd is
  cuts w (Err (op_no.Future asked current)) is = absurd is
  cuts w (Err op_no.Memory) is = absurd is

  compacts : (at : ℕ) (w : Whole RevisionData) (answer : Result ℕ OpNo) → IsCompactionAnswer at (known p) w answer → Has w
  compacts at w (Ok floor) is = subst Has (sym is.3) holds
  compacts at w (Err (op_no.Compacted asked floor)) is = subst Has (sym is.3) holds
  compacts at w (Err (op_no.Future asked current)) is = subst Has (sym is.3) holds
  compacts at w (Err (op_no.UsedUp other)) is = absurd is
  compacts at w (Err op_no.Memory) is = absurd is

  operates : (ask : Operate) (answer : Result ℕ OpNo) → IsSoleOperation ask (known p) answer (known q) → Has (known q)
  operates Cut answer is = cuts (known q) answer is
  operates (Compact at) answer is = compacts at (known q) answer is
  operates Restart answer is = unchanged is
  operates Disconnect answer is = unchanged is

  answers : (req : Req) (reply : Reply) → AsksStorable req → IsAnswerTo req (replied reply) → Says terms p (replied reply) q → IsAlone terms p (replied reply) q → Has (known q)
  answers req (wrote ask answer) storable to says sole =
      let there = with_history terms.sole_history (λ history. SoleWrite terms.base terms.mirror history p ask answer q) sole in
      writes there.0 ask answer (storable.write ask to) says.0 there.1
  answers req (transacted asks answer) storable to says sole =
      let there = with_history terms.sole_history (λ history. SoleTransact terms.base terms.mirror history p asks answer q) sole in
      transacts there.0 asks answer (storable.transaction asks to) says.0 there.1
  answers req (operated ask answer) storable to says sole = operates ask answer (made_of p q ask answer says.1 sole)
  answers req (unoperated ask) storable to says sole = unchanged sole.same
  answers req (unrouted fault) storable to says sole = unchanged sole.same
  answers req (got ask answer) storable to says sole = unchanged sole.same
  answers req (listed ask answer) storable to says sole = unchanged sole.same
  answers req (described served document) storable to says sole = unchanged sole.same
  answers req (metered told) storable to says sole = unchanged sole.same
  answers req (unready probe) storable to says sole = unchanged sole.same
  answers req (unwatched ask fault) storable to says sole = unchanged sole.same
  answers req (bad_upgrade ask) storable to says sole = unchanged sole.same

  -- what a stream knew at its beginning is what was known before
  finishes : (pass : Pass RevisionData) (finish : Finish) → known pass ≡ known p → q.first ≡ p.first → AloneFinish pass finish q → Has (known q)
  finishes pass (timed_out now) same first is = unchanged (is.same ∙ same)
  finishes pass (stopped now) same first is = unchanged (is.same ∙ same)
  finishes pass (lost turn at floor) same first is = unchanged (is.same ∙ same)
  finishes pass spent same first is = unchanged (is.same ∙ same)
  finishes pass (broken None) same first is = unchanged (is.same ∙ same)
  finishes pass (broken (Some now)) same first is = seen_unchanged first (is ∙ ap (λ (w : Whole RevisionData). w.log) same)

  pub step_stays : (req : Req) (answer : Answer) → AsksStorable req → q.first ≡ p.first → IsAnswerTo req answer → Says terms p answer q → IsAlone terms p answer q → HoldsStored (log_of terms.base q)
  step_stays req (replied reply) storable first to says sole = answers req reply storable to says sole
  step_stays req (streamed ask (gone asked floor)) storable first to says sole = unchanged sole.same
  step_stays req (streamed ask (begun pass turns)) storable first to says sole = finishes pass turns.finish sole.0.same first sole.1

pub logs_stay_stored : RequestsAreStorable → LogsStayStored
logs_stay_stored storable terms p last [] run alone holds = subst (λ (z : Pass RevisionData). HoldsStored (log_of terms.base z)) run holds
logs_stay_stored storable terms p last (e ∷ es) run alone holds =
    logs_stay_stored storable terms e.pass last es run.1 alone.1
    (step_stays terms p e.pass holds e.request e.answer (storable e.request) run.0.onward.extends.log_is run.0.answers run.0.says alone.0)
