use Rattle.std.proofs.Common.{refl, ap, inl, sym}
use Rattle.client_api.proofs.LawLemmas.{onwards_do_join}
use Rattle.sess_reply.specs.Replies.{bad_upgrade}
use Rattle.sess_turns.proofs.AloneLemmas.{sole-same}
use Rattle.sess_serve.proofs.Replying.{did_of, sends, lacks, onward-is, facts-still, unless-memory}
use Rattle.sess_serve.proofs.watching.step_watch.Goals as goal

pub returns-in-Err-clause-answered : goal.returns-in-Err-clause-answered
returns-in-Err-clause-answered g c = lacks _ _ _ _ _ _ refl refl (onwards_do_join.0 _) (λ w. inl refl) refl _

pub returns-else-is_plain_or_upgrade-clause-answered : goal.returns-else-is_plain_or_upgrade-clause-answered
returns-else-is_plain_or_upgrade-clause-answered g c =
    let fails = rw c.if-is_plain_or_upgrade.false at c.is_plain_or_upgrade.ensures in
    sends _ _ _ _ _ _ c.by_reply.result c.send_bad_upgrade.result c.by_reply.ensures (bad_upgrade c.args.ask.now) (c.requires.route, fails) (sym c.tell_refused.ensures.pass)
    (onward-is _ _ (sym c.tell_refused.ensures.pass)) (λ w. sole-same _ _ c.tell_refused.ensures.pass) (ap did_of c.tell_refused.ensures.facts)
    (c.send_bad_upgrade.ensures c.args.ask.now) _

pub returns-else-is_plain_or_upgrade-clause-facts : goal.returns-else-is_plain_or_upgrade-clause-facts
returns-else-is_plain_or_upgrade-clause-facts g c = facts-still _ _ c.tell_refused.ensures.facts

pub returns-else-is_plain_or_upgrade-clause-kept : goal.returns-else-is_plain_or_upgrade-clause-kept
returns-else-is_plain_or_upgrade-clause-kept g c = λ whole. unless-memory c.by_reply.result (c.tell_refused.ensures.kept whole)
