use Rattle.std.proofs.Common.{◌≡◌, ◌∙◌, Option, Err, inl, inr, sym, subst, ap}
use Rattle.std.specs.Prelude.{MatchOption}
use Rattle.edge_io.specs.Sent.{sent_through}
use Rattle.watch_record.specs.declared.between_refusal.BetweenNo.TheVariants.{BadHeader}
use Rattle.watch_record.specs.declared.header.Header.{Header}
use Rattle.watchcache.specs.Run.{ChecksLogged, ChecksUnknown, IsSaidBetween}
use Rattle.watchcache.proofs.UnknownLemmas.{no_header, not_memory}
use Rattle.watchcache.proofs.checks.check_bytes.Goals as goal

pub returns-in-Err-BadHeader : goal.returns-in-Err-BadHeader
returns-in-Err-BadHeader g c =
    let bytes = c.args.bytes.now in
    let sent = sent_through g.K.Sink.written g.K.Sink.settled g.K.Sink.faults c.args.sink.now c.check_logged.new.sink in
    let status = c.check_logged.result in
    let is : c.judge_unknown.result ≡ Err BadHeader = c.in-Err-BadHeader.is ∙ ap Err c.in-Err-BadHeader.field-0-is in
    let none = no_header bytes (subst (IsSaidBetween bytes) is (c.judge_unknown.ensures (not_memory c.judge_unknown.result is))) in
    elim c.check_logged.ensures [
      | inl logged ↦ inl (subst (λ (found : Option Header). MatchOption found (ChecksLogged bytes sent status) (λ header. ChecksUnknown bytes sent status)) (sym none) logged)
      | inr silent ↦ inr silent
    ]
