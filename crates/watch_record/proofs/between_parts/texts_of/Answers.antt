use Rattle.std.proofs.Common.{◌≡◌, ◌+◌, ◌<◌, ◌≤◌, Bool, true, false, ◌∷◌, [], ◌++◌, List, ℕ, length, sym, subst, ap, ◌∙◌, arith, get_or}
use Rattle.std.specs.Prelude.{map}
use Rattle.std.proofs.lemmas.List.{map-append, take_rest}
use Rattle.watch_record.specs.Lines.{is_feed}
use Rattle.watch_record.proofs.PartLemmas.{Splits, splits-begin, splits-more, splits-ended, splits-all, ends-fresh, passes-stale, passes-other}
use Rattle.watch_record.proofs.between_parts.texts_of.Goals.{then-feed+then-fresh+in_ok-push, else-feed, else-feed-via-then-feed+else-fresh, else-feed-via-else-feed}
use Rattle.watch_record.proofs.between_parts.texts_of.Goals as goal

pub loop-at-init : goal.loop-at-init
loop-at-init c = rw c.new-texts.ensures.items (splits-begin c.args.bytes.now)

pub loop-at-preserved : goal.loop-at-preserved
loop-at-preserved c =
    let bytes = c.args.bytes.now in
    let at = c.loop-at.at in
    let before = map (λ text. text.now) c.loop-at.texts.items in
    let inside : at < length bytes = omega arith in
    elim c.if-feed.branch [
      | then-feed+then-fresh+in_ok-push w ↦
          let ended = splits-ended bytes before c.loop-at.start at c.loop-at.fresh inside (ends-fresh (get_or bytes at 0) c.loop-at.fresh w.if-feed.true w.if-fresh.true) c.loop-at.invariant in
          let feed : is_feed (get_or bytes at 0) ≡ true = ap is_feed w.if-feed.true in
          rw (w.texts-is, w.start-is, w.fresh-is, feed, w.in_ok-push.ensures.items, map-append) ended
      | else-feed w ↦ rw (w.texts-is, w.start-is, w.fresh-is) (splits-more bytes before c.loop-at.start at c.loop-at.fresh inside
          (elim w.else-feed.branch [
            | else-feed-via-then-feed+else-fresh v ↦ passes-stale (get_or bytes at 0) c.loop-at.fresh v.if-fresh.false
            | else-feed-via-else-feed v ↦ passes-other (get_or bytes at 0) c.loop-at.fresh v.if-feed.false
          ])
          c.loop-at.invariant)
    ]

pub returns : goal.returns
returns c =
    let bytes = c.args.bytes.now in
    let before = map (λ text. text.now) c.loop-at.texts.items in
    let past : length bytes ≤ c.loop-at.at = omega arith in
    rw (c.in_ok-push-2.ensures.items, map-append) (ap (λ t. before ++ t ∷ []) (take_rest bytes c.loop-at.start) ∙ sym (splits-all bytes before c.loop-at.start c.loop-at.at c.loop-at.fresh past c.loop-at.invariant))
