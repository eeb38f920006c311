use Rattle.std.proofs.Common.{◌≡◌, ◌<◌, length, sym, ap, ◌∙◌, rules}
use Rattle.form_urlencoded.specs.Form.{raw_pairs}
use Rattle.form_urlencoded.proofs.FormLemmas.{raw_pairs-nil, raw_pairs_skip, raw_pairs_first}
use Rattle.std.proofs.lemmas.List.{nil_from_length}
use Rattle.http_read.specs.Pieces.{IsItself}
use Rattle.http_read.proofs.PieceLemmas.{before-all, after-all}
use Rattle.http_read.proofs.params.next_pair.Goals as goal

pub loop-rest-preserved : goal.loop-rest-preserved
loop-rest-preserved c =
    let empty : length c.parted.result.0.now ≡ 0 = search rules in record {
      pairs = rw c.parted.ensures.after (sym (raw_pairs_skip _ (rw c.parted.ensures.before at empty)) ∙ c.loop-rest.invariant.pairs);
      plain = λ all. after-all IsItself 38 c.loop-rest.rest.now c.parted.result.1.now c.parted.ensures.after (c.loop-rest.invariant.plain all);
    }

pub returns-then-not-is_empty-clause-first : goal.returns-then-not-is_empty-clause-first
returns-then-not-is_empty-clause-first c =
    let nonempty : 0 < length c.parted.result.0.now = search rules in
    let outer = c.parted.ensures in
    let inner = c.parted_short.ensures in
    rw (inner.before, inner.after, outer.after, outer.before, ← c.loop-rest.invariant.pairs) (raw_pairs_first _ (rw outer.before at nonempty))

pub returns-then-not-is_empty-clause-plain : goal.returns-then-not-is_empty-clause-plain
returns-then-not-is_empty-clause-plain c = λ all.
    let rest = c.loop-rest.invariant.plain all in
    let piece = before-all IsItself 38 c.loop-rest.rest.now c.parted.result.0.now c.parted.ensures.before rest in (
      before-all IsItself 61 c.parted.result.0.now _ c.parted_short.ensures.before piece,
      after-all IsItself 61 c.parted.result.0.now _ c.parted_short.ensures.after piece,
      after-all IsItself 38 c.loop-rest.rest.now _ c.parted.ensures.after rest,
    )

pub returns-clause-none : goal.returns-clause-none
returns-clause-none c =
    let ended = nil_from_length c.loop-rest.rest.now (search rules) in
    sym c.loop-rest.invariant.pairs ∙ ap raw_pairs ended ∙ raw_pairs-nil
