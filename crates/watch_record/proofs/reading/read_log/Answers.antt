use Rattle.std.proofs.Common.{◌≡◌, ◌+◌, ◌<◌, [], length, sym, subst, ap, ◌∙◌, arith, rules}
use Rattle.std.proofs.lemmas.List.{length_push}
use Rattle.watch_record.specs.Lines.{lines_in}
use Rattle.watch_record.proofs.LogLemmas.{HasLog, keeps-log, has_log-none, has_log-more, has_log-all, empty, nonempty}
use Rattle.watch_record.proofs.reading.read_log.Goals as goal

pub lines-init : goal.lines-init
lines-init c =
    let lines = lines_in c.args.rest.now in
    let none : c.new-log.result.items ≡ [] = c.new-log.ensures.items in
    let size : length c.new-log.result.items ≡ 0 = ap length none in
    record {
      has = subst (λ l. HasLog c.args.first lines l lines) (sym none) (has_log-none c.args.first lines c.requires.in_range);
      utf8 = c.utf8.rest;
      within = omega (arith, size);
    }

pub returns-then-is_empty-clause-kept : goal.returns-then-is_empty-clause-kept
returns-then-is_empty-clause-kept c = keeps-log c.args.first (lines_in c.args.rest.now) c.lines.log.items (lines_in c.lines.left.now) c.lines.invariant.has

pub returns-then-is_empty-clause-read : goal.returns-then-is_empty-clause-read
returns-then-is_empty-clause-read c =
    has_log-all c.args.first (lines_in c.args.rest.now) c.lines.log.items (lines_in c.lines.left.now) (lines_in c.in-Some.more.now) c.in-Some.line.now
    c.lines.invariant.has c.in-Some.ensures.1 (empty c.in-Some.line.now c.is_empty.result c.is_empty.ensures c.if-is_empty.true)

pub lines-preserved : goal.lines-preserved
lines-preserved c =
    let first = c.args.first in
    let log = c.lines.log.items in
    let line = c.in-Some.line.now in
    let more = c.in-Some.more.now in
    let some : 0 < length line = nonempty line c.is_empty.result c.is_empty.ensures c.if-is_empty.false in
    let read = rw c.in-Some-2.is at c.in_ok-revision.ensures in
    let kept : c.keep.new.log.items ≡ _ = c.in_ok-keep-in-Some-2.ensures in
    let size : length c.keep.new.log.items ≡ length log + 1 = ap length kept ∙ length_push log c.in-Some-2.revision in
    let shorter : length more < length c.lines.left.now = c.in-Some.ensures.3 in
    record {
      has = subst (λ l. HasLog first (lines_in c.args.rest.now) l (lines_in more)) (sym kept)
          (has_log-more first (lines_in c.args.rest.now) log (lines_in c.lines.left.now) (lines_in more) line (first + 1 + length c.as_slice.result.now) c.in-Some-2.revision
          c.lines.invariant.has c.in-Some.ensures.1 some (ap (λ l. first + 1 + length l) c.as_slice.ensures.value) read.0 read.1 read.2);
      utf8 = search rules;
      within = omega (arith, size, shorter, c.lines.invariant.within);
    }
