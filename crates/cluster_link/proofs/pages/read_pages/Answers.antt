-- Each page goes on with the list, or is its last, or isn't to be had.
use Rattle.std.proofs.Common.{◌≡◌, [], ◌++◌, false, inl, inr, refl, sym, subst, ◌∙◌}
use Rattle.edge_io.proofs.SentLemmas.{written-nothing}
use Rattle.edge_io.proofs.ToldLemmas.{prepended-nil}
use Rattle.line_stream.specs.Readers.{ReaderData}
use Rattle.cluster_link.specs.Pages.{ArePages, GatheredData, no_pages}
use Rattle.cluster_link.proofs.AnswerLemmas.{counts_from}
use Rattle.cluster_link.proofs.PageLemmas.{last_page, no_page, one_more, pages_begin, taken_on}
use Rattle.cluster_link.proofs.pages.read_pages.Goals as goal

pub loop-init : goal.loop-init
loop-init g c = (
  (
    [],
    [],
    sym (prepended-nil (g.S.Source.left c.args.source.now)),
    subst (λ (it : GatheredData). ArePages c.args.selection.now.resource [] it [] c.new_reader-reader.result.at.kept) (sym c.requires)
        (subst (λ (r : ReaderData). ArePages c.args.selection.now.resource [] no_pages [] r.kept) (sym c.new_reader-reader.ensures) pages_begin),
    written-nothing (g.K.Sink.written c.args.sink.now) (g.K.Sink.faults c.args.sink.now),
  ),
  refl,
)

pub loop-preserved : goal.loop-preserved
loop-preserved g c =
    let inv = c.loop.invariant in
    let read = c.in-Ok-true.ensures.reads in
    let on = one_more c.args.selection.now inv.0.0 c.loop.gathered inv.0.1 c.loop.reader.at.kept inv.0.3 (g.K.Sink.written c.args.sink.now) (g.K.Sink.written c.loop.sink) (g.K.Sink.written c.next_page.new.sink)
    (g.K.Sink.settled c.args.sink.now) (g.K.Sink.settled c.loop.sink) (g.K.Sink.settled c.next_page.new.sink) (g.K.Sink.faults c.args.sink.now) (g.K.Sink.faults c.loop.sink) (g.K.Sink.faults c.next_page.new.sink)
    inv.0.4 read.0 (g.S.Source.left c.next_page.new.source) c.next_page.new.gathered c.next_page.new.reader.at.kept c.in-Ok-true.field-0 read.2 in (
      (
        on.0,
        inv.0.1 ++ read.0,
        taken_on inv.0.1 read.0 (g.S.Source.left c.args.source.now) (g.S.Source.left c.loop.source) (g.S.Source.left c.next_page.new.source) inv.0.2 read.1,
        on.1,
        on.2.0,
      ),
      c.in-Ok-true.ensures.counted ∙ inv.1,
    )

pub returns-in-Ok-false-clause-reads : goal.returns-in-Ok-false-clause-reads
returns-in-Ok-false-clause-reads g c =
    let inv = c.loop.invariant in
    let read = c.in-Ok-false.ensures.reads in
    let last : c.in-Ok-false.field-0 ≡ false = cc in (
      inv.0.1 ++ read.0,
      taken_on inv.0.1 read.0 (g.S.Source.left c.args.source.now) (g.S.Source.left c.loop.source) (g.S.Source.left c.next_page.new.source) inv.0.2 read.1,
      last_page c.args.selection.now inv.0.0 c.loop.gathered inv.0.1 c.loop.reader.at.kept inv.0.3 (g.K.Sink.written c.args.sink.now) (g.K.Sink.written c.loop.sink) (g.K.Sink.written c.next_page.new.sink)
          (g.K.Sink.settled c.args.sink.now) (g.K.Sink.settled c.loop.sink) (g.K.Sink.settled c.next_page.new.sink) (g.K.Sink.faults c.args.sink.now) (g.K.Sink.faults c.loop.sink) (g.K.Sink.faults c.next_page.new.sink)
          inv.0.4 read.0 (g.S.Source.left c.next_page.new.source) c.next_page.new.gathered c.next_page.new.reader.at.kept c.in-Ok-false.field-0 last read.2,
    )

pub returns-in-Ok-false-clause-counted : goal.returns-in-Ok-false-clause-counted
returns-in-Ok-false-clause-counted g c = c.in-Ok-false.ensures.counted ∙ c.loop.invariant.1

pub returns-in-Err-clause-reads : goal.returns-in-Err-clause-reads
returns-in-Err-clause-reads g c =
    let inv = c.loop.invariant in
    let read = c.in-Err.ensures.reads in (
      inv.0.1 ++ read.0,
      taken_on inv.0.1 read.0 (g.S.Source.left c.args.source.now) (g.S.Source.left c.loop.source) (g.S.Source.left c.next_page.new.source) inv.0.2 read.1,
      inl (no_page c.args.selection.now inv.0.0 c.loop.gathered inv.0.1 c.loop.reader.at.kept inv.0.3 (g.K.Sink.written c.args.sink.now) (g.K.Sink.written c.loop.sink) (g.K.Sink.written c.next_page.new.sink)
          (g.K.Sink.settled c.args.sink.now) (g.K.Sink.settled c.loop.sink) (g.K.Sink.settled c.next_page.new.sink) (g.K.Sink.faults c.args.sink.now) (g.K.Sink.faults c.loop.sink) (g.K.Sink.faults c.next_page.new.sink)
          inv.0.4 read.0 (g.S.Source.left c.next_page.new.source) c.next_page.new.gathered c.next_page.new.reader.at.kept c.in-Err.why read.2),
    )

pub returns-in-Err-clause-counted : goal.returns-in-Err-clause-counted
returns-in-Err-clause-counted g c = counts_from (Unit {0}) c.in-Err.why (g.S.Source.faults c.args.source.now) (g.S.Source.faults c.loop.source) (g.S.Source.faults c.next_page.new.source) c.loop.invariant.1 c.in-Err.ensures.counted

pub returns-clause-reads : goal.returns-clause-reads
returns-clause-reads g c =
    let inv = c.loop.invariant in (
      inv.0.1,
      inv.0.2,
      inr (record { pages = inv.0.0; gathered = c.loop.gathered; kept = c.loop.reader.at.kept; are = inv.0.3; requests = inv.0.4; fault = inr refl }),
    )

pub returns-clause-counted : goal.returns-clause-counted
returns-clause-counted g c = c.loop.invariant.1
