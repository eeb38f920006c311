-- The body that was read is a page, or none.
use Rattle.std.proofs.Common.{ℕ, List, ap, subst, ◌∙◌}
use Rattle.edge_io.specs.Sent.{IsSentOn, sent_through}
use Rattle.line_stream.specs.ClusterRequests.{page_request}
use Rattle.cluster_link.specs.Pages.{GatheredData, TakesPage}
use Rattle.cluster_link.proofs.PageLemmas.{page_read}
use Rattle.cluster_link.proofs.pages.next_page.Goals as goal

pub returns-in-Ok-read_body-clause-reads : goal.returns-in-Ok-read_body-clause-reads
returns-in-Ok-read_body-clause-reads g c =
    let read = c.in-Ok-read_body.ensures.reads in
    let sent = sent_through g.K.Sink.written g.K.Sink.settled g.K.Sink.faults c.args.sink.now c.ask_page.new.sink in (
      read.0,
      read.1,
      page_read c.args.selection.now.resource c.args.selection.now.ns c.args.gathered.now c.args.reader.now.at.kept read.0 (g.S.Source.left c.read_body.new.source) sent c.in-Ok-read_body.text.items c.read_body.new.self.at.kept
          c.take_page.result c.take_page.new.gathered
          (subst (λ (token : List ℕ). IsSentOn (page_request c.args.selection.now.resource c.args.selection.now.ns token) sent) (c.as_str-token.ensures.value ∙ ap (λ (it : GatheredData). it.token) c.gathered.view_is) c.in-Ok.ensures)
          read.2.0.0 (subst (λ (text : List ℕ). TakesPage c.args.selection.now.resource c.args.gathered.now text c.take_page.result c.take_page.new.gathered) c.as_slice.ensures.value c.take_page.ensures),
    )
