use Rattle.std.proofs.Common.{◌≡◌, ℕ, List}
use Rattle.edge_io.specs.Sent.{IsWrittenOut, sent_through}
use Rattle.edge_io.specs.Told.{prepended}
use Rattle.cluster_link.specs.Pages.{PageData, ArePages, page_requests}
use Rattle.cluster_link.proofs.pages.read_pages.Given as goal

-- the bytes that were taken are these pages, their requests were written, and the source counted no fault
abbrev pub invariant-loop : goal.invariant-loop
invariant-loop g l =
    ((pages : List PageData) × (taken : List ℕ) × (g.S.Source.left l.fn.source ≡ prepended taken (g.S.Source.left l.source)) × ArePages l.selection.resource pages l.gathered taken l.reader.at.kept
    × IsWrittenOut (page_requests l.selection.resource l.selection.ns pages) (sent_through g.K.Sink.written g.K.Sink.settled g.K.Sink.faults l.fn.sink l.sink))
    × (g.S.Source.faults l.source ≡ g.S.Source.faults l.fn.source)
