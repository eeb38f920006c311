-- What the reply's text tells, or why there is no whole reply.
use Rattle.std.proofs.Common.{ℕ, List, ◌++◌, Err, ap, inl, inr, subst}
use Rattle.line_stream.specs.Bodies.{IsBody, ReadsBody}
use Rattle.line_stream.specs.Readers.{ReaderData}
use Rattle.cluster_link.specs.Uids.{TellsUid, most_namespace}
use Rattle.cluster_link.proofs.uid.read_reply.Goals as goal

pub returns-in-Err-clause-reads : goal.returns-in-Err-clause-reads
returns-in-Err-clause-reads g c =
    let read = c.in-Err.ensures.reads in
    let kept = c.read_body.new.self.at.kept in (
      read.0,
      read.1,
      inl (
        c.in-Err.fault,
        kept,
        c.answer_without.ensures,
        subst (λ (bytes : List ℕ). ReadsBody most_namespace bytes kept (g.S.Source.left c.read_body.new.source) (Err c.in-Err.fault)) (ap (λ (r : ReaderData). r.kept ++ read.0) c.new_reader-reader.ensures) read.2.0,
      ),
    )

pub returns-clause-reads : goal.returns-clause-reads
returns-clause-reads g c =
    let read = c.in-Ok.ensures.reads in
    let kept = c.read_body.new.self.at.kept in
    let text = c.in-Ok.text.items in (
      read.0,
      read.1,
      inr (
        text,
        kept,
        subst (λ (bytes : List ℕ). IsBody bytes text kept) (ap (λ (r : ReaderData). r.kept ++ read.0) c.new_reader-reader.ensures) read.2.0.0,
        subst (λ (t : List ℕ). TellsUid t c.tell_uid.result) c.as_slice.ensures.value c.tell_uid.ensures,
      ),
    )
