use Rattle.std.proofs.Common.{◌<◌, ◌++◌, [], length, refl, sym, ap, subst, ◌∙◌, arith, append_assoc, append-nil}
use Rattle.edge_io.specs.Told.{prepended}
use Rattle.edge_io.proofs.ToldLemmas.{prepended-prepended, prepended-nil}
use Rattle.line_stream.specs.Readers.{GoesOn}
use Rattle.line_stream.specs.Moves.{steps_left}
use Rattle.line_stream.proofs.ReaderLemmas.{goes-none, goes-on, goes-more, reads-on, fill-nearer}
use Rattle.line_stream.proofs.IdleLemmas.{open-few, open-holds-none}
use Rattle.line_stream.proofs.lines.LineReader.next_line.Goals as goal

pub loop-self-init : goal.loop-self-init
loop-self-init g c =
    let at = c.args.self.now.at in record {
      taken = ([], sym (prepended-nil _), subst (λ b. GoesOn at b at) (sym (append-nil at.kept)) (goes-none at));
      idle = λ holds. (refl, goes-none at);
      line = refl;
      quiet = refl;
    }

pub loop-self-preserved-in-Ok-Passed : goal.loop-self-preserved-in-Ok-Passed
loop-self-preserved-in-Ok-Passed g c =
    let before = c.loop-self.invariant in
    let step = rw c.in-Ok-Passed.field-0-is at c.in-Ok-Passed.ensures in record {
      taken = (before.taken.0, before.taken.1, goes-on _ _ _ _ before.taken.2 step.0.goes);
      idle = λ holds. let so_far = before.idle holds in (so_far.0, goes-on _ _ _ _ so_far.1 step.0.goes);
      line = step.1 ∙ before.line;
      quiet = before.quiet;
    }

pub returns-in-Ok-Line-clause-reads : goal.returns-in-Ok-Line-clause-reads
returns-in-Ok-Line-clause-reads g c =
    let so_far = c.loop-self.invariant.taken in
    (so_far.0, so_far.1, reads-on _ _ _ _ _ so_far.2 (rw c.in-Ok-Line.field-0-is at c.in-Ok-Line.ensures))

pub fill-requires : goal.fill-requires
fill-requires g c =
    let open_at = rw c.in-Ok-Open.field-0-is at c.in-Ok-Open.ensures in
    omega (arith, open-few c.loop-self.self.at.place c.loop-self.self.at.kept open_at.1.1, ap (λ v. length v.at.kept) open_at.0)

pub loop-self-smaller : goal.loop-self-smaller
loop-self-smaller g c =
    let open_at = rw c.in-Ok-Open.field-0-is at c.in-Ok-Open.ensures in
    let at = c.loop-self.self.at in
    let came = c.in_ok-fill-in-Ok-Open.ensures.fills in
    let near : steps_left c.fill.new.self.at < steps_left at =
    omega (arith, fill-nearer at came.0 (open-few at.place at.kept open_at.1.1) came.1, ap (λ v. steps_left v.at) came.2, ap (λ v. steps_left (record (v.at) { kept = v.at.kept ++ came.0 })) open_at.0) in near

pub loop-self-preserved : goal.loop-self-preserved
loop-self-preserved g c =
    let before = c.loop-self.invariant in
    let so_far = before.taken in
    let first = c.args.self.now.at in
    let at = c.loop-self.self.at in
    let open_at = rw c.in-Ok-Open.field-0-is at c.in-Ok-Open.ensures in
    let came = c.in_ok-fill-in-Ok-Open.ensures.fills in
    let now = ap (λ v. v.at) came.2 ∙ ap (λ v. record (v.at) { kept = v.at.kept ++ came.0 }) open_at.0 in record {
      taken = (
        so_far.0 ++ came.0,
        so_far.1 ∙ ap (prepended so_far.0) came.3 ∙ prepended-prepended so_far.0 came.0 _,
        subst (λ r. GoesOn first (first.kept ++ (so_far.0 ++ came.0)) r) (sym now)
            (subst (λ b. GoesOn first b (record at { kept = at.kept ++ came.0 })) (append_assoc first.kept so_far.0 came.0) (goes-more first at (first.kept ++ so_far.0) came.0 so_far.2)),
      );
      idle = λ holds. absurd (open-holds-none first at (before.idle holds).1 open_at.1.1 holds);
      line = ap (λ v. v.line) came.2 ∙ ap (λ v. v.line) open_at.0 ∙ before.line;
      quiet = came.4 ∙ before.quiet;
    }

pub returns-in_err-fill-in-Ok-Open-clause-idle : goal.returns-in_err-fill-in-Ok-Open-clause-idle
returns-in_err-fill-in-Ok-Open-clause-idle g c =
    λ holds. absurd (open-holds-none c.args.self.now.at c.loop-self.self.at (c.loop-self.invariant.idle holds).1 (rw c.in-Ok-Open.field-0-is at c.in-Ok-Open.ensures).1.1 holds)
