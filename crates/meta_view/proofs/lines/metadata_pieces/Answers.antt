use Rattle.std.proofs.Common.{decimal, drop, take}
use Rattle.meta_view.proofs.Texts.{metadata_text}
use Rattle.meta_view.proofs.lines.metadata_pieces.Goals as goal

pub returns : goal.returns
returns c = λ revision is.
    let o = c.args.object.now in
    rw (is, c.metadata_front-front.ensures, c.metadata_back-back.ensures) (metadata_text (drop o.meta_from o.front) (decimal revision) (take o.meta_to o.back))
