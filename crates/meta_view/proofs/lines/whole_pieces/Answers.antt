use Rattle.std.proofs.Common.{decimal}
use Rattle.meta_view.proofs.Texts.{whole_text}
use Rattle.meta_view.proofs.lines.whole_pieces.Goals as goal

pub returns : goal.returns
returns c = λ revision is.
    let o = c.args.object.now in
    rw (is, c.whole_front-front.ensures, c.whole_back-back.ensures) (whole_text o.front (decimal revision) o.back)
