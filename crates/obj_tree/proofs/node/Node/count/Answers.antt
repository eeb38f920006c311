use Rattle.std.proofs.Common.{◌≡◌, length, ap, arith}
use Rattle.std.proofs.lemmas.List.{length-map}
use Rattle.obj_tree.specs.Pages.{values_of, joined}
use Rattle.obj_tree.proofs.PageLemmas.{many_pages}
use Rattle.obj_tree.proofs.NodeLemmas.{tight_pages}
use Rattle.obj_tree.proofs.node.Node.count.Goals as goal

pub returns : goal.returns
returns c =
    let items = c.self.inside.pages.items in
    let pages = values_of items in
    let all : length (joined pages) ≡ length c.args.self.now = ap length c.self.view_is in
    record {
      few = omega (arith, tight_pages pages c.self.invariant.0.sized c.self.invariant.0.full, all, length-map items (λ p. p.value), c.len.ensures);
      enough = omega (arith, many_pages pages c.self.invariant.0.sized, all, length-map items (λ p. p.value), c.len.ensures);
    }
