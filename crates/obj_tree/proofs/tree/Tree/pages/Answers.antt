use Rattle.std.proofs.Common.{◌≡◌, List, length, ap, arith, ◌∙◌}
use Rattle.obj_tree.specs.Pages.{values_of, joined}
use Rattle.obj_tree.proofs.tree.Tree.pages.Goals as goal

pub returns : goal.returns
returns c =
    let all : length (joined (values_of c.slice_of.result.now)) ≡ length c.args.self.now = ap (λ (xs : List _). length (joined (values_of xs))) c.slice_of.ensures ∙ ap length c.self.view_is in
    record {
      few = omega (arith, c.pages_in.ensures.few, all);
      enough = omega (arith, c.pages_in.ensures.enough, all);
    }
