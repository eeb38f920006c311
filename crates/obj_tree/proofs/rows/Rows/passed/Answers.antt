use Rattle.std.proofs.Common.{◌≡◌, List, subst}
use Rattle.std.specs.Prelude.{MatchOption}
use Rattle.kube_meta.specs.Rows.{RowData}
use Rattle.obj_tree.specs.Words.{from_fit, Passes}
use Rattle.obj_tree.proofs.rows.Rows.passed.Goals as goal

pub returns : goal.returns
returns c =
    subst (λ (rows : List RowData). MatchOption c.passed.result (from_fit c.args.mask rows ≡ rows) (λ rest. Passes c.args.mask rows rest)) c.self.view_is c.passed.ensures
