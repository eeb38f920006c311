use Rattle.std.proofs.Common.{◌≡◌, List, [], ◌∷◌, subst}
use Rattle.std.specs.Prelude.{MatchOption}
use Rattle.kube_meta.specs.Rows.{RowData}
use Rattle.obj_tree.proofs.rows.Rows.first.Goals as goal

pub returns : goal.returns
returns c =
    subst (λ (rows : List RowData). MatchOption c.taken.result (rows ≡ []) (λ first. rows ≡ first.0.now.value ∷ first.1)) c.self.view_is c.taken.ensures
