use Rattle.std.proofs.Common.{rules}
use Rattle.std.specs.Ordering.{nat_cmp}
use Rattle.std.specs.Cmp.Lexicographic.{slice_cmp}
use Rattle.std.proofs.lemmas.Fn.{always_returns_same}
use Rattle.kube_meta.specs.Rows.{key_of}
use Rattle.mirror_log.proofs.StandLemmas.{found, missing}
use Rattle.mirror_log.proofs.find.row_of.Goals as goal

pub returns-in-Ok : goal.returns-in-Ok
returns-in-Ok c =
    let by_key = c.in-Ok.ensures.position (λ row. slice_cmp nat_cmp (key_of row) c.args.key.now) (always_returns_same _ _ _ (λ a r g called. search rules)) in
    found c.args.rows.now c.args.key.now c.in-Ok.at c.index-rows-at.result c.requires c.in-Ok.ensures.bound c.index-rows-at.is by_key

pub returns-in-Err : goal.returns-in-Err
returns-in-Err c =
    let by_key = c.in-Err.ensures.position (λ row. slice_cmp nat_cmp (key_of row) c.args.key.now) (always_returns_same _ _ _ (λ a r g called. search rules)) in
    missing c.args.rows.now c.args.key.now c.in-Err.field-0 c.requires by_key
