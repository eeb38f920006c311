-- The log that was taken to the list's rows is a mirror from there; one that wasn't rests.
use Rattle.std.proofs.Common.{List, ap, refl, subst, sym, ◌∙◌}
use Rattle.kube_meta.specs.Rows.{RowData}
use Rattle.cluster_link.specs.Mirroring.{ClusterData}
use Rattle.cluster_link.specs.Relisting.{NamesRefusal}
use Rattle.cluster_link.proofs.RelistLemmas.{listed_anew, not_relisted, refused_rests, rests_mirror, rests_on, still}
use Rattle.cluster_link.proofs.mirror.ClusterMirror.take.Goals as goal

pub returns-in-Ok-clause-takes : goal.returns-in-Ok-clause-takes
returns-in-Ok-clause-takes g c =
    let m = c.self.inside in
    listed_anew m.log m.reader.at m.answer c.args.self.now c.self.view_is c.args.list.now c.rebase.new.self c.new_reader.result.at _ c.rows.result.now c.at-at.result
    c.at-at.ensures.lawful (c.requires ∙ sym (ap (λ (m : ClusterData). m.selection) c.self.view_is)) c.rows.ensures c.at-at.ensures.answer c.new_reader.ensures refl c.to.ensures.lawful c.in-Ok.ensures.rebases.0

pub invariant_of-self-in-Err : goal.invariant_of-self-in-Err
invariant_of-self-in-Err g c =
    let m = c.self.inside in
    rests_mirror m.log c.named-why.new.log m.reader.at m.answer _ c.self.invariant
    (rests_on m.log c.rebase.new.self c.named-why.new.log (refused_rests m.log c.rows.result.now c.at-at.result c.in-Err.why c.rebase.new.self c.in-Err.ensures.rebases) c.named-why.ensures.rests)

pub returns-in-Err-clause-takes : goal.returns-in-Err-clause-takes
returns-in-Err-clause-takes g c =
    let m = c.self.inside in
    let rests = rests_on m.log c.rebase.new.self c.named-why.new.log (refused_rests m.log c.rows.result.now c.at-at.result c.in-Err.why c.rebase.new.self c.in-Err.ensures.rebases) c.named-why.ensures.rests in (
      still m.log m.reader.at m.answer c.args.self.now c.self.view_is c.named-why.new.log c.named-why.result rests,
      not_relisted m.log m.reader.at m.answer c.args.self.now c.self.view_is c.args.list.now c.rebase.new.self c.named-why.new.log _ c.rows.result.now c.at-at.result c.to-to.result
          c.in-Err.why c.named-why.result c.rows.ensures c.at-at.ensures.answer c.to-to.ensures.answer c.in-Err.ensures.rebases
          (subst (λ (rows : List RowData). NamesRefusal c.rebase.new.self rows c.to-to.result c.at-at.result c.in-Err.why c.named-why.result c.named-why.new.log) (c.rows-in-Err.ensures ∙ sym c.rows.ensures) c.named-why.ensures.named),
    )
