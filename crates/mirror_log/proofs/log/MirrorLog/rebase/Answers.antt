use Rattle.std.proofs.Common.{ℕ, List, sym, subst}
use Rattle.kube_meta.specs.declared.resources.Resource.{Resource}
use Rattle.kube_meta.specs.Rows.{RowData}
use Rattle.rev_log.specs.Logs.{Log, end_of}
use Rattle.up_store.specs.Hearing.{AreAscending}
use Rattle.mirror_log.specs.Bridges.{Bridges}
use Rattle.mirror_log.proofs.RebaseLemmas.{keys_stand, rebases}
use Rattle.mirror_log.proofs.log.MirrorLog.rebase.Goals as goal

pub commit_all-requires-clause-rise : goal.commit_all-requires-clause-rise
commit_all-requires-clause-rise g c =
    let rise = subst (λ (n : ℕ). AreAscending n c.in_ok-revisions.revisions.items c.args.base) c.to-to.ensures.answer c.in_ok-revisions.ensures.bridges.rise in
    subst (λ (l : Log). AreAscending (end_of l) c.in_ok-revisions.revisions.items c.args.base) (sym c.in_ok-old.ensures.rests.log) rise

pub commit_all-requires-clause-keys : goal.commit_all-requires-clause-keys
commit_all-requires-clause-keys g c =
    let own = subst (λ (r : Resource). Bridges r c.to-to.result c.deref.result.now c.args.base c.args.rows.now c.in_ok-revisions.revisions.items) c.resource-of.ensures c.in_ok-revisions.ensures.bridges in
    let from = subst (λ (n : ℕ). Bridges c.args.self.now.selection.resource n c.deref.result.now c.args.base c.args.rows.now c.in_ok-revisions.revisions.items) c.to-to.ensures.answer own in
    let bridges = subst (λ (l : List RowData). Bridges c.args.self.now.selection.resource (end_of c.args.self.now.log) l c.args.base c.args.rows.now c.in_ok-revisions.revisions.items) c.deref.ensures.value from in
    keys_stand c.args.self.now c.rows_at_end.new.self c.rows_at_end.new.self c.args.rows.now c.args.base c.in_ok-old.ensures.rests c.in_ok-old.old.items c.in_ok-revisions.revisions.items c.in_ok-keys.keys
    c.in_ok-old.ensures.rows bridges c.in_ok-keys.ensures

pub returns-clause-rebases : goal.returns-clause-rebases
returns-clause-rebases g c =
    let own = subst (λ (r : Resource). Bridges r c.to-to.result c.deref.result.now c.args.base c.args.rows.now c.in_ok-revisions.revisions.items) c.resource-of.ensures c.in_ok-revisions.ensures.bridges in
    let from = subst (λ (n : ℕ). Bridges c.args.self.now.selection.resource n c.deref.result.now c.args.base c.args.rows.now c.in_ok-revisions.revisions.items) c.to-to.ensures.answer own in
    let bridges = subst (λ (l : List RowData). Bridges c.args.self.now.selection.resource (end_of c.args.self.now.log) l c.args.base c.args.rows.now c.in_ok-revisions.revisions.items) c.deref.ensures.value from in
    rebases c.args.self.now c.rows_at_end.new.self c.commit_all.new.self c.args.rows.now c.args.base c.in_ok-old.ensures.rests c.in_ok-old.old.items c.in_ok-revisions.revisions.items c.commit_all.result
    c.in_ok-old.ensures.rows bridges c.commit_all.ensures.commits
