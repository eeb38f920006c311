use Rattle.std.proofs.Common.{◌≡◌, ℕ, List, true, not, bytes_eq, sym, ap, ◌∙◌}
use Rattle.std.specs.Prelude.{◌&&◌}
use Rattle.kube_meta.specs.declared.objects.Obj.{Obj}
use Rattle.select_all.specs.Streams.{TransitionData}
use Rattle.mirror_log.specs.Intakes.{has, same_kind, is_of}
use Rattle.mirror_log.proofs.KeyLemmas.{removed}
use Rattle.mirror_log.proofs.keys.take_one.Goals as goal

pub returns-then-same_kind : goal.returns-then-same_kind
returns-then-same_kind c =
    let same : same_kind c.args.line.now.kind c.args.kind ≡ true = sym (ap (λ (t : TransitionData). same_kind t.kind c.args.kind) c.line.view_is) ∙ sym c.same_kind.ensures ∙ c.if-same_kind.true in
    let key_is : c.deref.result.now.key ≡ c.args.line.now.obj.key = ap (λ (o : Obj). o.key) c.deref.ensures ∙ ap (λ (t : TransitionData). t.obj.key) c.line.view_is in
    λ key.
    removed c.args.keys.now c.remove.new.self c.deref.result.now.key c.remove.ensures.updates key
    ∙ ap (λ (k : List ℕ). has c.args.keys.now key && not (bytes_eq k key)) key_is
    ∙ ap (λ b. has c.args.keys.now key && not (b && is_of key c.args.line.now)) (sym same)
