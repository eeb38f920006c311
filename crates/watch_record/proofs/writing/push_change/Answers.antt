use Rattle.std.proofs.Common.{◌++◌, ap, ◌∙◌}
use Rattle.serde_json.specs.Written.{comma_if}
use Rattle.rev_log.specs.Changes.{ChangeData}
use Rattle.watch_record.specs.Revisions.{key_text, resource_member, new_text}
use Rattle.watch_record.proofs.WriteLemmas.{one-change}
use Rattle.watch_record.proofs.writing.push_change.Goals as goal

pub returns : goal.returns
returns c =
    let change = c.args.change.now in
    one-change c.args.out.now.items c.push_key.new.out.items c.push_new.new.out.items c.push_resource.new.out.items
    (comma_if c.args.later) (key_text change.key) (new_text change.rev change.new) (resource_member change.resource)
    (c.in_ok-push_key.ensures ∙ ap (λ k. c.args.out.now.items ++ (comma_if c.args.later ++ key_text k)) (c.as_str.ensures.value ∙ ap (λ (x : ChangeData). x.key) c.change.view_is))
    c.in_ok-push_new.ensures
    (c.in_ok-push_resource.ensures ∙ ap (λ (x : ChangeData). c.push_new.new.out.items ++ resource_member x.resource) c.change.view_is)
