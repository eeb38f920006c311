use Rattle.std.proofs.Common.{refl, ◌++◌, ap, ◌∙◌}
use Rattle.serde_json.specs.View.{view}
use Rattle.serde_json.specs.Written.{comma_if, compact_text}
use Rattle.watch_record.specs.Revisions.{key_text, resource_member}
use Rattle.watch_record.proofs.WriteLemmas.{one-change}
use Rattle.watch_record.proofs.revisions.change_at.Goals as goal

pub invariant_of-result : goal.invariant_of-result
invariant_of-result c = let kept = rw c.in-Some.is at c.in_ok-new.ensures in kept.0.keyed

pub returns : goal.returns
returns c =
    let kept = rw c.in-Some.is at c.in_ok-new.ensures in (
      kept.0.stored,
      record {
        value = record { key = c.args.key; object = view c.args.object.now; resource = c.args.resource };
        told_is = refl;
        change_is = record { rev_is = refl; resource_is = refl; key_is = refl; new = kept.0.new_is };
        keyed = kept.0.keyed;
        writes = one-change c.args.out.now.items c.push_key.new.out.items c.read_new.new.out.items c.push_resource.new.out.items
            (comma_if c.args.later) (key_text c.args.key) (compact_text (view c.args.object.now)) (resource_member c.args.resource)
            (c.in_ok-push_key.ensures ∙ ap (λ k. c.args.out.now.items ++ (comma_if c.args.later ++ key_text k)) c.as_str.ensures.value)
            kept.1 c.in_ok-push_resource.ensures;
      },
    )
