use Rattle.std.proofs.Common.{◌≡◌, [], ◌∷◌, ◌++◌, sym, ap, ◌∙◌, subst, append_assoc}
use Rattle.std.specs.List.Sorted.{IsStrictlySortedBy}
use Rattle.std.specs.Map.{keys_of}
use Rattle.std.specs.String.{string_cmp}
use Rattle.serde_json.proofs.Views.{Entry}
use Rattle.json_obj.proofs.Found.{labels_more}
use Rattle.json_obj.proofs.metadata.labels_of.Goals as goal

pub loop-name-preserved : goal.loop-name-preserved
loop-name-preserved c =
    let l = c.loop-name in
    let done = l.invariant.0 in
    let e : Entry = (c.in-Some.name.now, c.in-Some.value.now) in
    let left = c.next.new.self in
    let all : c.args.members.now.entries ≡ done ++ e ∷ left = l.invariant.1 ∙ ap (λ es. done ++ es) c.in-Some.ensures.steps in
    let sorted = subst (λ es. IsStrictlySortedBy string_cmp (keys_of es)) all c.iter-name-items.ensures.ordered in (
      done ++ e ∷ [],
      all ∙ sym (append_assoc done (e ∷ []) left),
      labels_more done e left l.labels c.put_label.new.labels sorted l.invariant.2 (rw c.as_str.ensures.value at c.in_ok-put_label.ensures.this) (rw c.as_str.ensures.value at c.in_ok-put_label.ensures.others),
    )
