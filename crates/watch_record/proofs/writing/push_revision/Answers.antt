use Rattle.std.proofs.Common.{◌≡◌, List, ℕ, ◌∷◌, [], ◌++◌, map, ap, ◌∙◌, append_assoc}
use Rattle.json_obj.specs.Replies.{items_text}
use Rattle.rev_log.specs.Changes.{RevisionData}
use Rattle.watch_record.specs.Revisions.{text_of_change, line_front, line_back, recorded_line}
use Rattle.watch_record.proofs.WriteLemmas.{one-line}
use Rattle.watch_record.proofs.writing.push_revision.Goals as goal

pub returns : goal.returns
returns c =
    let revision = c.args.revision.now in
    let o = c.args.out.now.items in
    let texts : List (List ℕ) = map text_of_change revision.changes in
    let line : c.push_back.new.out.items ≡ o ++ recorded_line texts revision.rev =
    one-line o c.extend_from_slice.new.self.items c.push_changes.new.out.items c.push_back.new.out.items line_front (items_text texts) (line_back revision.rev)
    c.in_ok-extend_from_slice.ensures.items
    (c.in_ok-push_changes.ensures ∙ ap (λ changes. c.extend_from_slice.new.self.items ++ items_text (map text_of_change changes))
    (c.deref.ensures.value ∙ ap (λ (x : RevisionData). x.changes) c.revision.view_is))
    (c.in_ok-push_back.ensures ∙ ap (λ (x : RevisionData). c.push_changes.new.out.items ++ line_back x.rev) c.revision.view_is) in
    c.in_ok-push.ensures.items ∙ ap (λ l. l ++ 10 ∷ []) line ∙ append_assoc o (recorded_line texts revision.rev) (10 ∷ [])
