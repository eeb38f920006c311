use Rattle.std.proofs.Common.{◌++◌, length, ap, ◌∙◌}
use Rattle.serde_json.specs.View.{items_view}
use Rattle.watch_record.specs.Revisions.{all_told, line_front}
use Rattle.watch_record.proofs.ReadLemmas.{WritesLine, other-text, no-order, its-line}
use Rattle.watch_record.proofs.revisions.revision_of.Goals as goal

pub returns-then-not-is_text : goal.returns-then-not-is_text
returns-then-not-is_text c =
    let told = all_told (items_view c.args.items.now.items) in
    let from : WritesLine c.args.rev told c.in-Some.changes.items (length c.as_slice.result.now) c.as_slice-2.result.now = record {
      front = c.extend_from_slice.new.self.items;
      middle = c.read_changes.new.out.items;
      front_is = c.in_ok-extend_from_slice.ensures.items ∙ ap (λ l. l ++ line_front) c.new-text.ensures.items;
      reads = rw c.in-Some.is at c.in_ok-changes.ensures;
      text_is = c.as_slice-2.ensures.value ∙ c.in_ok-push_back.ensures;
      count_is = ap length c.as_slice.ensures.value;
    } in
    other-text c.args.rev c.args.line.now told c.in-Some.changes.items (length c.as_slice.result.now) c.as_slice-2.result.now c.is_text.result from c.is_text.ensures c.if-not-is_text.true

pub returns-in-Ok : goal.returns-in-Ok
returns-in-Ok c =
    let told = all_told (items_view c.args.items.now.items) in
    let from : WritesLine c.args.rev told c.in-Some.changes.items (length c.as_slice.result.now) c.as_slice-2.result.now = record {
      front = c.extend_from_slice.new.self.items;
      middle = c.read_changes.new.out.items;
      front_is = c.in_ok-extend_from_slice.ensures.items ∙ ap (λ l. l ++ line_front) c.new-text.ensures.items;
      reads = rw c.in-Some.is at c.in_ok-changes.ensures;
      text_is = c.as_slice-2.ensures.value ∙ c.in_ok-push_back.ensures;
      count_is = ap length c.as_slice.ensures.value;
    } in
    its-line c.args.rev c.args.line.now told c.in-Some.changes.items (length c.as_slice.result.now) c.as_slice-2.result.now c.is_text.result from c.is_text.ensures c.if-not-is_text.false
    c.in-Ok.ensures.form c.in-Ok.revision c.in-Ok.ensures.ok

pub returns : goal.returns
returns c =
    let told = all_told (items_view c.args.items.now.items) in
    let from : WritesLine c.args.rev told c.in-Some.changes.items (length c.as_slice.result.now) c.as_slice-2.result.now = record {
      front = c.extend_from_slice.new.self.items;
      middle = c.read_changes.new.out.items;
      front_is = c.in_ok-extend_from_slice.ensures.items ∙ ap (λ l. l ++ line_front) c.new-text.ensures.items;
      reads = rw c.in-Some.is at c.in_ok-changes.ensures;
      text_is = c.as_slice-2.ensures.value ∙ c.in_ok-push_back.ensures;
      count_is = ap length c.as_slice.ensures.value;
    } in
    no-order c.args.rev c.args.line.now told c.in-Some.changes.items (length c.as_slice.result.now) c.as_slice-2.result.now from c.in-Err.ensures.refused.1
