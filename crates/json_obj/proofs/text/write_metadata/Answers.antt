use Rattle.std.proofs.Common.{◌≡◌, [], ◌∷◌, ◌++◌, true, false, sym, ap, ◌∙◌, string_bytes, rules, append_assoc}
use Rattle.std.specs.Prelude.{codes}
use Rattle.std.proofs.lemmas.List.{append_cancel_left}
use Rattle.serde_json.specs.View.{members_view}
use Rattle.serde_json.specs.Written.{members_have_float, members_text}
use Rattle.json_obj.specs.Members.{Grows, WritesText, Opens, left_of}
use Rattle.json_obj.proofs.ObjectTexts.{metadata_text}
use Rattle.json_obj.proofs.Puts.{Grows-again}
use Rattle.json_obj.proofs.text.write_metadata.Goals as goal

pub returns : goal.returns
returns c =
    let f0 = string_bytes c.args.front.now in
    let f1 = string_bytes c.push_str.new.self in
    let f2 = string_bytes c.write_text.new.out in
    let f3 = string_bytes c.open.new.out in
    let f4 = string_bytes c.push_str-2.new.self in
    let m0 = left_of c.of-unwritten.result in
    let m1 = left_of c.write_text.new.self in
    let m2 = left_of c.open.new.self in
    let all : m0 ≡ members_view c.args.metadata.now.entries = c.of-unwritten.ensures.left in
    let begun : f1 ≡ f0 ++ 123 ∷ [] = search rules in
    let quote : f4 ≡ f3 ++ 34 ∷ [] = search rules in
    let grew : Grows f0 f4 = Grows-again f0 f1 f4 (123 ∷ [], begun) (Grows-again f1 f2 f4 c.in_ok-write_text.ensures.grows (Grows-again f2 f3 f4 c.in_ok-open.ensures.grows (34 ∷ [], quote))) in
    let back : string_bytes c.push_str-3.new.self ≡ string_bytes c.args.back.now ++ 34 ∷ [] = search rules in
    let more = c.in_ok-close.ensures.grows in
    let plain1 : members_have_float (members_view c.args.metadata.now.entries) ≡ false → members_have_float m1 ≡ false = λ e. c.in_ok-write_text.ensures.plain (rw all e) in
    let plain2 : members_have_float (members_view c.args.metadata.now.entries) ≡ false → members_have_float m2 ≡ false = λ e. c.in_ok-open.ensures.plain (plain1 e) in
    let first : members_have_float (members_view c.args.metadata.now.entries) ≡ false → WritesText (codes "namespace") c.args.ns.now f1 false (members_view c.args.metadata.now.entries) f2 m1 =
    λ e. rw (c.of-unwritten.ensures.later, all) at (c.in_ok-write_text.ensures.text (rw all e)) in
    let second : members_have_float (members_view c.args.metadata.now.entries) ≡ false → Opens (codes "resourceVersion") f2 true m1 f3 m2 =
    λ e. rw c.in_ok-write_text.ensures.later at (c.in_ok-open.ensures.text (plain1 e)) in
    let closed : members_have_float (members_view c.args.metadata.now.entries) ≡ false → string_bytes c.close.new.out ≡ string_bytes c.push_str-3.new.self ++ members_text true m2 =
    λ e. rw c.in_ok-open.ensures.later at (c.in_ok-close.ensures.text (plain2 e)) in
    record {
      opening = grew.0;
      closing = 34 ∷ more.0;
      in_front = grew.1;
      in_back = more.1 ∙ rw back (append_assoc (string_bytes c.args.back.now) (34 ∷ []) more.0);
      text = λ e revision. metadata_text f0 f1 f2 f3 f4 grew.0 (34 ∷ more.0) c.args.ns.now (members_view c.args.metadata.now.entries) m1 m2 revision begun (first e) (second e) quote grew.1
          (ap (λ x. 34 ∷ x) (append_cancel_left (string_bytes c.push_str-3.new.self) _ _ (sym more.1 ∙ closed e)));
    }
