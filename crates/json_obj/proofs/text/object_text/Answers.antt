use Rattle.std.proofs.Common.{◌≡◌, [], ◌∷◌, ◌++◌, length, take, drop, decimal, true, false, ◌∙◌, string_bytes, rules, arith, length-append}
use Rattle.std.specs.Prelude.{codes}
use Rattle.std.proofs.Math.Seq.{drop-append_seam, take-append_seam}
use Rattle.serde_json.specs.View.{members_view}
use Rattle.serde_json.specs.Written.{members_have_float, members_text}
use Rattle.kube_meta.specs.Resources.{api_version_of, kind_of}
use Rattle.json_obj.specs.Members.{WritesText, Opens, left_of}
use Rattle.json_obj.specs.Objects.{shown_metadata}
use Rattle.json_obj.proofs.ObjectTexts.{object_text}
use Rattle.json_obj.proofs.text.object_text.Goals as goal

pub returns : goal.returns
returns c =
    let f1 = string_bytes c.push_str.new.self in
    let f2 = string_bytes c.write_text.new.out in
    let f3 = string_bytes c.write_text-2.new.out in
    let before = string_bytes c.open.new.out in
    let front = string_bytes c.write_metadata.new.front in
    let within = string_bytes c.write_metadata.new.back in
    let back = string_bytes c.close.new.out in
    let ms = members_view c.args.members.now.entries in
    let meta = members_view c.args.metadata.now.entries in
    let m1 = left_of c.write_text.new.self in
    let m2 = left_of c.write_text-2.new.self in
    let m3 = left_of c.open.new.self in
    let all : left_of c.of-unwritten.result ≡ ms = c.of-unwritten.ensures.left in
    let begun : f1 ≡ 123 ∷ [] = rw c.in_ok-front.ensures.bytes at c.in_ok-push_str.ensures.bytes in
    let middle = c.in_ok-write_metadata.ensures in
    let more = c.in_ok-close.ensures.grows in
    let empty : string_bytes c.in_ok-back.back ≡ [] = c.in_ok-back.ensures.bytes in
    let closing : within ≡ middle.closing = rw empty at middle.in_back in
    let plain1 : members_have_float ms ≡ false → members_have_float m1 ≡ false = λ e. c.in_ok-write_text.ensures.plain (rw all e) in
    let plain2 : members_have_float ms ≡ false → members_have_float m2 ≡ false = λ e. c.in_ok-write_text-2.ensures.plain (plain1 e) in
    let plain3 : members_have_float ms ≡ false → members_have_float m3 ≡ false = λ e. c.in_ok-open.ensures.plain (plain2 e) in
    let first : members_have_float ms ≡ false → WritesText (codes "apiVersion") (api_version_of c.args.resource) f1 false ms f2 m1 =
    λ e. rw (c.of-unwritten.ensures.later, all, c.api_version.ensures) at (c.in_ok-write_text.ensures.text (rw all e)) in
    let second : members_have_float ms ≡ false → WritesText (codes "kind") (kind_of c.args.resource) f2 true m1 f3 m2 =
    λ e. rw (c.in_ok-write_text.ensures.later, c.kind.ensures) at (c.in_ok-write_text-2.ensures.text (plain1 e)) in
    let third : members_have_float ms ≡ false → Opens (codes "metadata") f3 true m2 before m3 =
    λ e. rw c.in_ok-write_text-2.ensures.later at (c.in_ok-open.ensures.text (plain2 e)) in
    let closed : members_have_float ms ≡ false → back ≡ within ++ members_text true m3 =
    λ e. rw c.in_ok-open.ensures.later at (c.in_ok-close.ensures.text (plain3 e)) in
    let from : c.len-meta_from.result ≡ length before = search rules in
    let to : c.len-meta_to.result ≡ length within = search rules in
    record {
      from_in_front = rw (from, middle.in_front) (omega (arith, length-append before middle.opening));
      to_in_back = rw (to, more.1) (omega (arith, length-append within more.0));
      text = λ e e' revision. object_text f1 f2 f3 before front middle.closing back middle.opening (api_version_of c.args.resource) (kind_of c.args.resource) (decimal revision) ms m1 m2 m3
          (shown_metadata c.args.ns.now revision meta) begun (first e) (second e) (third e) middle.in_front (rw (← closing) (closed e)) (middle.text e' revision);
      metadata = λ e revision.
          let in_front : drop c.len-meta_from.result front ≡ middle.opening = rw (from, middle.in_front) (drop-append_seam before middle.opening) in
          let in_back : take c.len-meta_to.result back ≡ middle.closing = rw (to, more.1) (take-append_seam within more.0 ∙ closing) in
          rw (in_front, in_back) (middle.text e revision);
    }
