use Rattle.std.proofs.Common.{◌≡◌, [], ◌∷◌, ◌++◌, OnOk, string_bytes, ap, sym, ◌∙◌, rules, true, false, refl}
use Rattle.std.proofs.lemmas.Result.{on_ok_weaker}
use Rattle.serde_json.specs.Data.{no_members, member}
use Rattle.serde_json.specs.View.{view, members_view}
use Rattle.serde_json.specs.Written.{has_float, members_have_float, comma_if, compact_text, members_text}
use Rattle.json.specs.Print.{quoted}
use Rattle.json_obj.specs.Members.{Grows, left_of, members_from}
use Rattle.json_obj.proofs.Puts.{Grows-again, member_text, or-false, members_from-next}
use Rattle.json_obj.proofs.members.Unwritten.close.Goals as goal

pub returns-clause-text : goal.returns-clause-text
returns-clause-text c =
    let none : left_of c.members.self ≡ no_members = rw c.in_default.is refl in
    let same : members_have_float (left_of c.args.self) ≡ false → string_bytes c.args.out.now ++ members_text c.args.self.later (left_of c.args.self) ≡ string_bytes c.members.out ++ 125 ∷ [] =
    λ e. rw none at (c.members.invariant.same e) in
    let wrote : OnOk c.push_str.result (string_bytes c.push_str.new.self ≡ string_bytes c.members.out ++ 125 ∷ []) = search rules in
    on_ok_weaker c.push_str.result (λ w e. w ∙ sym (same e)) wrote

pub members-preserved : goal.members-preserved
members-preserved c =
    let l = c.members.self in
    let k = string_bytes c.in-Some.key.now in
    let v = view c.in-Some.value.now in
    let first : left_of l ≡ member k v (members_view l.rest) = search rules in
    let next : members_from c.next-self.result c.next-self.new.self ≡ members_view l.rest = members_from-next c.next-self.result l.rest c.next-self.new.self c.next-self.ensures.steps in
    let both : (e : members_have_float (left_of c.args.self) ≡ false) → (has_float v ≡ false) × (members_have_float (members_view l.rest) ≡ false) =
    λ e. or-false _ _ (rw first at (c.members.invariant.plain e)) in
    let grew : Grows (string_bytes c.members.out) (string_bytes c.push_member.new.out) = search rules in
    let wrote : has_float v ≡ false → string_bytes c.push_member.new.out ≡ string_bytes c.members.out ++ (comma_if l.later ++ (quoted k ++ 58 ∷ compact_text v)) = search rules in
    let left = members_from c.next-self.result c.next-self.new.self in
    let placed : left_of l ≡ member k v left = rw next first in
    record {
      grows = Grows-again _ _ _ c.members.invariant.grows grew;
      plain = λ e. rw next ((both e).1);
      same = λ e. c.members.invariant.same e
          ∙ ap (λ ms. string_bytes c.members.out ++ members_text l.later ms) placed
          ∙ member_text (string_bytes c.members.out) (comma_if l.later) (quoted k) (compact_text v) _
          ∙ ap (λ out. out ++ members_text true left) (sym (wrote ((both e).0)));
    }
