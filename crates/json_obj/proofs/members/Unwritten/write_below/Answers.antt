use Rattle.std.proofs.Common.{◌≡◌, ◌∷◌, ◌++◌, Less, Equal, Greater, string_bytes, ap, sym, ◌∙◌, rules, true, false}
use Rattle.serde_json.specs.Data.{member, put}
use Rattle.serde_json.specs.View.{view, members_view}
use Rattle.serde_json.specs.Written.{has_float, members_have_float, comma_if, compact_text, members_text}
use Rattle.json.specs.Print.{quoted}
use Rattle.json_obj.specs.Members.{Grows, puts, left_of, members_from}
use Rattle.json_obj.specs.Orderly.{IsBelow}
use Rattle.json_obj.proofs.Puts.{Grows-again, cmp, put-front, put-same, put-later, member_text, or-false, members_from-next}
use Rattle.json_obj.proofs.members.Unwritten.write_below.Goals as goal

pub returns-in_default-clause-text : goal.returns-in_default-clause-text
returns-in_default-clause-text c = λ plain d gs before.
    let l = c.members.self in
    let below : IsBelow c.args.name.now (left_of l) = rw c.in_default.is tt in
    c.members.invariant.same plain d gs before ∙ ap (λ ms. string_bytes c.members.out ++ members_text l.later ms) (put-front c.args.name.now d gs (left_of l) before below)

pub returns-in-Less-clause-text : goal.returns-in-Less-clause-text
returns-in-Less-clause-text c = λ plain d gs before.
    let l = c.members.self in
    let less : cmp c.args.name.now (string_bytes c.in-Some.key.now) ≡ Less = search rules in
    let first : left_of l ≡ member (string_bytes c.in-Some.key.now) (view c.in-Some.value.now) (members_view l.rest) = search rules in
    let below : IsBelow c.args.name.now (left_of l) = rw first less in
    c.members.invariant.same plain d gs before ∙ ap (λ ms. string_bytes c.members.out ++ members_text l.later ms) (put-front c.args.name.now d gs (left_of l) before below)

pub returns-in-Equal-clause-text : goal.returns-in-Equal-clause-text
returns-in-Equal-clause-text c = λ plain d gs before.
    let l = c.members.self in
    let same : cmp c.args.name.now (string_bytes c.in-Some.key.now) ≡ Equal = search rules in
    let first : left_of l ≡ member (string_bytes c.in-Some.key.now) (view c.in-Some.value.now) (members_view l.rest) = search rules in
    let next : members_from c.next-self.result c.next-self.new.self ≡ members_view l.rest = members_from-next c.next-self.result l.rest c.next-self.new.self c.next-self.ensures.steps in
    let placed : put c.args.name.now d (puts gs (left_of l)) ≡ member c.args.name.now d (puts gs (members_from c.next-self.result c.next-self.new.self)) =
    rw (first, next) (put-same c.args.name.now (string_bytes c.in-Some.key.now) d (view c.in-Some.value.now) gs (members_view l.rest) same before) in
    c.members.invariant.same plain d gs before ∙ ap (λ ms. string_bytes c.members.out ++ members_text l.later ms) placed

pub members-preserved : goal.members-preserved
members-preserved c =
    let l = c.members.self in
    let k = string_bytes c.in-Some.key.now in
    let v = view c.in-Some.value.now in
    let above : cmp c.args.name.now k ≡ Greater = search rules in
    let first : left_of l ≡ member k v (members_view l.rest) = search rules in
    let next : members_from c.next-self-in-Greater.result c.next-self-in-Greater.new.self ≡ members_view l.rest = members_from-next c.next-self-in-Greater.result l.rest c.next-self-in-Greater.new.self c.next-self-in-Greater.ensures.steps in
    let left = members_from c.next-self-in-Greater.result c.next-self-in-Greater.new.self in
    let both : (e : members_have_float (left_of c.args.self.now) ≡ false) → (has_float v ≡ false) × (members_have_float (members_view l.rest) ≡ false) =
    λ e. or-false _ _ (rw first at (c.members.invariant.plain e)) in
    let grew : Grows (string_bytes c.members.out) (string_bytes c.push_member.new.out) = search rules in
    let wrote : has_float v ≡ false → string_bytes c.push_member.new.out ≡ string_bytes c.members.out ++ (comma_if l.later ++ (quoted k ++ 58 ∷ compact_text v)) = search rules in
    record {
      grows = Grows-again _ _ _ c.members.invariant.grows grew;
      plain = λ e. rw next ((both e).1);
      same = λ e d gs before.
          let placed : put c.args.name.now d (puts gs (left_of l)) ≡ member k v (put c.args.name.now d (puts gs left)) =
          rw (first, next) (put-later c.args.name.now k d v gs (members_view l.rest) above before) in
          c.members.invariant.same e d gs before
          ∙ ap (λ ms. string_bytes c.members.out ++ members_text l.later ms) placed
          ∙ member_text (string_bytes c.members.out) (comma_if l.later) (quoted k) (compact_text v) _
          ∙ ap (λ out. out ++ members_text true (put c.args.name.now d (puts gs left))) (sym (wrote ((both e).0)));
    }
