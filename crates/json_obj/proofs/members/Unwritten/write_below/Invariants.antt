use Rattle.std.proofs.Common.{◌≡◌, ◌+◌, List, ◌++◌, length, false, string_bytes}
use Rattle.std.specs.Prelude.{option_to_list}
use Rattle.serde_json.specs.Data.{Data, put}
use Rattle.serde_json.specs.Written.{members_have_float, members_text}
use Rattle.json_obj.specs.Members.{Grows, Put, puts, IsBefore, left_of}
use Rattle.json_obj.proofs.members.Unwritten.write_below.Given as goal

-- the text with the members that are left is what it was at the start
abbrev pub invariant-members : goal.invariant-members
invariant-members l = record {
  grows : Grows (string_bytes l.initial.out) (string_bytes l.out);
  plain : members_have_float (left_of l.initial.self) ≡ false → members_have_float (left_of l.self) ≡ false;
  same : members_have_float (left_of l.initial.self) ≡ false → (d : Data) (gs : List Put) → IsBefore l.name gs
      → string_bytes l.initial.out ++ members_text l.initial.self.later (put l.name d (puts gs (left_of l.initial.self)))
      ≡ string_bytes l.out ++ members_text l.self.later (put l.name d (puts gs (left_of l.self)));
}

abbrev pub decreases-members : goal.decreases-members
decreases-members l = length (option_to_list l.self.head) + length l.self.rest
