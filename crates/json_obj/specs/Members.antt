-- Members that are put among those of an object, and the text that is written up to one of them.
use Rattle.std.specs.Prelude.{◌≡◌, ℕ, List, [], ◌∷◌, ◌++◌, Bool, true, Option, Some, None, String, string_bytes, ⊤}
use Rattle.std.specs.Ordering.{nat_cmp}
use Rattle.std.specs.declared.cmp.Ordering.TheVariants.{Less}
use Rattle.std.specs.Cmp.Lexicographic.{slice_cmp}
use Rattle.std.specs.Borrow.{Bor}
use Rattle.std.specs.declared.alloc.Global.{Global}
use Rattle.serde_json.specs.Data.{Data, string, Members, no_members, member, put}
use Rattle.serde_json.specs.View.{view, members_view}
use Rattle.serde_json.specs.Written.{compact_text, members_text}
use Rattle.serde_json.specs.declared.value.Value.{Value}
use Rattle.json_obj.specs.declared.members.Unwritten.{Unwritten}

-- a name and the value that is put at it
abbrev pub Put : Type 0
Put = List ℕ × Data

-- the members with each of these put
abbrev pub puts : List Put → Members → Members
puts [] ms = ms
puts (g ∷ gs) ms = put g.0 g.1 (puts gs ms)

-- the name stands before that of each put
abbrev pub IsBefore : List ℕ → List Put → Type 0
IsBefore name [] = ⊤
IsBefore name (g ∷ gs) = (slice_cmp nat_cmp name g.0 ≡ Less) × IsBefore name gs

-- the members from the first one on, if there is one
abbrev pub members_from : Option (Bor (String Global) × Bor Value) → List (String Global × Value) → Members
members_from None rest = no_members
members_from (Some head) rest = member (string_bytes head.0.now) (view head.1.now) (members_view rest)

-- the members that are still to be written
abbrev pub left_of : Unwritten → Members
left_of u = members_from u.head u.rest

-- the text has grown at its end, or is as it was
abbrev pub Grows : List ℕ → List ℕ → Type 0
Grows old new = (more : List ℕ) × (new ≡ old ++ more)

-- Whatever is put at the name, and at names after it: what was written ends as the text so far did, and the value at the name comes next.
abbrev pub WritesBelow : List ℕ → List ℕ → Unwritten → List ℕ → Unwritten → Type 0
WritesBelow name text old text' new =
    (d : Data) (gs : List Put) → IsBefore name gs
    → text ++ members_text old.later (put name d (puts gs (left_of old))) ≡ text' ++ members_text new.later (member name d (puts gs (left_of new)))

-- Whatever is put at the name, and at names after it: the text of the members is what was written, the value, and the text of what is left.
abbrev pub Opens : List ℕ → List ℕ → Bool → Members → List ℕ → Members → Type 0
Opens name text later ms text' left =
    (d : Data) (gs : List Put) → IsBefore name gs
    → text ++ members_text later (put name d (puts gs ms)) ≡ text' ++ (compact_text d ++ members_text true (puts gs left))

-- Whatever is put at names after this one: the text of the members with this text put at the name is what was written, and the text of what is left.
abbrev pub WritesText : List ℕ → List ℕ → List ℕ → Bool → Members → List ℕ → Members → Type 0
WritesText name value text later ms text' left =
    (gs : List Put) → IsBefore name gs
    → text ++ members_text later (put name (string value) (puts gs ms)) ≡ text' ++ members_text true (puts gs left)
