-- What lies in a value nests no deeper than it does.
use Rattle.std.proofs.Common.{◌≡◌, ℕ, suc, zero, ◌<◌, ◌≤◌, List, [], ◌∷◌, Option, Some, None, option_and_then, length, get_or, refl, arith, subst, Ordering, Less, Equal, Greater}
use Rattle.std.specs.Prelude.{codes}
use Rattle.std.specs.Ordering.{nat_cmp, match_ordering}
use Rattle.std.specs.Option.{option_map_or}
use Rattle.std.specs.Cmp.Lexicographic.{slice_cmp}
use Rattle.serde_json.specs.Data.{Data, null, boolean, number, string, array, object, Items, Members, no_members, member, depth, items_depth, members_depth}
use Rattle.serde_json.specs.Find.{get, get_member, as_array}
use Rattle.serde_json.specs.View.{view, items_view}
use Rattle.serde_json.specs.declared.value.Value.{Value}
use Rattle.watch_record.specs.Revisions.{changes_array}

either : (o : Ordering) (rest : Option Data) (d m : Data) (n : ℕ) → (rest ≡ Some m → depth m ≤ n) → depth d ≤ n → match_ordering o rest (Some d) rest ≡ Some m → depth m ≤ n
either Less rest d m n later here e = later e
either Equal rest d m n later here e = subst (λ o. option_map_or (λ x. depth x) o 0 ≤ n) e here
either Greater rest d m n later here e = later e

depth-get_member : (name : List ℕ) (ms : Members) (m : Data) → get_member name ms ≡ Some m → depth m ≤ members_depth ms
depth-get_member name no_members m e = absurd cc
depth-get_member name (member l d ms) m e =
    either (slice_cmp nat_cmp name l) (get_member name ms) d m (members_depth (member l d ms))
    (λ later. let below = depth-get_member name ms m later in omega arith) (omega arith) e

pub depth-get : (name : List ℕ) (d m : Data) → get name d ≡ Some m → depth m ≤ depth d
depth-get name null m e = absurd cc
depth-get name (boolean b) m e = absurd cc
depth-get name (number n) m e = absurd cc
depth-get name (string s) m e = absurd cc
depth-get name (array ds) m e = absurd cc
depth-get name (object ms) m e = let below = depth-get_member name ms m e in omega arith

depth-as_array : (d : Data) (ds : Items) → as_array d ≡ Some ds → items_depth ds ≤ depth d
depth-as_array null ds e = absurd cc
depth-as_array (boolean b) ds e = absurd cc
depth-as_array (number n) ds e = absurd cc
depth-as_array (string s) ds e = absurd cc
depth-as_array (object ms) ds e = absurd cc
depth-as_array (array es) ds e = subst (λ o. option_map_or items_depth o 0 ≤ suc (items_depth es)) e (omega arith)

pub depth-changes : (d : Data) (ds : Items) → changes_array d ≡ Some ds → items_depth ds ≤ depth d
depth-changes d ds e = within (get (codes "changes") d) (λ m at. depth-get (codes "changes") d m at) e
  where
    within : (found : Option Data) → ((m : Data) → found ≡ Some m → depth m ≤ depth d) → option_and_then as_array found ≡ Some ds → items_depth ds ≤ depth d
    within None each is = absurd cc
    within (Some m) each is = let first = each m refl in let second = depth-as_array m ds is in omega arith

pub depth-item : (vs : List Value) (i : ℕ) (v : Value) → i < length vs → depth (view (get_or vs i v)) ≤ items_depth (items_view vs)
depth-item [] i v within = absurd (omega arith)
depth-item (x ∷ vs) zero v within = omega arith
depth-item (x ∷ vs) (suc i) v within = let later = depth-item vs i v (omega arith) in omega arith
