-- A revision's line, as it is written, is read as that revision.
use Rattle.std.proofs.Common.{◌≡◌, ℕ, ◌<◌, ◌≤◌, ◌^◌, Bool, true, false, List, [], ◌∷◌, ◌++◌, Option, Some, None, option_and_then, length, map, All, decimal, Ok, refl, sym, ap, ◌∙◌, subst, arith, append_assoc}
use Rattle.std.specs.Prelude.{codes, ◌||◌, if◌then◌else◌, is_some, is_none, nat_le}
use Rattle.std.specs.Option.{option_map_or}
use Rattle.std.proofs.lemmas.Bool.{and_from, le-leb, ltb-false}
use Rattle.std.proofs.lemmas.Slice.Eq.{bytes_eq-Decides}
use Rattle.std.proofs.lemmas.List.{append_cancel_left}
use Rattle.std.proofs.lemmas.List.Elements.{All-tail}
use Rattle.json.specs.Print.{quoted, escape, escape_byte}
use Rattle.serde_json.specs.Data.{Data, null, number, string, array, object, unsigned, Items, no_items, item, no_members, member, depth, items_depth}
use Rattle.serde_json.specs.Find.{as_null}
use Rattle.serde_json.specs.Read.{read}
use Rattle.serde_json.specs.Written.{has_float, items_have_float, compact_text}
use Rattle.serde_json.specs.Written as serde
use Rattle.kube_meta.specs.Keys.{joined, namespace_of, name_of, is_key, IsKey}
use Rattle.kube_meta.specs.Resources.{plural_of}
use Rattle.kube_meta.specs.Revisions.{revision_of}
use Rattle.kube_meta.specs.declared.objects.Obj.{Obj}
use Rattle.kube_meta.specs.declared.resources.Resource.{Resource}
use Rattle.kube_meta.specs.declared.resources.Resource.TheVariants.{Pods, ConfigMaps, Deployments}
use Rattle.kube_meta.proofs.KeyLemmas.{tested}
use Rattle.kube_meta.proofs.RevisionLemmas.{are_read_back}
use Rattle.json_obj.specs.Objects.{refusal, IsObjectOf, metadata_of, name_in, max_nesting}
use Rattle.json_obj.specs.Orderly.{IsOrderly, AreOrderlyItems}
use Rattle.json_obj.specs.Replies.{items_text, later_items}
use Rattle.json_obj.proofs.AsShown.{allowed_by, none_by, as_shown, allowed-shown, orderly-as_shown, is_object-shown}
use Rattle.json_obj.proofs.PieceTexts.{quoted_then}
use Rattle.json_obj.proofs.ReadBack.{read-compact_text}
use Rattle.rev_log.specs.Changes.{ChangeData, HasItsKey}
use Rattle.watch_record.specs.Laws.{IsStoredFor, LinesAreReadBack}
use Rattle.watch_record.specs.Revisions.{resource_member, change_text, line_front, recorded_line, text_of_change, Told, is_change, told_in, all_told, told_changes, text_of_told, is_line_of, IsChangeOf, AreChangesOf}
use Rattle.watch_record.proofs.KeyTexts.{key-plain}
use Rattle.watch_record.proofs.ReadLemmas.{same-length, revision-in-order}

-- ---- a change's value, and its text

abbrev value_of : Told → Data
value_of told =
    object (member (codes "key") (string told.key) (member (codes "object") told.object (member (codes "resource") (string (plural_of told.resource)) no_members)))

plural-quoted : (resource : Resource) → quoted (plural_of resource) ≡ 34 ∷ (plural_of resource ++ 34 ∷ [])
unfolding escape_byte
plural-quoted Pods = refl
plural-quoted ConfigMaps = refl
plural-quoted Deployments = refl

value-text : (told : Told) → compact_text (value_of told)
    ≡ codes "{\"key\":" ++ (quoted told.key ++ (codes ",\"object\":" ++ (compact_text told.object ++ (codes ",\"resource\":" ++ (quoted (plural_of told.resource) ++ codes "}")))))
unfolding escape_byte
value-text told = refl

change-text : (told : Told) → escape told.key ≡ told.key → compact_text (value_of told) ≡ text_of_told told
change-text told plain =
    let tail = codes ",\"resource\":" ++ (quoted (plural_of told.resource) ++ codes "}") in
    let resource : tail ≡ resource_member told.resource =
    ap (λ q. codes ",\"resource\":" ++ (q ++ codes "}")) (plural-quoted told.resource)
    ∙ ap (λ l. codes ",\"resource\":\"" ++ l) (append_assoc (plural_of told.resource) (34 ∷ []) (codes "}")) in
    value-text told
    ∙ ap (λ l. codes "{\"key\":" ++ l) (quoted_then told.key (codes ",\"object\":" ++ (compact_text told.object ++ tail)) plain)
    ∙ ap (λ l. codes "{\"key\":\"" ++ (told.key ++ (codes "\",\"object\":" ++ (compact_text told.object ++ l)))) resource
    ∙ ap (λ l. codes "{\"key\":\"" ++ l) (sym (append_assoc told.key (codes "\",\"object\":") (compact_text told.object ++ resource_member told.resource)))

value-told : (key : List ℕ) (d : Data) (resource : Resource) → is_change (record { key = key; object = d; resource = resource }) ≡ true
    → told_in (value_of (record { key = key; object = d; resource = resource })) ≡ Some (record { key = key; object = d; resource = resource })
value-told key d Pods is = ap (λ b. if b then Some (record { key = key; object = d; resource = Pods }) else None) is
value-told key d ConfigMaps is = ap (λ b. if b then Some (record { key = key; object = d; resource = ConfigMaps }) else None) is
value-told key d Deployments is = ap (λ b. if b then Some (record { key = key; object = d; resource = Deployments }) else None) is

-- ---- what is told of a change

record ToldOf (change : ChangeData) : Type 0 where
  told : Told
  change_is : IsChangeOf change.rev told change
  fine : is_change told ≡ true
  text : text_of_told told ≡ text_of_change change
  plain_key : escape told.key ≡ told.key
  orderly : IsOrderly told.object
  plain : has_float told.object ≡ false
  shallow : depth told.object ≤ 64

key-tested : (key : List ℕ) → IsKey key → is_key key ≡ true
key-tested key form = (tested key).1 form

same-name : (key name : List ℕ) → IsKey key → key ≡ joined (namespace_of key) name → name ≡ name_of key
same-name key name form is =
    let both : joined (namespace_of key) name ≡ joined (namespace_of key) (name_of key) = sym is ∙ form.parted in
    let tails : 47 ∷ name ≡ 47 ∷ name_of key = append_cancel_left (namespace_of key) (47 ∷ name) (47 ∷ name_of key) both in
    cc

or-right : (a b : Bool) → b ≡ true → (a || b) ≡ true
or-right true b is = refl
or-right false b is = is

told-of : (rev : ℕ) (resource : Resource) (key : List ℕ) (new : Option Obj) → rev ≤ 2 ^ 62
    → HasItsKey (record { rev = rev; resource = resource; key = key; new = new }) → IsStoredFor (record { rev = rev; resource = resource; key = key; new = new })
    → ToldOf (record { rev = rev; resource = resource; key = key; new = new })
told-of rev resource key None within keyed stored = record {
  told = record { key = key; object = null; resource = resource };
  change_is = record { rev_is = refl; resource_is = refl; key_is = refl; new = refl };
  fine = and_from _ _ (key-tested key stored.key) refl;
  text = refl;
  plain_key = key-plain key stored.key;
  orderly = tt;
  plain = refl;
  shallow = omega arith;
}
told-of rev resource key (Some obj) within keyed stored = by_value stored.stored
  where
    by_value : ((path : Option (List ℕ)) × (d : Data) × IsOrderly d × (refusal resource (namespace_of key) path d ≡ None) × IsObjectOf resource (namespace_of key) d obj)
        → ToldOf (record { rev = rev; resource = resource; key = key; new = Some obj })
    by_value (path, d, orderly, none, is) =
        let ns = namespace_of key in
        let back : revision_of (decimal rev) ≡ Ok rev = are_read_back.0 rev within in
        let allowed = allowed_by resource ns path d none in
        let shown = as_shown resource ns rev d in
        let again = allowed-shown resource ns path d rev back allowed in
        let name : name_in (metadata_of d) ≡ name_of key = same-name key (name_in (metadata_of d)) stored.key (sym keyed ∙ is.key) in
        let unrefused : refusal resource ns (Some (name_of key)) shown ≡ None =
        subst (λ n. refusal resource ns (Some n) shown ≡ None) name (none_by resource ns (Some (name_in (metadata_of d))) shown again) in
        record {
          told = record { key = key; object = shown; resource = resource };
          change_is = record { rev_is = refl; resource_is = refl; key_is = refl; new = is_object-shown resource ns d obj rev allowed.plain is };
          fine = and_from _ _ (key-tested key stored.key) (or-right (is_some (as_null shown)) (is_none (refusal resource ns (Some (name_of key)) shown)) (ap is_none unrefused));
          text = ap (λ l. change_text key l resource) (sym (is.text allowed.plain rev));
          plain_key = key-plain key stored.key;
          orderly = orderly-as_shown resource ns d rev orderly;
          plain = again.plain;
          shallow = ltb-false max_nesting (depth shown) again.shallow;
        }

-- ---- all changes of a revision

abbrev values_of : List Told → Items
values_of [] = no_items
values_of (t ∷ more) = item (value_of t) (values_of more)

record AllTold (rev : ℕ) (changes : List ChangeData) : Type 0 where
  told : List Told
  are : AreChangesOf rev told changes
  found : all_told (values_of told) ≡ Some told
  texts : map text_of_told told ≡ map text_of_change changes
  first : serde.items_text false (values_of told) ≡ items_text (map text_of_told told) ++ 93 ∷ []
  later : serde.items_text true (values_of told) ≡ later_items (map text_of_told told) ++ 93 ∷ []
  orderly : AreOrderlyItems (values_of told)
  plain : items_have_float (values_of told) ≡ false
  shallow : items_depth (values_of told) ≤ 65

all-told : (rev : ℕ) (changes : List ChangeData) → rev ≤ 2 ^ 62 → All (λ change. change.rev ≡ rev) changes → All HasItsKey changes → All IsStoredFor changes → AllTold rev changes
all-told rev [] within numbered keyed stored = record { told = []; are = tt; found = refl; texts = refl; first = refl; later = refl; orderly = tt; plain = refl; shallow = omega arith }
all-told rev (c ∷ changes) within numbered keyed stored =
    let here : c.rev ≡ rev = numbered 0 c (omega arith) in
    let one : ToldOf c = told-of c.rev c.resource c.key c.new (subst (λ n. n ≤ 2 ^ 62) (sym here) within) (keyed 0 c (omega arith)) (stored 0 c (omega arith)) in
    let more : AllTold rev changes =
    all-told rev changes within (All-tail (λ change. change.rev ≡ rev) c changes numbered) (All-tail HasItsKey c changes keyed) (All-tail IsStoredFor c changes stored) in
    let text : compact_text (value_of one.told) ≡ text_of_told one.told = change-text one.told one.plain_key in
    let rest : compact_text (value_of one.told) ++ serde.items_text true (values_of more.told) ≡ (text_of_told one.told ++ later_items (map text_of_told more.told)) ++ 93 ∷ [] =
    ap (λ l. l ++ serde.items_text true (values_of more.told)) text ∙ ap (λ l. text_of_told one.told ++ l) more.later
    ∙ sym (append_assoc (text_of_told one.told) (later_items (map text_of_told more.told)) (93 ∷ [])) in
    record {
      told = one.told ∷ more.told;
      are = (subst (λ n. IsChangeOf n one.told c) here one.change_is, more.are);
      found = rw (value-told one.told.key one.told.object one.told.resource one.fine, more.found) refl;
      texts = rw (one.text, more.texts) refl;
      first = rest;
      later = ap (λ l. 44 ∷ l) rest;
      orderly = ((tt, refl, (one.orderly, refl, (tt, tt, tt))), more.orderly);
      plain = rw (one.plain, more.plain) refl;
      shallow = omega (arith, one.shallow, more.shallow);
    }

-- ---- the line

abbrev line_value : Items → ℕ → Data
line_value values rev = object (member (codes "changes") (array values) (member (codes "rev") (number (unsigned rev)) no_members))

line-shape : (values : Items) (rev : ℕ) → compact_text (line_value values rev) ≡ line_front ++ (serde.items_text false values ++ (codes ",\"rev\":" ++ (decimal rev ++ codes "}")))
unfolding escape_byte
line-shape values rev = refl

line-text : (rev : ℕ) (changes : List ChangeData) (all : AllTold rev changes) → compact_text (line_value (values_of all.told) rev) ≡ recorded_line (map text_of_change changes) rev
line-text rev changes all =
    line-shape (values_of all.told) rev
    ∙ ap (λ l. line_front ++ (l ++ (codes ",\"rev\":" ++ (decimal rev ++ codes "}")))) all.first
    ∙ ap (λ l. line_front ++ l) (append_assoc (items_text (map text_of_told all.told)) (93 ∷ []) (codes ",\"rev\":" ++ (decimal rev ++ codes "}")))
    ∙ ap (λ texts. recorded_line texts rev) all.texts

line-found : (rev : ℕ) (changes : List ChangeData) (all : AllTold rev changes) → rev ≤ 2 ^ 62
    → option_and_then told_changes (read (recorded_line (map text_of_change changes) rev)) ≡ Some all.told
line-found rev changes all within =
    let value = line_value (values_of all.told) rev in
    let plain : has_float value ≡ false = rw all.plain refl in
    let small : rev < 2 ^ 64 = omega arith in
    let is : read (compact_text value) ≡ Some value =
    read-compact_text value (all.orderly, refl, (small, tt, tt)) plain (omega (arith, all.shallow)) in
    ap (λ l. option_and_then told_changes (read l)) (sym (line-text rev changes all)) ∙ ap (option_and_then told_changes) is ∙ all.found

pub lines-read-back : LinesAreReadBack
lines-read-back revision accepted =
    let rev = revision.rev in
    let changes = revision.changes in
    let form = accepted.form in
    let all : AllTold rev changes = all-told rev changes accepted.within form.numbered form.keyed accepted.stored in
    let line : List ℕ = recorded_line (map text_of_change changes) rev in
    let found : option_and_then told_changes (read line) ≡ Some all.told = line-found rev changes all accepted.within in
    let size : length changes ≡ length all.told = same-length rev all.told changes all.are in
    let same : recorded_line (map text_of_told all.told) rev ≡ line = ap (λ texts. recorded_line texts rev) all.texts in
    let some : nat_le 1 (length all.told) ≡ true = le-leb 1 (length all.told) (omega (arith, accepted.some_changes, size)) in
    let test : is_line_of rev line all.told ≡ true =
    and_from _ _ (and_from _ _ some (and_from _ _ (le-leb rev (2 ^ 62) accepted.within) ((bytes_eq-Decides (recorded_line (map text_of_told all.told) rev) line).1 same)))
    (revision-in-order rev all.told changes all.are form) in
    (ap (λ t. option_map_or (is_line_of rev line) t false) found ∙ test, record { told = all.told; read_is = found; rev_is = refl; changes = all.are })
