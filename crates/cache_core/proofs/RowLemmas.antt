-- What the events of a revision make of the rows.
use Rattle.std.proofs.Common.{◌≡◌, ℕ, true, cond, List, [], ◌∷◌, fold, map, Option, Some, None, IsTrue, refl, sym, ap, ◌∙◌, inl, inr, subst, bytes_eq}
use Rattle.std.specs.declared.sync.Arc.{Arc}
use Rattle.std.specs.Prelude.{All, option_map, IfSome, if◌then◌else◌}
use Rattle.std.proofs.lemmas.Bool.{cases_Bool}
use Rattle.std.proofs.lemmas.List.Elements.{All-head, All-tail}
use Rattle.std.proofs.lemmas.Slice.Eq.{bytes_eq-Decides}
use Rattle.kube_meta.specs.declared.objects.Obj.{Obj}
use Rattle.kube_meta.specs.declared.resources.Resource.{Resource}
use Rattle.kube_meta.specs.Resources.{same_resource}
use Rattle.kube_meta.specs.Rows.{RowData, AreRising, key_of, row_with}
use Rattle.rev_log.specs.Changes.{ChangeData, HasItsKey}
use Rattle.rev_log.specs.States.{row_after}
use Rattle.obj_tree.proofs.MapLemmas.{put_is_update, removal_is_update, put_stays_rising, removal_stays_rising}
use Rattle.event_ring.specs.Events.{EventRows}
use Rattle.cache_core.specs.Steps.{change_event, row_written, with_event, with_events}

-- the row that is found has the key
pub found_keyed : (rows : List RowData) (key : List ℕ) → IfSome (row_with rows key) (λ row. key_of row ≡ key)
found_keyed [] key = tt
found_keyed (r ∷ rows) key = elim (cases_Bool (bytes_eq key (key_of r))) [
  | inl here ↦ rw here (sym ((bytes_eq-Decides key (key_of r)).0 here))
  | inr elsewhere ↦ rw elsewhere (found_keyed rows key)
]

pub keyed_before : {Z : Type 0} (before : Option (Arc RowData Z)) (rows : List RowData) (key : List ℕ) → option_map (λ s. s.value) before ≡ row_with rows key → IfSome before (λ s. key_of s.value ≡ key)
keyed_before None rows key is = tt
keyed_before (Some s) rows key is = let P : Option RowData → Type 0 = λ o. IfSome o (λ row. key_of row ≡ key) in subst P (sym is) (found_keyed rows key)

-- the two orders of a comparison
pub turned_eq : (a b : List ℕ) → bytes_eq a b ≡ bytes_eq b a
turned_eq a b = elim (cases_Bool (bytes_eq a b)) [
  | inl same ↦ let e : a ≡ b = (bytes_eq-Decides a b).0 same in ap (λ x. bytes_eq x b) e ∙ ap (λ x. bytes_eq b x) (sym e)
  | inr differ ↦ elim (cases_Bool (bytes_eq b a)) [
    | inl same ↦ let e : b ≡ a = (bytes_eq-Decides b a).0 same in ap (λ x. bytes_eq x b) (sym e) ∙ ap (λ x. bytes_eq b x) e
    | inr also ↦ differ ∙ sym also
  ]
]

-- what is written at a key stands there, and nothing else changes
pub written : (rows : List RowData) (at : List ℕ) (new : Option RowData) (key : List ℕ) → IfSome new (λ row. key_of row ≡ at) →
    row_with (row_written rows at new) key ≡ (if bytes_eq at key then new else row_with rows key)
written rows at None key keyed = removal_is_update rows at key ∙ ap (λ b. cond b None (row_with rows key)) (turned_eq key at)
written rows at (Some row) key keyed =
    put_is_update rows row key ∙ ap (λ k. cond (bytes_eq key k) (Some row) (row_with rows key)) keyed ∙ ap (λ b. cond b (Some row) (row_with rows key)) (turned_eq key at)

pub written_rising : (rows : List RowData) (at : List ℕ) (new : Option RowData) → AreRising rows → AreRising (row_written rows at new)
written_rising rows at None rising = removal_stays_rising rows at rising
written_rising rows at (Some row) rising = put_stays_rising rows row rising

pub now_keyed : (rev : ℕ) (change : ChangeData) → HasItsKey change → IfSome (option_map (λ obj. record { obj = obj; rev = rev }) change.new) (λ (row : RowData). key_of row ≡ change.key)
now_keyed rev change keyed = by change.new keyed
  where
    by : (new : Option Obj) → IfSome new (λ obj. obj.key ≡ change.key) → IfSome (option_map (λ obj. record { obj = obj; rev = rev }) new) (λ (row : RowData). key_of row ≡ change.key)
    by None keyed = tt
    by (Some obj) keyed = keyed

-- the rows after the events of a revision's changes, key by key
pub after_events : (resource : Resource) (others rows : List RowData) (rev : ℕ) (changes : List ChangeData) (key : List ℕ) →
    All (λ change. IsTrue (same_resource change.resource resource)) changes → All HasItsKey changes →
    row_with (with_events rows (map (change_event others rev) changes)) key ≡ fold (row_after resource key rev) (row_with rows key) changes
after_events resource others rows rev [] key of keyed = refl
after_events resource others rows rev (c ∷ changes) key of keyed =
    let new : Option RowData = option_map (λ obj. record { obj = obj; rev = rev }) c.new in
    let here : same_resource c.resource resource ≡ true = All-head (λ change. IsTrue (same_resource change.resource resource)) c changes of in
    let one : row_with (with_event rows (change_event others rev c)) key ≡ row_after resource key rev (row_with rows key) c =
    written rows c.key new key (now_keyed rev c (All-head HasItsKey c changes keyed)) ∙ rw here refl in
    after_events resource others (with_event rows (change_event others rev c)) rev changes key
    (All-tail (λ change. IsTrue (same_resource change.resource resource)) c changes of) (All-tail HasItsKey c changes keyed)
    ∙ ap (λ (row : Option RowData). fold (row_after resource key rev) row changes) one

pub after_rising : (rows : List RowData) (events : List EventRows) → AreRising rows → AreRising (with_events rows events)
after_rising rows [] rising = rising
after_rising rows (e ∷ events) rising = after_rising (with_event rows e) events (written_rising rows e.key e.now rising)
