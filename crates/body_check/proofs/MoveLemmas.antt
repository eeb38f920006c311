-- What one revision after another tells a selection.
use Rattle.std.proofs.Common.{◌≡◌, ℕ, ◌+◌, ◌<◌, List, [], ◌∷◌, ◌++◌, Option, Some, None, filter_map, length, take, get_or, refl, ap, sym, ◌∙◌, append-nil, append_assoc}
use Rattle.std.proofs.lemmas.List.{take_more}
use Rattle.std.proofs.lemmas.List.Elements.{filter_map-append}
use Rattle.std.specs.Prelude.{option_and_then}
use Rattle.std.specs.List.{cons_option}
use Rattle.std.specs.BTreeMap.{BTreeMap, get}
use Rattle.std.specs.Cmp.Lexicographic.{slice_cmp}
use Rattle.std.specs.Ordering.{nat_cmp}
use Rattle.kube_meta.specs.Rows.{RowData}
use Rattle.rev_log.specs.Changes.{ChangeData, RevisionData}
use Rattle.rev_log.specs.Rows.{Holds}
use Rattle.select_all.specs.declared.selection.Selection.{Selection}
use Rattle.select_all.specs.Selecting.{selects}
use Rattle.select_all.specs.Streams.{Standing, TransitionData, events_from, events_in, event_of, transition_by}
use Rattle.select_all.proofs.StreamLaws.{events_from-append}
use Rattle.body_check.specs.Moves.{standing, told_change}

-- one mapping after another
twice : {A B C : Type 0} (f : A → Option B) (g : B → Option C) (xs : List A) → filter_map g (filter_map f xs) ≡ filter_map (λ x. option_and_then g (f x)) xs
twice f g [] = refl
twice {A} {B} {C} f g (x ∷ xs) = one (f x) (twice f g xs)
  where
    one : (o : Option B) → filter_map g (filter_map f xs) ≡ filter_map (λ y. option_and_then g (f y)) xs →
        filter_map g (cons_option o (filter_map f xs)) ≡ cons_option (option_and_then g o) (filter_map (λ y. option_and_then g (f y)) xs)
    one None rest = rest
    one (Some y) rest = ap (cons_option (g y)) rest

-- what the revisions tell, where nothing stands at first
abbrev pub told_by : Selection → List RevisionData → List TransitionData
told_by s revisions = filter_map (transition_by (selects s)) (events_from s.resource (λ key. None) revisions)

-- one revision more
pub told_more : (s : Selection) (revisions : List RevisionData) (i : ℕ) (revision : RevisionData) (rows : BTreeMap (List ℕ) RowData) (old new : List TransitionData)
    → i < length revisions → revision ≡ get_or revisions i revision → Holds rows (standing s.resource (take i revisions)) → old ≡ told_by s (take i revisions)
    → new ≡ old ++ filter_map (told_change s (get (slice_cmp nat_cmp) rows) revision.rev) revision.changes → new ≡ told_by s (take (i + 1) revisions)
told_more s revisions i revision rows old new inside is holds so added =
    let stands : Standing = standing s.resource (take i revisions) in
    let before : List RevisionData = take i revisions in
    let nothing : Standing = λ key. None in
    let reads : get (slice_cmp nat_cmp) rows ≡ stands = λ j key. holds.reads key j in
    let here : events_from s.resource stands (revision ∷ []) ≡ events_in s.resource stands revision = append-nil (events_in s.resource stands revision) in
    let all : events_from s.resource nothing (take (i + 1) revisions) ≡ events_from s.resource nothing before ++ events_in s.resource stands revision =
    ap (events_from s.resource nothing) (take_more revisions i revision inside ∙ ap (λ (z : RevisionData). before ++ z ∷ []) (sym is))
    ∙ events_from-append s.resource nothing before (revision ∷ [])
    ∙ ap (λ l. events_from s.resource nothing before ++ l) here in
    added
    ∙ ap (λ ts. ts ++ filter_map (told_change s (get (slice_cmp nat_cmp) rows) revision.rev) revision.changes) so
    ∙ ap (λ (f : Standing). told_by s before ++ filter_map (told_change s f revision.rev) revision.changes) reads
    ∙ ap (λ ts. told_by s before ++ ts) (sym (twice (event_of s.resource stands revision.rev) (transition_by (selects s)) revision.changes))
    ∙ sym (filter_map-append (transition_by (selects s)) (events_from s.resource nothing before) (events_in s.resource stands revision))
    ∙ ap (filter_map (transition_by (selects s))) (sym all)

-- the same, of what is seen of the revision
pub told_seen : (s : Selection) (revisions : List RevisionData) (i : ℕ) (revision : RevisionData) (rows : BTreeMap (List ℕ) RowData) (rev : ℕ) (changes : List ChangeData) (old new : List TransitionData)
    → i < length revisions → revision ≡ get_or revisions i revision → Holds rows (standing s.resource (take i revisions)) → old ≡ told_by s (take i revisions)
    → record { rev = rev; changes = changes } ≡ revision
    → new ≡ old ++ filter_map (told_change s (get (slice_cmp nat_cmp) rows) rev) changes → new ≡ told_by s (take (i + 1) revisions)
told_seen s revisions i revision rows rev changes old new inside is holds so view added =
    told_more s revisions i revision rows old new inside is holds so
    (added ∙ ap (λ (z : RevisionData). old ++ filter_map (told_change s (get (slice_cmp nat_cmp) rows) z.rev) z.changes) view)

-- ---- one change after another

one-more : {X Y : Type 0} (h : X → Option Y) (xs : List X) (i : ℕ) (x : X) → i < length xs → x ≡ get_or xs i x → filter_map h (take (i + 1) xs) ≡ filter_map h (take i xs) ++ cons_option (h x) []
one-more h xs i x inside is =
    ap (filter_map h) (take_more xs i x inside ∙ ap (λ z. take i xs ++ z ∷ []) (sym is)) ∙ filter_map-append h (take i xs) (x ∷ [])

-- one that tells a transition
pub told_some : {X Y : Type 0} (h : X → Option Y) (xs : List X) (i : ℕ) (x : X) (y : Y) (before old new : List Y) → i < length xs → x ≡ get_or xs i x → h x ≡ Some y →
    old ≡ before ++ filter_map h (take i xs) → new ≡ old ++ y ∷ [] → new ≡ before ++ filter_map h (take (i + 1) xs)
told_some h xs i x y before old new inside is tells so added =
    added ∙ ap (λ ls. ls ++ y ∷ []) so ∙ append_assoc before (filter_map h (take i xs)) (y ∷ [])
    ∙ ap (λ ls. before ++ ls) (ap (λ o. filter_map h (take i xs) ++ cons_option o []) (sym tells) ∙ sym (one-more h xs i x inside is))

-- one that tells none
pub told_none : {X Y : Type 0} (h : X → Option Y) (xs : List X) (i : ℕ) (x : X) (before old : List Y) → i < length xs → x ≡ get_or xs i x → h x ≡ None →
    old ≡ before ++ filter_map h (take i xs) → old ≡ before ++ filter_map h (take (i + 1) xs)
told_none h xs i x before old inside is silent so =
    so ∙ ap (λ ls. before ++ ls) (sym (append-nil (filter_map h (take i xs))) ∙ ap (λ o. filter_map h (take i xs) ++ cons_option o []) (sym silent) ∙ sym (one-more h xs i x inside is))
