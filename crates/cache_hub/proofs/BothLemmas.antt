-- Lanes in two maps, of which one has an index.
use Rattle.std.proofs.Common.{◌≡◌, ◌==◌, ℕ, Bool, true, false, cond, eqb-true, List, [], ◌∷◌, ◌++◌, Option, Some, None, option_map, is_some, refl, sym, ap, ◌∙◌, subst}
use Rattle.std.specs.Prelude.{nat_eq}
use Rattle.kube_meta.specs.declared.resources.Resource.TheVariants.{Pods}
use Rattle.rev_log.specs.Logs.{Log}
use Rattle.event_ring.specs.Events.{EventRows}
use Rattle.cache_hub.specs.OpenLanes.{OpenLaneData, SetsLane, AreAlike, AreApart, AreChanged, AreTold, open_at, told_lane}
use Rattle.cache_hub.specs.Due.{AreReady}

abbrev Map : Type 0
Map = List (ℕ × OpenLaneData)

abbrev or_else : Option OpenLaneData → Option OpenLaneData → Option OpenLaneData
or_else None other = other
or_else (Some o) other = Some o

open_both : (p w : Map) (id : ℕ) → open_at (p ++ w) id ≡ or_else (open_at p id) (open_at w id)
open_both [] w id = refl
open_both (e ∷ p) w id = by (nat_eq id e.0) (open_both p w id)
  where
    by : (b : Bool) → open_at (p ++ w) id ≡ or_else (open_at p id) (open_at w id) → cond b (Some e.1) (open_at (p ++ w) id) ≡ or_else (cond b (Some e.1) (open_at p id)) (open_at w id)
    by true rest = refl
    by false rest = rest

pub none_of_both : (p w : Map) (id : ℕ) → open_at p id ≡ None → open_at w id ≡ None → open_at (p ++ w) id ≡ None
none_of_both p w id one two = open_both p w id ∙ ap (λ o. or_else o (open_at w id)) one ∙ two

pub found_in_placed : (p w : Map) (id : ℕ) (o : OpenLaneData) → open_at p id ≡ Some o → open_at (p ++ w) id ≡ Some o
found_in_placed p w id o here = open_both p w id ∙ ap (λ x. or_else x (open_at w id)) here

pub found_in_alike : (p w : Map) (id : ℕ) → open_at p id ≡ None → open_at (p ++ w) id ≡ open_at w id
found_in_alike p w id none = open_both p w id ∙ ap (λ x. or_else x (open_at w id)) none

-- ---- one lane is set

pub set_placed : (p w new : Map) (id : ℕ) (lane : OpenLaneData) → SetsLane p new id (Some lane) → SetsLane (p ++ w) (new ++ w) id (Some lane)
set_placed p w new id lane sets = λ other. open_both new w other ∙ ap (λ o. or_else o (open_at w other)) (sets other) ∙ by (id == other) other
  where
    by : (b : Bool) (other : ℕ) → or_else (cond b (Some lane) (open_at p other)) (open_at w other) ≡ cond b (Some lane) (open_at (p ++ w) other)
    by true other = refl
    by false other = sym (open_both p w other)

pub set_alike : (p w new : Map) (id : ℕ) (lane : Option OpenLaneData) → open_at p id ≡ None → SetsLane w new id lane → SetsLane (p ++ w) (p ++ new) id lane
set_alike p w new id lane free sets = λ other. open_both p new other ∙ ap (or_else (open_at p other)) (sets other) ∙ by (id == other) other refl
  where
    by : (b : Bool) (other : ℕ) → (id == other) ≡ b → or_else (open_at p other) (cond b lane (open_at w other)) ≡ cond b lane (open_at (p ++ w) other)
    by true other same = ap (λ o. or_else o lane) (subst (λ n. open_at p n ≡ None) (eqb-true id other same) free)
    by false other differs = sym (open_both p w other)

pub set_none : (p w p' w' : Map) (id : ℕ) → SetsLane p p' id None → SetsLane w w' id None → SetsLane (p ++ w) (p' ++ w') id None
set_none p w p' w' id one two = λ other.
    open_both p' w' other ∙ ap (λ o. or_else o (open_at w' other)) (one other) ∙ ap (or_else (cond (id == other) None (open_at p other))) (two other) ∙ by (id == other) other
  where
    by : (b : Bool) (other : ℕ) → or_else (cond b None (open_at p other)) (cond b None (open_at w other)) ≡ cond b None (open_at (p ++ w) other)
    by true other = refl
    by false other = sym (open_both p w other)

mapped_same : (f : OpenLaneData → OpenLaneData) (a b : Option OpenLaneData) → or_else (option_map f a) (option_map f b) ≡ option_map f (or_else a b)
mapped_same f None b = refl
mapped_same f (Some a) b = refl

pub set_by : (p w p' w' : Map) (id : ℕ) (f : OpenLaneData → OpenLaneData) → SetsLane p p' id (option_map f (open_at p id)) → SetsLane w w' id (option_map f (open_at w id)) →
    SetsLane (p ++ w) (p' ++ w') id (option_map f (open_at (p ++ w) id))
set_by p w p' w' id f one two = λ other.
    open_both p' w' other ∙ ap (λ o. or_else o (open_at w' other)) (one other) ∙ ap (or_else (cond (id == other) (option_map f (open_at p id)) (open_at p other))) (two other) ∙ by (id == other) other
  where
    by : (b : Bool) (other : ℕ) → or_else (cond b (option_map f (open_at p id)) (open_at p other)) (cond b (option_map f (open_at w id)) (open_at w other)) ≡ cond b (option_map f (open_at (p ++ w) id)) (open_at (p ++ w) other)
    by true other = mapped_same f (open_at p id) (open_at w id) ∙ ap (option_map f) (sym (open_both p w id))
    by false other = sym (open_both p w other)

-- ---- all lanes are changed

pub changed_both : (p w p' w' : Map) (f : OpenLaneData → OpenLaneData) → AreChanged f p p' → AreChanged f w w' → AreChanged f (p ++ w) (p' ++ w')
changed_both p w p' w' f one two = λ id.
    open_both p' w' id ∙ ap (λ o. or_else o (open_at w' id)) (one id) ∙ ap (or_else (option_map f (open_at p id))) (two id)
    ∙ mapped_same f (open_at p id) (open_at w id) ∙ ap (option_map f) (sym (open_both p w id))

pub told_both : (log : Log) (end : ℕ) (p w p' w' : Map) → AreTold log end p p' → AreTold log end w w' → AreTold log end (p ++ w) (p' ++ w')
told_both log end p w p' w' one two = record {
  falls = λ id. cond (is_some (open_at p id)) (one.falls id) (two.falls id);
  each = λ id.
      open_both p' w' id ∙ ap (λ o. or_else o (open_at w' id)) (one.each id) ∙ ap (or_else (option_map (told_lane log end (one.falls id)) (open_at p id))) (two.each id)
      ∙ by id (open_at p id) ∙ ap (option_map (told_lane log end (cond (is_some (open_at p id)) (one.falls id) (two.falls id)))) (sym (open_both p w id));
}
  where
    by : (id : ℕ) (o : Option OpenLaneData) → or_else (option_map (told_lane log end (one.falls id)) o) (option_map (told_lane log end (two.falls id)) (open_at w id)) ≡
        option_map (told_lane log end (cond (is_some o) (one.falls id) (two.falls id))) (or_else o (open_at w id))
    by id None = refl
    by id (Some o) = refl

pub ready_placed : (log : Log) (end : ℕ) (es : List EventRows) (p w : Map) → AreReady log end es (p ++ w) → AreReady log end es p
ready_placed log end es p w ready = λ id o here. ready id o (found_in_placed p w id o here)

pub ready_alike : (log : Log) (end : ℕ) (es : List EventRows) (p w : Map) → AreApart p w → AreReady log end es (p ++ w) → AreReady log end es w
ready_alike log end es p w apart ready = λ id o here. ready id o (found_in_alike p w id (apart id o here) ∙ here)

-- ---- lanes of two maps stay apart, and those of one alike

pub none_is : {P : Type 0} (o : OpenLaneData) → None ≡ Some o → P
none_is o e = absurd (cc)

pub apart_closed : (p w p' w' : Map) (id : ℕ) → AreApart p w → SetsLane p p' id None → SetsLane w w' id None → AreApart p' w'
apart_closed p w p' w' id apart one two = λ other o here. one other ∙ by (id == other) other o (sym (two other) ∙ here)
  where
    by : (b : Bool) (other : ℕ) (o : OpenLaneData) → cond b None (open_at w other) ≡ Some o → cond b None (open_at p other) ≡ None
    by true other o here = none_is o here
    by false other o here = apart other o here

-- of no lanes any selection is that of each
pub alike_where_none : (lanes : Map) → lanes ≡ [] → AreAlike lanes
alike_where_none lanes none = (record { resource = Pods; ns = None; labels = []; fields = [] }, λ id o here. none_is o (sym (ap (λ xs. open_at xs id) none) ∙ here))
