-- Lines with which nothing is wrong.
use Rattle.std.proofs.Common.{◌≡◌, ℕ, ◌<◌, ◌≤◌, Bool, true, false, List, Option, Some, None, is_some, refl}
use Rattle.std.specs.Prelude.{◌||◌, not, nat_lt, nat_le, if◌then◌else◌}
use Rattle.std.proofs.lemmas.Bool.{not-false, leb-false, ltb-false}
use Rattle.kube_meta.specs.declared.resources.Resource.{Resource}
use Rattle.rev_log.specs.Logs.{Log, end_of}
use Rattle.select_all.specs.declared.selection.Selection.{Selection}
use Rattle.select_all.specs.Selecting.{selects}
use Rattle.select_all.specs.Streams.{TransitionData}
use Rattle.mirror_law.specs.Taking.{row_before}
use Rattle.mirror_log.specs.Intakes.{fits_kind}
use Rattle.mirror_log.specs.Faults.{event_fault, mark_fault, is_full_at, is_repeated, last_of}
use Rattle.mirror_log.specs.declared.take_refusal.TakeNo.{TakeNo}
use Rattle.mirror_log.specs.declared.take_refusal.TakeNo.TheVariants.{BadLine, Order}

-- what holds of an event with which nothing is wrong
pub record IsGood (resource : Resource) (m : Log) (kept : List TransitionData) (t : TransitionData) : Type 0 where
  pub fits : fits_kind t.kind (is_some (row_before m resource kept t.rev t.obj.key)) ≡ true
  pub few : is_full_at kept t.rev ≡ false
  pub above : end_of m < t.rev
  pub new : is_repeated kept t.rev t.obj.key ≡ false

-- a choice between a fault and another test gives none only where the test does
past_no : (b : Bool) (fault : TakeNo) (rest : Option TakeNo) → (if b then Some fault else rest) ≡ None → (b ≡ false) × (rest ≡ None)
past_no true fault rest none = cc
past_no false fault rest none = (refl, none)

neither : (a b : Bool) → (a || b) ≡ false → (a ≡ false) × (b ≡ false)
neither true b none = cc
neither false b none = (refl, none)

pub good : (s : Selection) (most_gap : ℕ) (m : Log) (kept : List TransitionData) (t : TransitionData) → event_fault s most_gap m kept t ≡ None → IsGood s.resource m kept t
good s most_gap m kept t none =
    let selected = past_no (not (selects s t.obj)) BadLine _ none in
    let fits = past_no (not (fits_kind t.kind (is_some (row_before m s.resource kept t.rev t.obj.key)))) BadLine _ selected.1 in
    let few = past_no (is_full_at kept t.rev) BadLine _ fits.1 in
    let order = past_no (nat_le t.rev (end_of m) || is_repeated kept t.rev t.obj.key) (Order (last_of (end_of m) kept) t.rev) _ few.1 in
    let each = neither (nat_le t.rev (end_of m)) (is_repeated kept t.rev t.obj.key) order.0 in
    record { fits = not-false (fits_kind t.kind (is_some (row_before m s.resource kept t.rev t.obj.key))) fits.0; few = few.0; above = leb-false t.rev (end_of m) each.0; new = each.1 }

-- a bookmark with which nothing is wrong is not below what was told
pub good_mark : (most_gap to at : ℕ) (kept : List TransitionData) (closing : Bool) → mark_fault most_gap to kept at closing ≡ None → (closing ≡ false) × (last_of to kept ≤ at)
good_mark most_gap to at kept closing none =
    let unclosed = past_no closing BadLine _ none in
    let order = past_no (nat_lt at (last_of to kept)) BadLine _ unclosed.1 in
    (unclosed.0, ltb-false at (last_of to kept) order.0)
