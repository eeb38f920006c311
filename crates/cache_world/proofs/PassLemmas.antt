-- What a pass knows stays true over loads, meetings and answers, and as the log grows; and no pass forgets.
use Rattle.std.proofs.Common.{◌≡◌, ℕ, ◌-◌, ◌≤◌, max, List, [], ◌∷◌, drop, take-append-drop, length-append, length-take, refl, sym, ◌∙◌, subst, arith}
use Rattle.std.proofs.lemmas.List.Elements.{All-nil}
use Rattle.std.proofs.lemmas.List.Sorted.{IsNonDecreasingBy-short}
use mathlib.Core.List.{IsPrefix}
use Rattle.rev_front.specs.Passes.{Pass, IsWhole, Extends, FitFrom, end_from, revision, longer, looked, pass_from}
use Rattle.rev_front.proofs.Beginnings.{prefix_self, prefix_trans, prefix_grown, prefix_get, last_push, longer_is, longer_begins, longer_first}
use Rattle.rev_front.proofs.Passing.{told_push, told_more, rising_push}
use Rattle.rev_log.specs.Changes.{RevisionData}
use Rattle.rev_log.specs.Logs.{Log, Fits, end_of, upto}
use Rattle.cache_world.specs.World.{World, whole_of}
use Rattle.cache_world.specs.Steps.{Word, loaded, learnt, told_at}
use Rattle.cache_world.specs.Steps.Word.{OfRevision, OfGeneration, OfFloor}
use Rattle.cache_world.specs.Law.{IsKnowledge}

-- ---- the store's own pass

pub store_knows : (world : World) (seat : ℕ) → IsWhole Fits (whole_of world) → IsKnowledge (whole_of world) (pass_from (whole_of world) seat)
store_knows world seat whole =
    let bounded = whole.bounded in
    let reached = whole.reached in
    record {
      lawful = record {
        rising = IsNonDecreasingBy-short (λ (n : ℕ). n) [] (omega arith);
        told = All-nil (λ (n : ℕ). n ≤ revision (whole_of world));
        within = omega arith;
        from = whole.from;
        bounded = (bounded.0, omega arith, bounded.1);
        fitting = whole.fitting;
      };
      covered = record { first_is = refl; seen = prefix_self world.log.revisions; shown = omega arith; floor = omega arith; gen = omega arith };
    }

-- ---- loads

look_knows : (world : World) (pass : Pass RevisionData) → IsWhole Fits (whole_of world) → IsKnowledge (whole_of world) pass → IsKnowledge (whole_of world) (looked pass (end_of world.log))
look_knows world pass whole is =
    let shown = is.covered.shown in
    let within = is.lawful.within in
    let bounded = is.lawful.bounded in
    let most = whole.bounded in
    record {
      lawful = record {
        rising = rising_push pass.loads pass.shown (end_of world.log) shown is.lawful.told is.lawful.rising;
        told = told_push pass.loads pass.shown (end_of world.log) shown is.lawful.told;
        within = omega arith;
        from = is.lawful.from;
        bounded = (most.0, bounded.1, bounded.2);
        fitting = is.lawful.fitting;
      };
      covered = record { first_is = is.covered.first_is; seen = is.covered.seen; shown = omega arith; floor = is.covered.floor; gen = is.covered.gen };
    }

pub load_knows : (world : World) (word : Word) (pass : Pass RevisionData) → IsWhole Fits (whole_of world) → IsKnowledge (whole_of world) pass → IsKnowledge (whole_of world) (loaded world word pass)
load_knows world OfRevision pass whole is = look_knows world pass whole is
load_knows world OfGeneration pass whole is =
    let bounded = is.lawful.bounded in
    let most = whole.bounded in
    record {
      lawful = record { rising = is.lawful.rising; told = is.lawful.told; within = is.lawful.within; from = is.lawful.from; bounded = (bounded.0, bounded.1, most.1); fitting = is.lawful.fitting };
      covered = record { first_is = is.covered.first_is; seen = is.covered.seen; shown = is.covered.shown; floor = is.covered.floor; gen = omega arith };
    }
load_knows world OfFloor pass whole is =
    let bounded = is.lawful.bounded in
    let most = whole.bounded in
    let reached = whole.reached in
    let first = is.covered.first_is in
    let from = whole.from in
    record {
      lawful = record { rising = is.lawful.rising; told = is.lawful.told; within = is.lawful.within; from = omega arith; bounded = (bounded.0, omega arith, bounded.2); fitting = is.lawful.fitting };
      covered = record { first_is = is.covered.first_is; seen = is.covered.seen; shown = is.covered.shown; floor = omega arith; gen = is.covered.gen };
    }

pub load_extends : (world : World) (word : Word) (pass : Pass RevisionData) → IsKnowledge (whole_of world) pass → Extends pass (loaded world word pass)
load_extends world OfRevision pass is = record { log_is = refl; seat_is = refl; seen_on = prefix_self pass.seen; loads_on = prefix_grown pass.loads (end_of world.log ∷ []); shown_on = is.covered.shown; floor_on = omega arith; gen_on = omega arith }
load_extends world OfGeneration pass is = record { log_is = refl; seat_is = refl; seen_on = prefix_self pass.seen; loads_on = prefix_self pass.loads; shown_on = omega arith; floor_on = omega arith; gen_on = is.covered.gen }
load_extends world OfFloor pass is = record { log_is = refl; seat_is = refl; seen_on = prefix_self pass.seen; loads_on = prefix_self pass.loads; shown_on = omega arith; floor_on = is.covered.floor; gen_on = omega arith }

-- ---- meetings

-- a pass that has seen the longer of its log and another beginning of the whole one, and was told of greater numbers
module _ (world : World) (pass : Pass RevisionData) (seen : List RevisionData) (shown floor gen : ℕ) where
  abbrev widened : Pass RevisionData
  widened = record pass { seen = longer pass.seen seen; shown = max pass.shown shown; floor = max pass.floor floor; gen = max pass.gen gen }

  widened_knows : IsWhole Fits (whole_of world) → IsKnowledge (whole_of world) pass → IsPrefix seen world.log.revisions → FitFrom Fits world.log.first seen →
      end_from world.log.first seen ≤ max pass.shown shown → shown ≤ end_of world.log → floor ≤ world.floor → gen ≤ world.generation → IsKnowledge (whole_of world) widened
  widened_knows whole is begins fitting within most_shown most_floor most_gen =
      let bounded = is.lawful.bounded in
      let most = whole.bounded in
      let reached = whole.reached in
      let first = is.covered.first_is in
      let own = is.lawful.within in
      let from = is.lawful.from in
      let c = is.covered.shown in
      let d = is.covered.floor in
      let e = is.covered.gen in
      record {
        lawful = record {
          rising = is.lawful.rising;
          told = told_more pass.loads pass.shown (max pass.shown shown) (omega arith) is.lawful.told;
          within = longer_is (λ (l : List RevisionData). end_from pass.first l ≤ max pass.shown shown) pass.seen seen (λ _. omega arith) (λ _. omega arith);
          from = omega arith;
          bounded = (omega arith, omega arith, omega arith);
          fitting = longer_is (FitFrom Fits pass.first) pass.seen seen (λ _. subst (λ (n : ℕ). FitFrom Fits n seen) (sym first) fitting) (λ _. is.lawful.fitting);
        };
        covered = record {
          first_is = first;
          seen = longer_begins pass.seen seen world.log.revisions is.covered.seen begins;
          shown = omega arith;
          floor = omega arith;
          gen = omega arith;
        };
      }

  widened_extends : IsKnowledge (whole_of world) pass → IsPrefix seen world.log.revisions → Extends pass widened
  widened_extends is begins = record {
    log_is = refl;
    seat_is = refl;
    seen_on = longer_first pass.seen seen world.log.revisions is.covered.seen begins;
    loads_on = prefix_self pass.loads;
    shown_on = omega arith;
    floor_on = omega arith;
    gen_on = omega arith;
  }

pub learn_knows : (world : World) (pass other : Pass RevisionData) → IsWhole Fits (whole_of world) → IsKnowledge (whole_of world) pass → IsKnowledge (whole_of world) other → IsKnowledge (whole_of world) (learnt pass other)
learn_knows world pass other whole is theirs =
    let first = theirs.covered.first_is in
    let within = theirs.lawful.within in
    widened_knows world pass other.seen other.shown other.floor other.gen whole is theirs.covered.seen
    (subst (λ (n : ℕ). FitFrom Fits n other.seen) first theirs.lawful.fitting) (omega arith) theirs.covered.shown theirs.covered.floor theirs.covered.gen

pub learn_extends : (world : World) (pass other : Pass RevisionData) → IsKnowledge (whole_of world) pass → IsKnowledge (whole_of world) other → Extends pass (learnt pass other)
learn_extends world pass other is theirs = widened_extends world pass other.seen other.shown other.floor other.gen is theirs.covered.seen

-- ---- answers

upto_begins : (log : Log) (at : ℕ) → IsPrefix (upto log at) log.revisions
upto_begins log at = (drop (at - log.first) log.revisions, take-append-drop (at - log.first) log.revisions)

upto_within : (log : Log) (at shown : ℕ) → log.first ≤ shown → end_from log.first (upto log at) ≤ max shown at
upto_within log at shown from = omega (arith, length-take (at - log.first) log.revisions)

fits_upto : (log : Log) (at : ℕ) → FitFrom Fits log.first log.revisions → FitFrom Fits log.first (upto log at)
fits_upto log at fitting i revision found = fitting i revision (prefix_get (upto log at) log.revisions i revision (upto_begins log at) found)

told_is : (world : World) (at : ℕ) (pass : Pass RevisionData) → widened world pass (upto world.log at) at 0 0 ≡ told_at world.log at pass
told_is world at pass =
    let floor : max pass.floor 0 ≡ pass.floor = omega arith in
    let gen : max pass.gen 0 ≡ pass.gen = omega arith in
    cc

pub told_knows : (world : World) (at : ℕ) (pass : Pass RevisionData) → IsWhole Fits (whole_of world) → IsKnowledge (whole_of world) pass → at ≤ end_of world.log → IsKnowledge (whole_of world) (told_at world.log at pass)
told_knows world at pass whole is reached =
    let within = is.lawful.within in
    let first = is.covered.first_is in
    let from = is.lawful.from in
    let shown = is.covered.shown in
    subst (IsKnowledge (whole_of world)) (told_is world at pass)
    (widened_knows world pass (upto world.log at) at 0 0 whole is (upto_begins world.log at) (fits_upto world.log at whole.fitting)
    (upto_within world.log at pass.shown (omega arith)) reached (omega arith) (omega arith))

pub told_extends : (world : World) (at : ℕ) (pass : Pass RevisionData) → IsKnowledge (whole_of world) pass → Extends pass (told_at world.log at pass)
told_extends world at pass is =
    subst (Extends pass) (told_is world at pass) (widened_extends world pass (upto world.log at) at 0 0 is (upto_begins world.log at))

-- ---- later worlds

-- what is known stays known as the log and its numbers grow
pub knows_on : (world later : World) (pass : Pass RevisionData) → later.log.first ≡ world.log.first → IsPrefix world.log.revisions later.log.revisions → end_of world.log ≤ end_of later.log → world.floor ≤ later.floor → world.generation ≤ later.generation →
    IsKnowledge (whole_of world) pass → IsKnowledge (whole_of later) pass
knows_on world later pass same grows end_on floor_on gen_on is =
    let c = is.covered.shown in
    let d = is.covered.floor in
    let e = is.covered.gen in
    record {
      lawful = is.lawful;
      covered = record {
        first_is = is.covered.first_is ∙ sym same;
        seen = prefix_trans pass.seen world.log.revisions later.log.revisions is.covered.seen grows;
        shown = omega arith;
        floor = omega arith;
        gen = omega arith;
      };
    }
