-- Texts are walked, and what a whole walk tells.
use Rattle.std.proofs.Common.{◌≡◌, ℕ, ◌+◌, ◌-◌, ◌^◌, ◌<◌, ◌≤◌, true, false, List, [], ◌∷◌, ◌++◌, length, fold, Option, Some, None, All, refl, sym, ap, ◌∙◌, subst, append_assoc, inl, inr, arith}
use Rattle.std.specs.Prelude.{filter_map}
use Rattle.std.specs.List.{AllByRecursion}
use Rattle.std.specs.BTreeMap.{BTreeMap, values}
use Rattle.std.proofs.lemmas.Bool.{cases_lt}
use Rattle.std.proofs.lemmas.List.{length-append, append-nil}
use Rattle.std.proofs.lemmas.List.Elements.{recursion_from_All, All-from_recursion, All-append, All-weaker, All-nil}
use Rattle.kube_meta.specs.declared.resources.Resource.{Resource}
use Rattle.kube_meta.specs.Rows.{RowData, AreRising, row_with}
use Rattle.rev_log.specs.Changes.{RevisionData}
use Rattle.rev_log.specs.Logs.{Log, IsLog, grown, end_of}
use Rattle.rev_log.specs.Rows.{Holds}
use Rattle.rev_log.specs.States.{row_at, IsStateAt}
use Rattle.rev_log.proofs.GrowthLemmas.{row_at-grown}
use Rattle.rev_log.proofs.MapLemmas.{Holds-same, values_rise, row_with-values}
use Rattle.rev_log.proofs.StateLemmas.{are_unique}
use Rattle.select_all.specs.declared.selection.Selection.{Selection}
use Rattle.select_all.specs.Selecting.{selects}
use Rattle.select_all.specs.Listings.{IsListing, shown_by, row_told}
use Rattle.select_all.specs.Streams.{TransitionData}
use Rattle.select_all.proofs.EventLaws.{all_append, all_weaker}
use Rattle.select_all.proofs.ListingLaws.{listing_by_key, listings_are_by_key, listings_are_kept}
use Rattle.watch_lines.specs.Laws.{as_read}
use Rattle.watch_lines.specs.ValueLaws.{TextsTellOneLine}
use Rattle.watch_lines.specs.Values.{TellsByValue}
use Rattle.watch_lines.specs.declared.peer_line.PeerLine.{PeerLine}
use Rattle.watch_lines.specs.declared.peer_line.PeerLine.TheVariants as peer
use Rattle.watch_rules.specs.declared.starts.Start.TheVariants.{FromRevision}
use Rattle.watch_rules.specs.Bodies.{Line, Told, Bookmark, Closing, Lost, TellsBody, BeginsBody, AreOpen, told_in, is_loss}
use Rattle.watch_rules.proofs.LineLemmas.{tellings_go_on, tellings_stay}
use Rattle.mirror_law.specs.Mirrors.{IsMirrorOf, of_revision}
use Rattle.mirror_law.specs.Following.{kept_after}
use Rattle.mirror_law.specs.Taking.{IsTakenMark}
use Rattle.watch_record.specs.Between.{LaterData, BetweenData}
use Rattle.body_check.specs.declared.held.Held.{Held}
use Rattle.body_check.specs.declared.held.Held.TheVariants.{Left, Bad}
use Rattle.body_check.specs.declared.walk.Last.{Last}
use Rattle.body_check.specs.declared.walk.Walk.{Walk}
use Rattle.body_check.specs.Turns.{ArePassed, BeginsFrom, IsOther, PassesTo, HoldsTo, HasRoomFor, MayCome, TakesTo, MarksTo, count_with}
use Rattle.body_check.specs.Lists.{IsListedAt, TellEach}
use Rattle.body_check.specs.Heard.{IsLastEvent, IsLastOf, IsWalkOf, HearsAll, IsToldByNone, AreOnward, HavePassed, HasOther, AreHeld}
use Rattle.body_check.specs.Turning.{TakesLine}
use Rattle.body_check.specs.Walks.{FitAtOnce, IsOwn, HasFirst, IsWalked, IsTakenNext, reach_of, WalksTo, EndsWalk}
use Rattle.body_check.proofs.EndLemmas.{walks_end}
use Rattle.body_check.proofs.SettleLemmas.{numbers_of, all_of, none_of}
use Rattle.body_check.proofs.TakeLemmas.{walks_take, walks_take_marks, walks_take_no_closing}
use Rattle.body_check.proofs.TextLemmas.{one_body, losses_are_last}
use Rattle.body_check.proofs.TurnLemmas.{not_empty, reach_upto, reach_from, reach_with, may_come, comes_next}
use Rattle.body_check.proofs.WalkLemmas.{grown_none, list_is_state, state_is_list, walks_begin, walks_hear, walks_mark}

-- ---- texts one after the other

pub tell_append : (resource : Resource) (xs ys : List (List ℕ)) (ls os : List Line) → TellEach resource xs ls → TellEach resource ys os → TellEach resource (xs ++ ys) (ls ++ os)
tell_append resource [] ys [] os first more = more
tell_append resource [] ys (l ∷ ls) os first more = absurd first
tell_append resource (x ∷ xs) ys [] os first more = absurd first
tell_append resource (x ∷ xs) ys (l ∷ ls) os first more = (first.0, tell_append resource xs ys ls os first.1 more)

-- The lines of the first texts, and of the others.
pub record AreParted (resource : Resource) (xs ys : List (List ℕ)) (all : List Line) : Type 0 where
  pub ls : List Line
  pub os : List Line
  pub parted : all ≡ ls ++ os
  pub first : TellEach resource xs ls
  pub rest : TellEach resource ys os

pub tell_parts : (resource : Resource) (xs ys : List (List ℕ)) (all : List Line) → TellEach resource (xs ++ ys) all → AreParted resource xs ys all
tell_parts resource [] ys all tell = record { ls = []; os = all; parted = refl; first = tt; rest = tell }
tell_parts resource (x ∷ xs) ys [] tell = absurd tell
tell_parts resource (x ∷ xs) ys (l ∷ all) tell =
    let more = tell_parts resource xs ys all tell.1 in
    record { ls = l ∷ more.ls; os = more.os; parted = ap (λ (k : List Line). l ∷ k) more.parted; first = (tell.0, more.first); rest = more.rest }

-- the one line of a text
pub one_line : (resource : Resource) (x : List ℕ) (os : List Line) → TellEach resource (x ∷ []) os → (l : Line) × (os ≡ l ∷ []) × TellsByValue resource x (as_read l)
one_line resource x [] tell = absurd tell
one_line resource x (l ∷ []) tell = (l, refl, tell.0)
one_line resource x (l ∷ o ∷ os) tell = absurd (tell.1)

-- an ERROR is a loss, which tells of no object
lossy : (l : Line) (code : ℕ) → as_read l ≡ peer.Error code → is_loss l ≡ true
lossy (Told t) code same = absurd (cc)
lossy (Bookmark at) code same = absurd (cc)
lossy (Closing at) code same = absurd (cc)
lossy (Lost at floor) code same = refl

silent : (l : Line) (tail : List Line) → is_loss l ≡ true → told_in tail ≡ [] → told_in (l ∷ tail) ≡ []
silent (Told t) tail lost none = absurd (let bad : false ≡ true = lost in cc)
silent (Bookmark at) tail lost none = absurd (let bad : false ≡ true = lost in cc)
silent (Closing at) tail lost none = absurd (let bad : false ≡ true = lost in cc)
silent (Lost at floor) tail lost none = none

-- ---- lists that a log has had are kept

module _ (s : Selection) (m : Log) (more : List RevisionData) where
  pub listed_on : (l : LaterData) → IsListedAt m s l.rows l.at → IsListedAt (grown m more) s l.rows l.at
  listed_on l is = record {
    begun = is.begun;
    reached = omega (arith, is.reached, length-append m.revisions more);
    listing = listings_are_kept (selects s) m more s.resource l.at l.rows is.reached is.listing;
  }

  pub listed_before : IsLog m → (at : ℕ) (rows : List RowData) → at ≤ end_of m → IsListing (grown m more) s at rows → IsListing m s at rows
  listed_before is at rows within listing =
      let by = listing_by_key (selects s) (grown m more) s.resource at rows listing in
      (listings_are_by_key (selects s) m s.resource at rows is.revisions).1
      (record { rising = by.rising; exact = λ key. by.exact key ∙ ap (shown_by (selects s)) (row_at-grown m more s.resource at key within) })

-- ---- passing lists

onward_part : (from below : ℕ) (gone rest : List LaterData) → AreOnward from (gone ++ rest) → BeginsFrom below rest → AreOnward below rest
onward_part from below [] [] onward begins = tt
onward_part from below [] (l ∷ more) onward begins = (begins, onward.1, onward.2)
onward_part from below (g ∷ gone) rest onward begins = onward_part g.at below gone rest onward.2 begins

weaker_onward : (low from : ℕ) (lists : List LaterData) → low ≤ from → AreOnward from lists → AreOnward low lists
weaker_onward low from [] order onward = tt
weaker_onward low from (l ∷ lists) order onward = (omega (arith, order, onward.0), onward.1, onward.2)

from_there : (from : ℕ) (gone rest : List LaterData) → AreOnward from (gone ++ rest) → AllByRecursion (λ l. from ≤ l.at) gone
from_there from [] rest onward = tt
from_there from (g ∷ gone) rest onward = (onward.0, from_there from gone rest (weaker_onward from g.at (gone ++ rest) onward.0 onward.2))

first_of_rest : (from : ℕ) (gone : List LaterData) (l : LaterData) (rest : List LaterData) → AreOnward from (gone ++ l ∷ rest) → from ≤ l.at
first_of_rest from [] l rest onward = onward.0
first_of_rest from (g ∷ gone) l rest onward = omega (arith, onward.0, first_of_rest g.at gone l rest onward.2)

two : (P Q : LaterData → Type 0) (xs : List LaterData) → AllByRecursion P xs → AllByRecursion Q xs → AllByRecursion (λ x. P x × Q x) xs
two P Q [] p q = tt
two P Q (x ∷ xs) p q = ((p.0, q.0), two P Q xs p.1 q.1)

module _ (case : BetweenData) (m : Log) (more : List RevisionData) (to below : ℕ) (map : BTreeMap (List ℕ) RowData) (stands : List ℕ → Option RowData)
    (own : IsOwn case.ask.selection case.from case.rows m) (next : IsOwn case.ask.selection case.from case.rows (grown m more)) (holds : Holds map stands)
    (begun : case.from ≤ to) (onward : to ≤ below) (within : below ≤ end_of (grown m more) + 1)
    (quiet : (r : ℕ) (key : List ℕ) → to ≤ r → r < below → row_at (grown m more) case.ask.selection.resource r key ≡ stands key) where
  state : (r : ℕ) → to ≤ r → r < below → IsStateAt (grown m more) case.ask.selection.resource r (values map)
  state r low high = record { rising = values_rise map stands holds; exact = λ key. row_with-values map stands key holds ∙ sym (quiet r key low high) }

  gone_listed : (gone rest : List LaterData) → AreOnward to (gone ++ rest) → All (λ l. (l.at < below) × (l.rows ≡ values map)) gone
      → All (λ l. IsListedAt (grown m more) case.ask.selection l.rows l.at × (l.at ≤ below)) gone
  gone_listed gone rest on same =
      All-from_recursion (λ l. IsListedAt (grown m more) case.ask.selection l.rows l.at × (l.at ≤ below)) gone
      (all_weaker (λ l. (to ≤ l.at) × ((l.at < below) × (l.rows ≡ values map))) (λ l. IsListedAt (grown m more) case.ask.selection l.rows l.at × (l.at ≤ below))
      (λ l w. (
        record {
          begun = omega (arith, next.begun, begun, w.0);
          reached = omega (arith, within, w.1.0);
          listing = state_is_list case.ask.selection case.from case.rows (grown m more) next l.at l.rows (omega (arith, begun, w.0)) (omega (arith, within, w.1.0))
              (subst (IsStateAt (grown m more) case.ask.selection.resource l.at) (sym w.1.1) (state l.at w.0 w.1.0));
        },
        omega (arith, w.1.0),
      ))
      gone (two (λ l. to ≤ l.at) (λ l. (l.at < below) × (l.rows ≡ values map)) gone (from_there to gone rest on) (recursion_from_All (λ l. (l.at < below) × (l.rows ≡ values map)) gone same)))

  kept_listed : (gone : List LaterData) → All (λ l. IsListedAt m case.ask.selection l.rows l.at × (l.at ≤ to)) gone → All (λ l. IsListedAt (grown m more) case.ask.selection l.rows l.at × (l.at ≤ below)) gone
  kept_listed gone all = All-weaker (λ l. IsListedAt m case.ask.selection l.rows l.at × (l.at ≤ to)) (λ l. IsListedAt (grown m more) case.ask.selection l.rows l.at × (l.at ≤ below))
      (λ l w. (listed_on case.ask.selection m more l w.0, omega (arith, w.1, onward))) gone all

  pass_left : (left : List LaterData) (now : Held) → HavePassed case to m left → PassesTo (values map) below left now → AreHeld case below (grown m more) now
  pass_left left (Left rest) have passes =
      let all : AreOnward to (passes.0.gone ++ rest.now) = subst (AreOnward to) passes.0.parted have.onward in
      record {
        gone = have.gone ++ passes.0.gone;
        parted = have.parted ∙ ap (λ (l : List LaterData). have.gone ++ l) passes.0.parted ∙ sym (append_assoc have.gone passes.0.gone rest.now);
        listed = All-append (λ l. IsListedAt (grown m more) case.ask.selection l.rows l.at × (l.at ≤ below)) have.gone passes.0.gone (kept_listed have.gone have.listed)
            (gone_listed passes.0.gone rest.now all passes.0.same);
        onward = onward_part to below passes.0.gone rest.now all passes.1;
      }
  pass_left left (Bad place) have passes =
      let all : AreOnward to (passes.before.gone ++ passes.list ∷ passes.more) = subst (AreOnward to) passes.before.parted have.onward in
      let low : to ≤ passes.list.at = first_of_rest to passes.before.gone passes.list passes.more all in
      record {
        gone = have.gone ++ passes.before.gone;
        bad = passes.list;
        behind = passes.more;
        parted = have.parted ∙ ap (λ (l : List LaterData). have.gone ++ l) passes.before.parted ∙ sym (append_assoc have.gone passes.before.gone (passes.list ∷ passes.more));
        placed = passes.placed;
        listed = All-weaker (λ l. IsListedAt (grown m more) case.ask.selection l.rows l.at × (l.at ≤ below)) (λ l. IsListedAt (grown m more) case.ask.selection l.rows l.at) (λ l w. w.0)
            (have.gone ++ passes.before.gone)
            (All-append (λ l. IsListedAt (grown m more) case.ask.selection l.rows l.at × (l.at ≤ below)) have.gone passes.before.gone (kept_listed have.gone have.listed)
            (gone_listed passes.before.gone (passes.list ∷ passes.more) all passes.before.same));
        begun = omega (arith, begun, low);
        reached = omega (arith, within, passes.below_it);
        differs = λ listing. passes.differs (are_unique (grown m more) case.ask.selection.resource passes.list.at passes.list.rows (values map)
            (list_is_state case.ask.selection case.from case.rows (grown m more) next passes.list.at passes.list.rows (omega (arith, begun, low)) (omega (arith, within, passes.below_it)) listing)
            (state passes.list.at low passes.below_it));
      }

  fail_on : (place : ℕ) → HasOther case m place → HasOther case (grown m more) place
  fail_on place has = record {
    gone = has.gone;
    bad = has.bad;
    behind = has.behind;
    parted = has.parted;
    placed = has.placed;
    listed = All-weaker (λ l. IsListedAt m case.ask.selection l.rows l.at) (λ l. IsListedAt (grown m more) case.ask.selection l.rows l.at) (λ l is. listed_on case.ask.selection m more l is) has.gone has.listed;
    begun = has.begun;
    reached = omega (arith, has.reached, length-append m.revisions more);
    differs = λ listing. has.differs (listed_before case.ask.selection m more own.log has.bad.at has.bad.rows has.reached listing);
  }

  pub pass_on : (old now : Held) → AreHeld case to m old → HoldsTo (values map) below old now → AreHeld case below (grown m more) now
  pass_on (Left left) now held to_now = pass_left left.now now held to_now
  pass_on (Bad place) now held to_now = subst (AreHeld case below (grown m more)) (sym to_now) (fail_on place held)

-- ---- the next event

module _ (one : TextsTellOneLine) (case : BetweenData) (texts : List (List ℕ)) (text : List ℕ) (walk : Walk) (m : Log) (is : IsWalkOf case texts walk m) where
  abbrev pub Goes : Walk → Type 0
  Goes now = (next : Log) × IsWalkOf case (texts ++ text ∷ []) now next × (AreHeld case walk.to m walk.held → AreHeld case now.to next now.held)

  begun_from : case.from ≤ walk.to
  begun_from = omega (arith, is.walked.own.reached, reach_from m is.kept, is.reach)

  open_with : (l : Line) → is_loss l ≡ false → AreOpen (is.lines ++ l ∷ [])
  open_with l free = open_both is.lines l is.free free
    where
      open_both : (ls : List Line) (o : Line) → AreOpen ls → is_loss o ≡ false → AreOpen (ls ++ o ∷ [])
      open_both [] o all free = rw free refl
      open_both (x ∷ ls) o all free = parts x (open_both ls o) all free
        where
          parts : (x : Line) → (AreOpen ls → is_loss o ≡ false → AreOpen (ls ++ o ∷ [])) → AreOpen (x ∷ ls) → is_loss o ≡ false → AreOpen (x ∷ ls ++ o ∷ [])
          parts (Told t) so all free = so all free
          parts (Bookmark at) so all free = so all free
          parts (Closing at) so all free = so all free
          parts (Lost at floor) so all free = absurd (let bad : true ≡ false = all in cc)

  count_is : (t : TransitionData) (now : Walk) (kept : List TransitionData) (last : Option Last) → IsLastOf kept last → AllByRecursion (λ k. k.rev ≡ end_of m + 1) kept → walk.to ≡ reach_of m kept → walk.to ≤ t.rev
      → walk.last ≡ last → (comes : TakesTo t walk now) → comes.count ≡ length (kept_after kept (Told t))
  count_is t now [] last is_last numbers reach onward same comes = elim (cases_lt walk.to t.rev) [
    | inl later ↦ comes.first later
    | inr here ↦ comes.more (omega (arith, here, onward)) ∙ ap count_with (same ∙ none last is_last)
  ]
    where
      none : (l : Option Last) → IsLastOf [] l → l ≡ None
      none None at = refl
      none (Some l) at = absurd (not_empty at.before at.event at.kept_are)
  count_is t now (k ∷ kept) None is_last numbers reach onward same comes = absurd (let bad : k ∷ kept ≡ [] = is_last in cc)
  count_is t now (k ∷ kept) (Some l) is_last numbers reach onward same comes = elim (cases_lt walk.to t.rev) [
    | inl later ↦
        omega (arith, comes.first later, ap length (none_of (end_of m + 1) t.rev (k ∷ kept) numbers (omega (arith, later, reach))), length-append (of_revision t.rev (k ∷ kept)) (t ∷ []))
    | inr here ↦
        let at : walk.to ≡ t.rev = omega (arith, here, onward) in
        omega (
          arith,
          comes.more at,
          ap count_with same,
          is_last.count,
          ap length (all_of (end_of m + 1) t.rev (k ∷ kept) numbers (omega (arith, at, reach))),
          length-append (of_revision t.rev (k ∷ kept)) (t ∷ []),
        )
  ]

  pub goes_by_event : (t : TransitionData) (now : Walk) → t.rev ≤ 2 ^ 62 → TellsByValue case.ask.selection.resource text (peer.Told t.kind t.obj t.rev)
      → MayCome case.ask.selection walk t.kind t.obj t.rev → TakesTo t walk now → Goes now
  goes_by_event t now bound tells may comes =
      let s : Selection = case.ask.selection in
      let next : IsTakenNext s m is.kept t = comes_next case texts walk m is t bound may in
      let heard = walks_hear case.ask case.from case.rows is.lines m is.kept t is.walked next in
      let more : List RevisionData = heard.0 in
      let to : WalksTo case.ask case.from case.rows is.lines m is.kept (Told t) (t.rev - 1) heard.0 (kept_after is.kept (Told t)) = heard.1 in
      let kept : List TransitionData = of_revision t.rev is.kept in (
        grown m heard.0,
        record {
          kept = kept ++ t ∷ [];
          lines = is.lines ++ Told t ∷ [];
          tell = tell_append s.resource texts (text ∷ []) is.lines (Told t ∷ []) is.tell (tells, tt);
          free = open_with (Told t) refl;
          walked = to.walked;
          reach = omega (arith, comes.to, reach_with (grown m heard.0) kept t, to.end, next.above);
          within = omega (arith, comes.to, bound);
          rows = Holds-same now.rows _ _ (λ key. sym (heard.2 key)) (comes.rows (λ key. fold (row_told key) (row_at m s.resource (end_of m) key) is.kept) is.rows);
          last = subst (IsLastOf (kept ++ t ∷ [])) (sym comes.last) (record {
            before = kept;
            event = t;
            kept_are = refl;
            key = refl;
            count = count_is t now is.kept walk.last is.last (numbers_of (selects s) (row_at m s.resource (end_of m)) (end_of m + 1) is.kept is.walked.are) is.reach may.onward refl comes;
          });
        },
        λ held. subst (λ (n : ℕ). AreHeld case n (grown m heard.0) now.held) (sym comes.to)
            (pass_on case m heard.0 walk.to t.rev walk.rows (λ key. fold (row_told key) (row_at m s.resource (end_of m) key) is.kept) is.walked.own to.walked.own is.rows begun_from may.onward
            (omega (arith, to.end, next.above))
            (λ r key low high. to.quiet r key (omega (arith, low, is.reach)) (omega (arith, high, next.above))) walk.held now.held held comes.held),
      )

  -- ---- a bookmark

  told_below : (at : ℕ) → walk.to ≤ at → IsTakenMark m is.kept at
  told_below at onward = record {
    onward = omega (arith, onward, is.reach, reach_from m is.kept);
    told = All-from_recursion (λ k. k.rev ≤ at) is.kept
        (below is.kept (numbers_of (selects case.ask.selection) (row_at m case.ask.selection.resource (end_of m)) (end_of m + 1) is.kept is.walked.are) (omega (arith, onward, is.reach)));
  }
    where
      below : (kept : List TransitionData) → AllByRecursion (λ (k : TransitionData). k.rev ≡ end_of m + 1) kept → reach_of m kept ≤ at → AllByRecursion (λ (k : TransitionData). k.rev ≤ at) kept
      below [] numbers reach = tt
      below (k ∷ kept) numbers reach = all_weaker (λ (u : TransitionData). u.rev ≡ end_of m + 1) (λ (u : TransitionData). u.rev ≤ at) (λ u number. omega (arith, number, reach)) (k ∷ kept) numbers

  pub goes_by_mark : (at : ℕ) (now : Walk) → at ≤ 2 ^ 62 → TellsByValue case.ask.selection.resource text (peer.Bookmark at false) → case.ask.bookmarks ≡ true → walk.to ≤ at → MarksTo at walk now → Goes now
  goes_by_mark at now bound tells wanted onward marks =
      let s : Selection = case.ask.selection in
      let marked = walks_mark case.ask case.from case.rows is.lines m is.kept at is.walked (told_below at onward) wanted bound in
      let to : WalksTo case.ask case.from case.rows is.lines m is.kept (Bookmark at) at marked.0 [] = marked.1 in (
        grown m marked.0,
        record {
          kept = [];
          lines = is.lines ++ Bookmark at ∷ [];
          tell = tell_append s.resource texts (text ∷ []) is.lines (Bookmark at ∷ []) is.tell (tells, tt);
          free = open_with (Bookmark at) refl;
          walked = to.walked;
          reach = marks.to ∙ sym to.end;
          within = omega (arith, marks.to, bound);
          rows = subst (λ (map : BTreeMap (List ℕ) RowData). Holds map (λ key. row_at (grown m marked.0) s.resource (end_of (grown m marked.0)) key)) (sym marks.rows)
              (Holds-same walk.rows _ _ (λ key. sym (to.quiet (end_of (grown m marked.0)) key (omega (arith, to.end, onward, is.reach)) (omega (arith, to.end)))) is.rows);
          last = subst (IsLastOf []) (sym marks.last) refl;
        },
        λ held. subst (λ (n : ℕ). AreHeld case n (grown m marked.0) now.held) (sym marks.to)
            (pass_on case m marked.0 walk.to at walk.rows (λ key. fold (row_told key) (row_at m s.resource (end_of m) key) is.kept) is.walked.own to.walked.own is.rows begun_from onward
            (omega (arith, to.end))
            (λ r key low high. to.quiet r key (omega (arith, low, is.reach)) (omega (arith, high))) walk.held now.held held marks.held),
      )

  -- ---- a line that none tells

  -- what a log that tells all of them tells last
  record TellsNext (peer : Log) (floor low : ℕ) : Type 0 where
    line : Line
    tells : TellsByValue case.ask.selection.resource text (as_read line)
    begins : BeginsBody peer floor low case.ask case.from (is.lines ++ line ∷ [])

  tells_next : (peer : Log) (floor low : ℕ) (others more : List Line) (p : ℕ) → TellEach case.ask.selection.resource (texts ++ text ∷ []) others → TellsBody peer floor low case.ask case.from (others ++ more) p
      → TellsNext peer floor low
  tells_next peer floor low others more p tell body =
      let parts = tell_parts case.ask.selection.resource texts (text ∷ []) others tell in
      let last = one_line case.ask.selection.resource text parts.os parts.rest in
      let same : is.lines ≡ parts.ls = one_body one case.ask.selection.resource texts is.lines parts.ls is.tell parts.first is.free in
      let whole : others ≡ is.lines ++ last.0 ∷ [] = parts.parted ∙ ap (λ (l : List Line). l ++ parts.os) (sym same) ∙ ap (λ (l : List Line). is.lines ++ l) last.1 in
      record { line = last.0; tells = last.2; begins = (more, p, subst (λ (l : List Line). TellsBody peer floor low case.ask case.from (l ++ more) p) whole body) }

  pub refused_untold : ((line : PeerLine) → ¬ TellsByValue case.ask.selection.resource text line) → IsToldByNone case (texts ++ text ∷ [])
  refused_untold none peer floor low others more p first tell body =
      let next = tells_next peer floor low others more p tell body in
      none (as_read next.line) next.tells

  numbers : AllByRecursion (λ k. k.rev ≡ end_of m + 1) is.kept
  numbers = numbers_of (selects case.ask.selection) (row_at m case.ask.selection.resource (end_of m)) (end_of m + 1) is.kept is.walked.are

  reach_low : (at : ℕ) (kept : List TransitionData) → AllByRecursion (λ k. k.rev ≡ end_of m + 1) kept → AllByRecursion (λ k. k.rev ≤ at) kept → end_of m ≤ at → reach_of m kept ≤ at
  reach_low at [] number below on = on
  reach_low at (k ∷ kept) number below on = omega (arith, number.0, below.0)

  takes_next : case.ask.start ≡ FromRevision case.from → (peer : Log) (floor low : ℕ) (line : Line) → HasFirst case.ask.selection case.from case.rows peer
      → BeginsBody peer floor low case.ask case.from (is.lines ++ line ∷ []) → TakesLine case.ask walk (as_read line)
  takes_next start peer floor low (Told t) first begins =
      may_come case texts walk m is t (walks_take case.ask case.from case.rows is.lines m is.kept t peer floor low start is.walked first begins)
  takes_next start peer floor low (Bookmark at) first begins =
      let taken = walks_take_marks case.ask case.from case.rows is.lines m is.kept at peer floor low start is.walked first begins in
      (taken.1, refl, omega (arith, is.reach, reach_low at is.kept numbers (recursion_from_All (λ k. k.rev ≤ at) is.kept taken.0.told) taken.0.onward))
  takes_next start peer floor low (Closing at) first begins =
      absurd (walks_take_no_closing case.ask case.from case.rows is.lines m is.kept at peer floor low start is.walked first begins)
  takes_next start peer floor low (Lost at floor-2) first begins = refl

  pub refused_line : case.ask.start ≡ FromRevision case.from → (line : PeerLine) → TellsByValue case.ask.selection.resource text line → ¬ TakesLine case.ask walk line → IsToldByNone case (texts ++ text ∷ [])
  refused_line start line tells not peer floor low others more p first tell body =
      let next = tells_next peer floor low others more p tell body in
      not (subst (TakesLine case.ask walk) (one case.ask.selection.resource text (as_read next.line) line next.tells tells) (takes_next start peer floor low next.line first next.begins))

-- ---- the end

module _ (one : TextsTellOneLine) (case : BetweenData) (start : case.ask.start ≡ FromRevision case.from) (texts : List (List ℕ)) (walk : Walk) (m : Log) (is : IsWalkOf case texts walk m) where
  ends : (log : Log) × EndsWalk case.ask case.from case.rows is.lines m is.kept log
  ends = walks_end case.ask case.from case.rows is.lines m is.kept start is.walked (omega (arith, is.reach, is.within))

  -- What the log tells at the end.
  pub record AreTold (told : List (List ℕ)) : Type 0 where
    pub more : List RevisionData
    pub heard : HearsAll case told walk.to (grown m more)
    pub stands : (key : List ℕ) → row_at (grown m more) case.ask.selection.resource walk.to key ≡ fold (row_told key) (row_at m case.ask.selection.resource (end_of m) key) is.kept

  end_is : end_of ends.0 ≡ walk.to
  end_is = ends.1.end ∙ sym is.reach

  peers : (peer : Log) (floor low : ℕ) (others tail : List Line) (p : ℕ) → HasFirst case.ask.selection case.from case.rows peer →
      TellEach case.ask.selection.resource texts others → told_in tail ≡ [] → TellsBody peer floor low case.ask case.from (others ++ tail) p → (walk.to ≤ p) × IsMirrorOf peer case.ask.selection case.from ends.0
  peers peer floor low others tail p first tell none body =
      let same : others ≡ is.lines = sym (one_body one case.ask.selection.resource texts is.lines others is.tell tell is.free) in
      let all = ends.1.ended.peers peer floor low tail p first none (subst (λ (l : List Line). TellsBody peer floor low case.ask case.from (l ++ tail) p) same body) in
      (omega (arith, end_is, all.0), all.2)

  told_body : TellsBody ends.0 0 0 case.ask case.from is.lines walk.to
  told_body = subst (TellsBody ends.0 0 0 case.ask case.from is.lines) end_is ends.1.ended.body

  heard_here : HearsAll case texts walk.to ends.0
  heard_here = record {
    own = ends.1.ended.own;
    end = end_is;
    log_floor = 0;
    lines = is.lines;
    body = told_body;
    tell = is.tell;
    peers = peers;
  }

  stands_here : (key : List ℕ) → row_at ends.0 case.ask.selection.resource walk.to key ≡ fold (row_told key) (row_at m case.ask.selection.resource (end_of m) key) is.kept
  stands_here key = ap (λ (n : ℕ). row_at ends.0 case.ask.selection.resource n key) (sym end_is) ∙ ends.1.stands key

  pub told_all : AreTold texts
  told_all = record {
    more = ends.1.more;
    heard = subst (HearsAll case texts walk.to) ends.1.grows heard_here;
    stands = λ key. ap (λ (l : Log). row_at l case.ask.selection.resource walk.to key) (sym ends.1.grows) ∙ stands_here key;
  }

  -- a loss is told behind all
  module _ (text : List ℕ) (lost : TellsByValue case.ask.selection.resource text (peer.Error 410)) where
    loss_line : Line
    loss_line = Lost walk.to (walk.to + 1)

    lost_body : TellsBody ends.0 (walk.to + 1) 0 case.ask case.from (is.lines ++ Lost walk.to (walk.to + 1) ∷ []) walk.to
    lost_body =
        let raised : TellsBody ends.0 (walk.to + 1) 0 case.ask case.from is.lines walk.to =
        subst (λ (l : Log). TellsBody l (walk.to + 1) 0 case.ask case.from is.lines walk.to) (grown_none ends.0)
        (tellings_stay ends.0 [] 0 (walk.to + 1) 0 case.ask case.from is.lines walk.to (omega arith) told_body) in
        (tellings_go_on ends.0 (walk.to + 1) 0 case.ask case.from is.lines walk.to raised is.free).loss (walk.to + 1) (record { below = omega arith; cause = inl (omega arith) })

    lost_peers : (there : Log) (floor low : ℕ) (others tail : List Line) (p : ℕ) → HasFirst case.ask.selection case.from case.rows there →
        TellEach case.ask.selection.resource (texts ++ text ∷ []) others → told_in tail ≡ [] → TellsBody there floor low case.ask case.from (others ++ tail) p → (walk.to ≤ p) × IsMirrorOf there case.ask.selection case.from ends.0
    lost_peers there floor low others tail p first tell none body =
        let parts = tell_parts case.ask.selection.resource texts (text ∷ []) others tell in
        let last = one_line case.ask.selection.resource text parts.os parts.rest in
        let whole : others ++ tail ≡ parts.ls ++ last.0 ∷ tail =
        ap (λ (l : List Line). l ++ tail) (parts.parted ∙ ap (λ (l : List Line). parts.ls ++ l) last.1) ∙ append_assoc parts.ls (last.0 ∷ []) tail in
        peers there floor low parts.ls (last.0 ∷ tail) p first parts.first
        (silent last.0 tail (lossy last.0 410 (one case.ask.selection.resource text (as_read last.0) (peer.Error 410) last.2 lost)) none)
        (subst (λ (l : List Line). TellsBody there floor low case.ask case.from l p) whole body)

    heard_lost_here : HearsAll case (texts ++ text ∷ []) walk.to ends.0
    heard_lost_here = record {
      own = ends.1.ended.own;
      end = end_is;
      log_floor = walk.to + 1;
      lines = is.lines ++ Lost walk.to (walk.to + 1) ∷ [];
      body = lost_body;
      tell = tell_append case.ask.selection.resource texts (text ∷ []) is.lines (Lost walk.to (walk.to + 1) ∷ []) is.tell (lost, tt);
      peers = lost_peers;
    }

    pub told_lost : AreTold (texts ++ text ∷ [])
    told_lost = record {
      more = ends.1.more;
      heard = subst (HearsAll case (texts ++ text ∷ []) walk.to) ends.1.grows heard_lost_here;
      stands = λ key. ap (λ (l : Log). row_at l case.ask.selection.resource walk.to key) (sym ends.1.grows) ∙ stands_here key;
    }

    -- and nothing comes behind it
    pub refused_behind : (other : List ℕ) → IsToldByNone case ((texts ++ text ∷ []) ++ other ∷ [])
    refused_behind other there floor low others more p first tell body =
        let outer = tell_parts case.ask.selection.resource (texts ++ text ∷ []) (other ∷ []) others tell in
        let inner = tell_parts case.ask.selection.resource texts (text ∷ []) outer.ls outer.first in
        let l = one_line case.ask.selection.resource text inner.os inner.rest in
        let o = one_line case.ask.selection.resource other outer.os outer.rest in
        let whole : others ++ more ≡ inner.ls ++ l.0 ∷ o.0 ∷ more =
        ap (λ (k : List Line). k ++ more) (outer.parted ∙ ap (λ (k : List Line). k ++ outer.os) (inner.parted ∙ ap (λ (k : List Line). inner.ls ++ k) l.1) ∙ ap (λ (k : List Line). (inner.ls ++ l.0 ∷ []) ++ k) o.1)
        ∙ ap (λ (k : List Line). k ++ more) (append_assoc inner.ls (l.0 ∷ []) (o.0 ∷ []))
        ∙ append_assoc inner.ls (l.0 ∷ o.0 ∷ []) more in
        behind_loss l.0 inner.ls more o.0 (lossy l.0 410 (one case.ask.selection.resource text (as_read l.0) (peer.Error 410) l.2 lost))
        (subst (λ (k : List Line). TellsBody there floor low case.ask case.from k p) whole body)
      where
        behind_loss : (l : Line) (ls tail : List Line) (o : Line) → is_loss l ≡ true → ¬ TellsBody there floor low case.ask case.from (ls ++ l ∷ o ∷ tail) p
        behind_loss (Told t) ls tail o lossy_one told = absurd (let bad : false ≡ true = lossy_one in cc)
        behind_loss (Bookmark at) ls tail o lossy_one told = absurd (let bad : false ≡ true = lossy_one in cc)
        behind_loss (Closing at) ls tail o lossy_one told = absurd (let bad : false ≡ true = lossy_one in cc)
        behind_loss (Lost at n) ls tail o lossy_one told = losses_are_last there floor low case.from case.ask ls at n o tail p start told

-- ---- the beginning

pub begins_walk : (case : BetweenData) (walk : Walk) (m : Log) → case.ask.start ≡ FromRevision case.from → case.from ≤ 2 ^ 62 → IsOwn case.ask.selection case.from case.rows m → end_of m ≡ case.from
    → walk.to ≡ case.from → walk.last ≡ None → Holds walk.rows (row_with case.rows) → IsWalkOf case [] walk m
begins_walk case walk m start within own end to last holds = record {
  kept = [];
  lines = [];
  tell = tt;
  free = refl;
  walked = walks_begin case.ask case.from case.rows m start own end;
  reach = to ∙ sym end;
  within = omega (arith, to, within);
  rows = Holds-same walk.rows _ _ (λ key. (list_is_state case.ask.selection case.from case.rows m own case.from case.rows (omega arith) (omega (arith, end)) own.listing).exact key
      ∙ ap (λ (n : ℕ). row_at m case.ask.selection.resource n key) (sym end)) holds;
  last = subst (IsLastOf []) (sym last) refl;
}
