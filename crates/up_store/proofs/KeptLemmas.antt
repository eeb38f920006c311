-- What a store keeps, as its tables follow the log.
use Rattle.std.proofs.Common.{◌≡◌, ℕ, suc, ◌+◌, ◌-◌, ◌*◌, ◌^◌, ◌<◌, ◌≤◌, inl, inr, List, [], ◌∷◌, ◌++◌, length, get_or, take, drop, map, fold, max, All, refl, sym, ap, ◌∙◌, subst, arith, length-take, length-append}
use Rattle.std.proofs.Math.Seq.{take-nil, drop-nil}
use Rattle.std.proofs.lemmas.Bool.{cases_lt, le-leb, lt-leb}
use Rattle.std.proofs.lemmas.List.{append_assoc, take_all, take_at, drop_all, drop_at, drop-drop, drop-take, drop_more, take-append-le, length-drop, map-append, take_more, get_or-take}
use Rattle.std.proofs.lemmas.List.Elements.{All-drop, All-filter, All-map, All-take, filter-append}
use Rattle.std.proofs.lemmas.List.Kept.{IsNonDecreasingBy-filter}
use Rattle.std.proofs.lemmas.List.Sorted.{IsNonDecreasingBy-take, IsNonDecreasingBy-drop}
use Rattle.std.proofs.lemmas.List.Sums.{fold-append, sum_by-append, sum_by-cons}
use Rattle.std.specs.List.{filter_map, sum_by}
use Rattle.std.specs.List.Sorted.{IsNonDecreasingBy, IsPartitionPoint}
use Rattle.std.specs.Prelude.{nat_le, true, false}
use Rattle.kube_meta.specs.Rows.{RowData, AreRising, row_with}
use Rattle.kube_meta.specs.declared.resources.Resource.{Resource}
use Rattle.rev_front.specs.Passes.{last_or}
use Rattle.rev_log.specs.Changes.{RevisionData}
use Rattle.rev_log.specs.Logs.{Log, end_of, upto, between, grown, AreNumbered}
use Rattle.rev_log.specs.States.{row_next, row_at, row_in_base, IsStateAt}
use Rattle.rev_log.proofs.GrowthLemmas.{upto-end, upto-grown, row_at-grown, row_at-between, between-joined}
use Rattle.up_api.specs.Feeds.{IsHistory, part_of}
use Rattle.up_store.specs.Kept.{rows_of, AreStepped, HoldEach, HaveMade, HaveBegun, Replay, Keeps, IsPlace, changed, with_changes, has_changes, carried, fitting, floor_behind, floor_within}
use Rattle.up_store.specs.Past.{IsOldState, IsOldHistory}
use Rattle.up_store.specs.declared.kept.Kept.{Kept}
use Rattle.up_store.specs.declared.past.OldHistory.{OldHistory}
use Rattle.up_store.specs.declared.past.OldState.{OldState}
use Rattle.up_store.specs.declared.tables.Tables.{Tables}
use Rattle.up_store.proofs.ByteLemmas.{light, fits-all, fits-more, fits-past}
use Rattle.up_store.proofs.ChangedLemmas.{found-at, fold-changed, parts-changed, parted, numbers_rise, low_numbers, high_numbers, AreNumbered-append, AreNumbered-drop}
use Rattle.up_store.proofs.ReplayLemmas.{Replay-made, Replay-begun, Replay-on}

-- ---- the revisions with changes from one number to another

pub changed-joined : (log : Log) (a b c : ℕ) → a ≤ b → b ≤ c → changed log a c ≡ changed log a b ++ changed log b c
changed-joined log a b c first second = ap with_changes (sym (between-joined log a b c first second)) ∙ filter-append has_changes (between log a b) (between log b c)

pub changed-none : (log : Log) (a : ℕ) → changed log a a ≡ []
changed-none log a = ap with_changes (drop_all (a - log.first) (upto log a) (omega (arith, length-take (a - log.first) log.revisions)))

-- all from a number on
rest-is : (log : Log) (from : ℕ) → between log from (end_of log) ≡ drop (from - log.first) log.revisions
rest-is log from = ap (drop (from - log.first)) (upto-end log (end_of log) (omega arith))

between-length : (log : Log) (from : ℕ) → log.first ≤ from → from ≤ end_of log → length (between log from (end_of log)) ≡ end_of log - from
between-length log from begun within = ap length (rest-is log from) ∙ omega (arith, length-drop (from - log.first) log.revisions)

-- those from one number to another, among them
between-in : (log : Log) (from a b : ℕ) → log.first ≤ from → from ≤ a → a ≤ b → between log a b ≡ drop (a - from) (take (b - from) (between log from (end_of log)))
between-in log from a b begun above order =
    let q : ℕ = from - log.first in
    let end : b - log.first ≡ q + (b - from) = omega (arith, begun, above, order) in
    let start : a - log.first ≡ q + (a - from) = omega (arith, begun, above) in
    ap (λ n. drop n (take (b - log.first) log.revisions)) start
    ∙ ap (λ n. drop (q + (a - from)) (take n log.revisions)) end
    ∙ sym (drop-drop (a - from) q (take (q + (b - from)) log.revisions))
    ∙ ap (drop (a - from)) (drop-take q (b - from) log.revisions)
    ∙ ap (λ xs. drop (a - from) (take (b - from) xs)) (sym (rest-is log from))

low : (log : Log) (from at : ℕ) → AreNumbered log.first log.revisions → log.first ≤ at → All (λ r. r.rev ≤ at) (changed log from at)
low log from at numbered begun =
    let all : All (λ r. r.rev ≤ at) (upto log at) = subst (λ n. All (λ r. r.rev ≤ n) (upto log at)) (omega (arith, begun)) (low_numbers log.first (at - log.first) log.revisions numbered) in
    All-filter has_changes (λ r. r.rev ≤ at) (between log from at) (All-drop (λ r. r.rev ≤ at) (from - log.first) (upto log at) all)

pub high : (log : Log) (at : ℕ) → AreNumbered log.first log.revisions → log.first ≤ at → All (λ r. at < r.rev) (changed log at (end_of log))
high log at numbered begun =
    let place : log.first + (at - log.first) ≡ at = omega (arith, begun) in
    let all : All (λ r. at < r.rev) (drop (at - log.first) log.revisions) =
    subst (λ n. All (λ r. n < r.rev) (drop (at - log.first) log.revisions)) place
    (high_numbers (log.first + (at - log.first)) (drop (at - log.first) log.revisions) (AreNumbered-drop log.first (at - log.first) log.revisions numbered)) in
    All-filter has_changes (λ r. at < r.rev) (between log at (end_of log)) (subst (All (λ r. at < r.rev)) (sym (rest-is log at)) all)

-- ---- places

module _ (log : Log) (floor : ℕ) (kept : Kept) (keeps : Keeps log floor kept) where
  pub ordered : IsNonDecreasingBy (λ r. r.rev) kept.revisions.items
  ordered = subst (IsNonDecreasingBy (λ r. r.rev)) (sym keeps.revisions)
      (IsNonDecreasingBy-filter (λ r. r.rev) has_changes (between log kept.from (end_of log))
      (IsNonDecreasingBy-drop (λ r. r.rev) (kept.from - log.first) (upto log (end_of log))
      (IsNonDecreasingBy-take (λ r. r.rev) (end_of log - log.first) log.revisions (numbers_rise log.first log.revisions keeps.numbered))))

  -- those up to a number, and those above it
  parts : (at : ℕ) → kept.from ≤ at → at ≤ end_of log → kept.revisions.items ≡ changed log kept.from at ++ changed log at (end_of log)
  parts at above within = keeps.revisions ∙ changed-joined log kept.from at (end_of log) above within

  pub place : (at n : ℕ) → kept.from ≤ at → at ≤ end_of log → n ≤ length kept.revisions.items →
      IsPartitionPoint (λ r. nat_le r.rev at ≡ true) (λ r. nat_le r.rev at ≡ false) kept.revisions.items n → IsPlace log kept at n
  place at n above within inside point =
      let begun : log.first ≤ at = omega (arith, keeps.begun, above) in
      let pass : All (λ r. nat_le r.rev at ≡ true) (changed log kept.from at) = λ k d less. le-leb _ at (low log kept.from at keeps.numbered begun k d less) in
      let fail : All (λ r. nat_le r.rev at ≡ false) (changed log at (end_of log)) = λ k d less. lt-leb _ at (high log at keeps.numbered begun k d less) in
      let long : n ≡ length (changed log kept.from at) =
      parted (λ r. nat_le r.rev at) (changed log kept.from at) (changed log at (end_of log)) kept.revisions.items n (parts at above within) pass fail point inside in
      record {
        below = ap (take n) (parts at above within) ∙ take_at (changed log kept.from at) (changed log at (end_of log)) n (sym long);
        above = ap (drop n) (parts at above within) ∙ drop_at (changed log kept.from at) (changed log at (end_of log)) n (sym long);
      }

  -- the revision at a place
  pub place-at : (i : ℕ) (r : RevisionData) → i < length kept.revisions.items → r ≡ get_or kept.revisions.items i r → (kept.from < r.rev) × (r.rev ≤ end_of log) × IsPlace log kept r.rev (suc i)
  place-at i r inside is =
      let rest : List RevisionData = between log kept.from (end_of log) in
      let place : log.first + (kept.from - log.first) ≡ kept.from = omega (arith, keeps.begun) in
      let numbered : AreNumbered kept.from rest =
      subst (AreNumbered kept.from) (sym (rest-is log kept.from)) (subst (λ n. AreNumbered n (drop (kept.from - log.first) log.revisions)) place (AreNumbered-drop log.first (kept.from - log.first) log.revisions keeps.numbered)) in
      let at = found-at kept.from i rest r numbered (subst (λ l. i < length l) keeps.revisions inside) (is ∙ ap (λ l. get_or l i r) keeps.revisions) in
      let long : length rest ≡ end_of log - kept.from = between-length log kept.from keeps.begun (omega (arith, keeps.within, keeps.reached)) in
      let within : r.rev ≤ end_of log = omega (arith, at.within, long, keeps.within, keeps.reached) in
      let below : changed log kept.from r.rev ≡ with_changes (take (r.rev - kept.from) rest) =
      ap with_changes (between-in log kept.from kept.from r.rev keeps.begun (omega arith) (omega (arith, at.above))
      ∙ ap (λ n. drop n (take (r.rev - kept.from) rest)) {x = kept.from - kept.from} {y = 0} (omega arith)) in
      let above : changed log r.rev (end_of log) ≡ with_changes (drop (r.rev - kept.from) rest) =
      ap with_changes (between-in log kept.from r.rev (end_of log) keeps.begun (omega (arith, at.above)) within
      ∙ ap (drop (r.rev - kept.from)) (take_all (end_of log - kept.from) rest (omega (arith, long)))) in (
        at.above,
        within,
        record {
          below = ap (take (suc i)) keeps.revisions ∙ sym (below ∙ at.below);
          above = ap (drop (suc i)) keeps.revisions ∙ sym (above ∙ at.rest);
        },
      )

  -- it is the next one with changes behind a number whose place it has
  pub next-at : (at i : ℕ) (r : RevisionData) → i < length kept.revisions.items → r ≡ get_or kept.revisions.items i r → drop i kept.revisions.items ≡ changed log at (end_of log) →
      changed log at (end_of log) ≡ r ∷ changed log r.rev (end_of log)
  next-at at i r inside is here =
      let suc_is : i + 1 ≡ suc i = omega arith in
      sym here ∙ drop_more kept.revisions.items i r inside ∙ ap (λ x. x ∷ drop (i + 1) kept.revisions.items) (sym is)
      ∙ ap (λ n. r ∷ drop n kept.revisions.items) suc_is ∙ ap (λ l. r ∷ l) (place-at i r inside is).2.above

-- the tables follow the log
pub follow : (log : Log) (floor : ℕ) (kept new : Kept) → kept.from ≤ new.from → new.from ≤ floor → new.from ≤ new.last_at → new.last_at ≤ end_of log → new.end ≡ kept.end →
    new.revisions.items ≡ changed log new.from (end_of log) → new.bytes ≡ sum_by carried new.revisions.items → Replay log new.from floor new.floor_rows → Replay log new.last_at (end_of log) new.last_rows →
    Keeps log floor kept → Keeps log floor new
follow log floor kept new later within followed behind end revisions bytes floor_rows last_rows keeps = record {
  numbered = keeps.numbered;
  ends = keeps.ends;
  begun = omega (arith, later, keeps.begun);
  within = within;
  reached = keeps.reached;
  end_is = end ∙ keeps.end_is;
  revisions = revisions;
  bytes = bytes;
  floor_rows = floor_rows;
  followed = followed;
  behind = behind;
  last_rows = last_rows;
}

-- ---- the last rows follow

pub caught : (log : Log) (floor : ℕ) (r : RevisionData) (kept new : Kept) → kept.from < r.rev → r.rev ≤ end_of log → changed log kept.last_at (end_of log) ≡ r ∷ changed log r.rev (end_of log) →
    new ≡ record kept { last_rows = new.last_rows; last_at = r.rev } → HaveMade r kept.last_rows new.last_rows → Keeps log floor kept → Keeps log floor new
caught log floor r kept new above within next rest made keeps =
    let from : new.from ≡ kept.from = ap (λ k. k.from) rest in
    let last : new.last_at ≡ r.rev = ap (λ k. k.last_at) rest in
    let parts : (at : ℕ) → end_of log ≤ at → at ≤ end_of log → changed log kept.last_at at ≡ r ∷ changed log r.rev at =
    λ at later low. subst (λ n. changed log kept.last_at n ≡ r ∷ changed log r.rev n) {x = end_of log} {y = at} (omega (arith, later, low)) next in
    follow log floor kept new (omega (arith, from)) (omega (arith, from, keeps.within)) (omega (arith, from, last, above)) (omega (arith, last, within)) (ap (λ k. k.end) rest)
    (ap (λ k. k.revisions.items) rest ∙ keeps.revisions ∙ ap (λ n. changed log n (end_of log)) (sym from)) (subst (λ (k : Kept). k.bytes ≡ sum_by carried k.revisions.items) (sym rest) keeps.bytes)
    (subst (λ (k : Kept). Replay log k.from floor k.floor_rows) (sym rest) keeps.floor_rows)
    (subst (λ n. Replay log n (end_of log) new.last_rows) (sym last) (Replay-made log kept.last_at r.rev (end_of log) r kept.last_rows new.last_rows parts made keeps.last_rows)) keeps

pub catching : (log : Log) (floor : ℕ) (r : RevisionData) (kept new : Kept) → changed log kept.last_at (end_of log) ≡ r ∷ changed log r.rev (end_of log) →
    new ≡ record kept { last_rows = new.last_rows } → HaveBegun r kept.last_rows new.last_rows → Keeps log floor kept → Keeps log floor new
catching log floor r kept new next rest begun keeps =
    let from : new.from ≡ kept.from = ap (λ k. k.from) rest in
    let last : new.last_at ≡ kept.last_at = ap (λ k. k.last_at) rest in
    let parts : (at : ℕ) → end_of log ≤ at → at ≤ end_of log → changed log kept.last_at at ≡ r ∷ changed log r.rev at =
    λ at later low. subst (λ n. changed log kept.last_at n ≡ r ∷ changed log r.rev n) {x = end_of log} {y = at} (omega (arith, later, low)) next in
    follow log floor kept new (omega (arith, from)) (omega (arith, from, keeps.within)) (omega (arith, from, last, keeps.followed)) (omega (arith, last, keeps.behind)) (ap (λ k. k.end) rest)
    (ap (λ k. k.revisions.items) rest ∙ keeps.revisions ∙ ap (λ n. changed log n (end_of log)) (sym from)) (subst (λ (k : Kept). k.bytes ≡ sum_by carried k.revisions.items) (sym rest) keeps.bytes)
    (subst (λ (k : Kept). Replay log k.from floor k.floor_rows) (sym rest) keeps.floor_rows)
    (subst (λ n. Replay log n (end_of log) new.last_rows) (sym last) (Replay-begun log kept.last_at r.rev (end_of log) r kept.last_rows new.last_rows parts begun keeps.last_rows)) keeps

pub caught-up : (log : Log) (floor : ℕ) (kept new : Kept) → changed log kept.last_at (end_of log) ≡ [] → new ≡ record kept { last_at = kept.end } → Keeps log floor kept → Keeps log floor new
caught-up log floor kept new none rest keeps =
    let from : new.from ≡ kept.from = ap (λ k. k.from) rest in
    let last : new.last_at ≡ end_of log = ap (λ k. k.last_at) rest ∙ keeps.end_is in
    let parts : (at : ℕ) → end_of log ≤ at → at ≤ end_of log → changed log kept.last_at at ≡ changed log (end_of log) at =
    λ at later low. subst (λ n. changed log kept.last_at n ≡ changed log (end_of log) n) {x = end_of log} {y = at} (omega (arith, later, low)) (none ∙ sym (changed-none log (end_of log))) in
    follow log floor kept new (omega (arith, from)) (omega (arith, from, keeps.within)) (omega (arith, from, last, keeps.within, keeps.reached)) (omega (arith, last)) (ap (λ k. k.end) rest)
    (ap (λ k. k.revisions.items) rest ∙ keeps.revisions ∙ ap (λ n. changed log n (end_of log)) (sym from)) (subst (λ (k : Kept). k.bytes ≡ sum_by carried k.revisions.items) (sym rest) keeps.bytes)
    (subst (λ (k : Kept). Replay log k.from floor k.floor_rows) (sym rest) keeps.floor_rows)
    (subst (λ (k : Kept). Replay log k.last_at (end_of log) k.last_rows) (sym rest)
    (subst (λ n. Replay log n (end_of log) kept.last_rows) (sym keeps.end_is) (Replay-on log kept.last_at (end_of log) (end_of log) kept.last_rows parts keeps.last_rows))) keeps

-- ---- the floor's rows follow

module _ (log : Log) (floor n : ℕ) (r : RevisionData) (kept : Kept) (some : 1 ≤ n) (is : r ≡ get_or kept.revisions.items 0 r) (inside : 1 ≤ length kept.revisions.items)
    (place : IsPlace log kept floor n) (keeps : Keeps log floor kept) where
  first-at : (kept.from < r.rev) × (r.rev ≤ end_of log) × IsPlace log kept r.rev 1
  first-at = place-at log floor kept keeps 0 r inside is

  -- the first one is at most the floor
  first-low : r.rev ≤ floor
  first-low =
      let long : 0 < length (changed log kept.from floor) = omega (arith, ap length (sym place.below), length-take n kept.revisions.items, some, inside) in
      let here : get_or (changed log kept.from floor) 0 r ≡ r = ap (λ l. get_or l 0 r) (sym place.below) ∙ get_or-take n kept.revisions.items 0 r (omega (arith, some)) ∙ sym is in
      omega (arith, ap (λ (x : RevisionData). x.rev) here, low log kept.from floor keeps.numbered (omega (arith, keeps.begun, keeps.within)) 0 r long)

  -- and the rest follows it
  first-next : (at : ℕ) → floor ≤ at → at ≤ end_of log → changed log kept.from at ≡ r ∷ changed log r.rev at
  first-next at later within =
      changed-joined log kept.from r.rev at (omega (arith, first-at.0)) (omega (arith, first-low, later))
      ∙ ap (λ l. l ++ changed log r.rev at) (sym first-at.2.below ∙ take_more kept.revisions.items 0 r inside ∙ ap (λ x. x ∷ []) (sym is))

  pub dropping : (new : Kept) → new ≡ record kept { floor_rows = new.floor_rows } → HaveBegun r kept.floor_rows new.floor_rows → Keeps log floor new
  dropping new rest begun =
      let from : new.from ≡ kept.from = ap (λ k. k.from) rest in
      follow log floor kept new (omega (arith, from)) (omega (arith, from, keeps.within)) (omega (arith, from, ap (λ k. k.last_at) rest, keeps.followed)) (omega (arith, ap (λ k. k.last_at) rest, keeps.behind)) (ap (λ k. k.end) rest)
      (ap (λ k. k.revisions.items) rest ∙ keeps.revisions ∙ ap (λ n. changed log n (end_of log)) (sym from)) (subst (λ (k : Kept). k.bytes ≡ sum_by carried k.revisions.items) (sym rest) keeps.bytes)
      (subst (λ n. Replay log n floor new.floor_rows) (sym from) (Replay-begun log kept.from r.rev floor r kept.floor_rows new.floor_rows first-next begun keeps.floor_rows))
      (subst (λ (k : Kept). Replay log k.last_at (end_of log) k.last_rows) (sym rest) keeps.last_rows) keeps

  module _ (new : Kept) (last : kept.last_at ≡ end_of log) (rest : new ≡ record kept { floor_rows = new.floor_rows; from = r.rev; revisions = new.revisions; bytes = new.bytes }) (first : kept.revisions.items ≡ r ∷ new.revisions.items)
      (less : new.bytes ≡ kept.bytes - carried r)
      (made : HaveMade r kept.floor_rows new.floor_rows) where
    from : new.from ≡ r.rev
    from = ap (λ k. k.from) rest

    left : new.revisions.items ≡ changed log r.rev (end_of log)
    left = ap (drop 1) (sym first) ∙ first-at.2.above

    pub dropped : Keeps log floor new
    dropped =
        follow log floor kept new (omega (arith, from, first-at.0)) (omega (arith, from, first-low)) (omega (arith, from, first-at.1, last, ap (λ k. k.last_at) rest)) (omega (arith, ap (λ k. k.last_at) rest, keeps.behind)) (ap (λ k. k.end) rest)
        (left ∙ ap (λ n. changed log n (end_of log)) (sym from))
        (omega (arith, less, keeps.bytes, ap (sum_by carried) first, sum_by-cons carried r new.revisions.items))
        (subst (λ n. Replay log n floor new.floor_rows) (sym from) (Replay-made log kept.from r.rev floor r kept.floor_rows new.floor_rows first-next made keeps.floor_rows))
        (subst (λ (k : Kept). Replay log k.last_at (end_of log) k.last_rows) (sym rest) keeps.last_rows) keeps

    pub dropped-place : IsPlace log new floor (n - 1)
    dropped-place =
        let one : n ≡ suc (n - 1) = omega (arith, some) in
        let front : r ∷ take (n - 1) new.revisions.items ≡ r ∷ changed log r.rev floor =
        ap (take (suc (n - 1))) (sym first) ∙ ap (λ m. take m kept.revisions.items) (sym one) ∙ place.below ∙ first-next floor (omega arith) keeps.reached in
        record {
          below = ap (drop 1) front ∙ ap (λ m. changed log m floor) (sym from);
          above = ap (drop (suc (n - 1))) (sym first) ∙ ap (λ m. drop m kept.revisions.items) (sym one) ∙ place.above;
        }

-- they are at the floor
pub settled : (log : Log) (floor : ℕ) (kept new : Kept) → kept.last_at ≡ kept.end → IsPlace log kept floor 0 → new ≡ record kept { from = floor } → Keeps log floor kept → Keeps log floor new
settled log floor kept new whole place rest keeps =
    let from : new.from ≡ floor = ap (λ k. k.from) rest in
    let last : new.last_at ≡ kept.last_at = ap (λ k. k.last_at) rest in
    let parts : (at : ℕ) → floor ≤ at → at ≤ end_of log → changed log kept.from at ≡ changed log floor at =
    λ at later within. changed-joined log kept.from floor at keeps.within later ∙ ap (λ l. l ++ changed log floor at) (sym place.below) in
    follow log floor kept new (omega (arith, from, keeps.within)) (omega (arith, from)) (omega (arith, from, last, whole, keeps.end_is, keeps.reached)) (omega (arith, last, keeps.behind)) (ap (λ k. k.end) rest)
    (ap (λ k. k.revisions.items) rest ∙ place.above ∙ ap (λ n. changed log n (end_of log)) (sym from)) (subst (λ (k : Kept). k.bytes ≡ sum_by carried k.revisions.items) (sym rest) keeps.bytes)
    (subst (λ (k : Kept). Replay log k.from floor k.floor_rows) (sym rest) (Replay-on log kept.from floor floor kept.floor_rows parts keeps.floor_rows))
    (subst (λ (k : Kept). Replay log k.last_at (end_of log) k.last_rows) (sym rest) keeps.last_rows) keeps

-- ---- how far the floor follows

last-low : (b n : ℕ) (xs : List ℕ) → All (λ x. x ≤ b) xs → n ≤ b → last_or n xs ≤ b
last-low b n [] all low = low
last-low b n (x ∷ xs) all low = last-low b x xs (All-drop (λ x. x ≤ b) 1 (x ∷ xs) all) (all 0 n (omega arith))

last-of : (n x : ℕ) (xs : List ℕ) → last_or n (xs ++ x ∷ []) ≡ x
last-of n x [] = refl
last-of n x (y ∷ xs) = last-of y x xs

module _ (log : Log) (floor : ℕ) (kept : Kept) (history : ℕ) (keeps : Keeps log floor kept) where
  abbrev front : List RevisionData
  front = changed log log.first kept.from

  pub those : with_changes log.revisions ≡ front ++ kept.revisions.items
  those =
      let all : between log log.first (end_of log) ≡ log.revisions =
      ap (λ n. drop n (upto log (end_of log))) {x = log.first - log.first} {y = 0} (omega arith) ∙ upto-end log (end_of log) (omega arith) in
      ap with_changes (sym all) ∙ changed-joined log log.first kept.from (end_of log) keeps.begun (omega (arith, keeps.within, keeps.reached)) ∙ ap (λ l. front ++ l) (sym keeps.revisions)

  count : length (with_changes log.revisions) ≡ length front + length kept.revisions.items
  count = ap length those ∙ length-append front kept.revisions.items

  -- where fewer are kept, the floor stays
  pub floor-low : length kept.revisions.items ≤ history → max floor 0 ≡ max floor (floor_behind history log.revisions)
  floor-low few =
      let m : ℕ = length (with_changes log.revisions) - history in
      let taken : take m (with_changes log.revisions) ≡ take m front = ap (take m) those ∙ take-append-le m front kept.revisions.items (omega (arith, count, few)) in
      let all : All (λ r. r.rev ≤ floor) (take m front) =
      All-take (λ r. r.rev ≤ floor) m front (λ k d inside. omega (arith, low log log.first kept.from keeps.numbered keeps.begun k d inside, keeps.within)) in
      let least : last_or 0 (map (λ (r : RevisionData). r.rev) (take m front)) ≤ floor = last-low floor 0 (map (λ (r : RevisionData). r.rev) (take m front)) (All-map (λ x. x ≤ floor) (λ (r : RevisionData). r.rev) (take m front) all) (omega arith) in
      omega (arith, least, ap (λ l. last_or 0 (map (λ (r : RevisionData). r.rev) l)) taken)

  -- and else it is one of them
  pub floor-high : (r : RevisionData) → history < length kept.revisions.items → r ≡ get_or kept.revisions.items (length kept.revisions.items - history - 1) r → r.rev ≡ floor_behind history log.revisions
  floor-high r many is =
      let i : ℕ = length kept.revisions.items - history - 1 in
      let m : length (with_changes log.revisions) - history ≡ length front + (i + 1) = omega (arith, count, many) in
      let taken : take (length (with_changes log.revisions) - history) (with_changes log.revisions) ≡ (front ++ take i kept.revisions.items) ++ r ∷ [] =
      ap (λ l. take (length (with_changes log.revisions) - history) l) those ∙ ap (λ n. take n (front ++ kept.revisions.items)) m
      ∙ take-past front kept.revisions.items (i + 1)
      ∙ ap (λ l. front ++ l) (take_more kept.revisions.items i r (omega (arith, many)) ∙ ap (λ x. take i kept.revisions.items ++ x ∷ []) (sym is))
      ∙ sym (append_assoc front (take i kept.revisions.items) (r ∷ [])) in
      sym (ap (λ l. last_or 0 (map (λ (x : RevisionData). x.rev) l)) taken ∙ ap (last_or 0) (map-append (λ (x : RevisionData). x.rev) (front ++ take i kept.revisions.items) (r ∷ []))
      ∙ last-of 0 r.rev (map (λ (x : RevisionData). x.rev) (front ++ take i kept.revisions.items)))
    where
      take-past : (xs ys : List RevisionData) (n : ℕ) → take (length xs + n) (xs ++ ys) ≡ xs ++ take n ys
      take-past [] ys n = ap (λ m. take m ys) {x = 0 + n} {y = n} (omega arith)
      take-past (x ∷ xs) ys n = ap (λ m. take m (x ∷ (xs ++ ys))) {x = length (x ∷ xs) + n} {y = suc (length xs + n)} (omega arith) ∙ ap (λ l. x ∷ l) (take-past xs ys n)

-- where so many of what is kept fit, no fewer of all do; and where not all of them do, no others
pub floor-within : (log : Log) (floor : ℕ) (kept : Kept) (bytes n result : ℕ) → n ≡ fitting bytes kept.revisions.items → max floor result ≡ max floor (floor_behind n log.revisions) → Keeps log floor kept →
    max floor result ≡ max floor (floor_within bytes log.revisions)
floor-within log floor kept bytes n result many is keeps =
    let all = ap (fitting bytes) (those log floor kept 0 keeps) in
    let before : List RevisionData = changed log log.first kept.from in
    elim (cases_lt bytes (sum_by carried kept.revisions.items)) [
      | inl high ↦ is ∙ ap (λ m. max floor (floor_behind m log.revisions)) (many ∙ sym (fits-past bytes before kept.revisions.items high) ∙ sym all)
      | inr low ↦
          is ∙ sym (floor-low log floor kept n keeps (omega (arith, many, fits-all bytes kept.revisions.items low)))
          ∙ floor-low log floor kept (fitting bytes (with_changes log.revisions)) keeps (omega (arith, all, fits-more bytes before kept.revisions.items low))
    ]

-- they carry little enough to be summed
pub carries-little : (log : Log) (floor : ℕ) (kept : Kept) → Keeps log floor kept → kept.bytes ≤ 2 ^ 62 * 18446744073709551615
carries-little log floor kept keeps =
    omega (
      arith,
      keeps.bytes,
      ap (sum_by carried) keeps.revisions,
      light (between log kept.from (end_of log)),
      between-length log kept.from keeps.begun (omega (arith, keeps.within, keeps.reached)),
      keeps.ends,
    )

-- ---- what is read

-- the row of a key at the log's end
pub row-kept : (log : Log) (floor : ℕ) (kept : Kept) (resource : Resource) (key : List ℕ) → kept.last_at ≡ kept.end → Keeps log floor kept →
    row_with (rows_of kept.last_rows resource) key ≡ row_at log resource (end_of log) key
row-kept log floor kept resource key whole keeps =
    let last : kept.last_at ≡ end_of log = whole ∙ keeps.end_is in
    let none : changed log kept.last_at (end_of log) ≡ [] = ap (λ n. changed log n (end_of log)) last ∙ changed-none log (end_of log) in
    ap (fold (row_next resource key) (row_with (rows_of kept.last_rows resource) key)) {x = []} (sym none)
    ∙ fold-changed resource key (row_with (rows_of kept.last_rows resource) key) (between log kept.last_at (end_of log))
    ∙ keeps.last_rows.replays resource key (end_of log) (omega arith) (omega arith)

-- what the rows at the log's end are made of
pub old-last : (log : Log) (floor : ℕ) (kept : Kept) (resource : Resource) (old : OldState) → kept.last_at ≡ kept.end →
    old.resource ≡ resource → old.rows ≡ rows_of kept.last_rows resource → old.revisions.items ≡ [] → Keeps log floor kept → IsOldState log resource (end_of log) old
old-last log floor kept resource old whole same rows none keeps = record {
  resource_is = same;
  rising = subst AreRising (sym rows) (keeps.last_rows.rising resource);
  leaves = λ key.
      ap (fold (row_next resource key) (row_with old.rows key)) none ∙ ap (λ xs. row_with xs key) rows
      ∙ row-kept log floor kept resource key whole keeps;
}

-- and those that so many revisions leave of the floor's
pub old-after : (log : Log) (floor at : ℕ) (kept : Kept) (resource : Resource) (many : ℕ) (old : OldState) →
    old.resource ≡ resource → old.rows ≡ rows_of kept.floor_rows resource → old.revisions.items ≡ drop 0 (take many kept.revisions.items) → floor ≤ at → at ≤ end_of log →
    IsPlace log kept at many → Keeps log floor kept → IsOldState log resource at old
old-after log floor at kept resource many old same rows are later within place keeps =
    let parts : old.revisions.items ≡ changed log kept.from at = are ∙ place.below in
    record {
      resource_is = same;
      rising = subst AreRising (sym rows) (keeps.floor_rows.rising resource);
      leaves = λ key.
          ap (λ xs. fold (row_next resource key) (row_with xs key) old.revisions.items) rows
          ∙ ap (fold (row_next resource key) (row_with (rows_of kept.floor_rows resource) key)) parts
          ∙ fold-changed resource key (row_with (rows_of kept.floor_rows resource) key) (between log kept.from at)
          ∙ keeps.floor_rows.replays resource key at later within;
    }

-- what a history is made of
pub old-history : (log : Log) (floor : ℕ) (kept : Kept) (resource : Resource) (from upto start len : ℕ) (old : OldHistory) → floor ≤ from → from ≤ upto →
    old.floor ≡ from → old.upto ≡ upto → upto ≡ end_of log → len ≡ length kept.revisions.items → IsOldState log resource from old.state →
    old.revisions.items ≡ drop start (take len kept.revisions.items) → IsPlace log kept from start → Keeps log floor kept → IsOldHistory log from resource old
old-history log floor kept resource from upto start len old above order floor_is upto_is end whole state are place keeps =
    let revisions : old.revisions.items ≡ changed log from (end_of log) =
    are ∙ ap (drop start) (take_all len kept.revisions.items (omega (arith, whole))) ∙ place.above in
    record {
      begun = omega (arith, keeps.begun, keeps.within, above, floor_is);
      kept = omega (arith, floor_is);
      ordered = omega (arith, order, floor_is, upto_is);
      within = omega (arith, upto_is, end);
      state = subst (λ n. IsOldState log resource n old.state) (sym floor_is) state;
      revisions = revisions ∙ ap (λ n. changed log n (end_of log)) (sym floor_is) ∙ ap (changed log old.floor) (sym (upto_is ∙ end));
    }

-- ---- what is made of that

-- a state
pub state-made : (log : Log) (resource : Resource) (at : ℕ) (old : OldState) (revisions : List RevisionData) (rows : List RowData) → revisions ≡ old.revisions.items →
    AreStepped old.rows rows (λ key row. fold (row_next old.resource key) row revisions) → IsOldState log resource at old → IsStateAt log resource at rows
state-made log resource at old revisions rows are stepped is = record {
  rising = stepped.rising is.rising;
  exact = λ key.
      stepped.reads key ∙ ap (fold (row_next old.resource key) (row_with old.rows key)) are
      ∙ ap (λ r. fold (row_next r key) (row_with old.rows key) old.revisions.items) is.resource_is ∙ is.leaves key;
}

-- a history
pub history-made : (log : Log) (log_floor : ℕ) (resource : Resource) (old : OldHistory) (copies : List RevisionData) (rows : List RowData) (parts : List RevisionData) → copies ≡ old.revisions.items →
    parts ≡ filter_map (part_of old.state.resource) copies → ((log : Log) (resource : Resource) (at : ℕ) → IsOldState log resource at old.state → IsStateAt log resource at rows) →
    IsOldHistory log log_floor resource old → IsHistory log log_floor resource (record { floor = old.floor; rows = rows; revisions = parts; upto = old.upto })
history-made log log_floor resource old copies rows parts are found states is = record {
  begun = is.begun;
  kept = is.kept;
  ordered = is.ordered;
  within = is.within;
  state = states log resource old.floor is.state;
  parts = found ∙ ap (filter_map (part_of old.state.resource)) (are ∙ is.revisions) ∙ parts-changed old.state.resource (between log old.floor old.upto)
      ∙ ap (λ r. filter_map (part_of r) (between log old.floor old.upto)) is.state.resource_is;
}

-- ---- the log and its floor grow

grown-end : (log : Log) (more : List RevisionData) → end_of (grown log more) ≡ end_of log + length more
grown-end log more = omega (arith, length-append log.revisions more)

-- the revisions of the longer log from one number up to another above the shorter log's end
grown-between : (log : Log) (more : List RevisionData) (from at : ℕ) → log.first ≤ from → from ≤ end_of log → end_of log ≤ at →
    between (grown log more) from at ≡ between log from (end_of log) ++ between (grown log more) (end_of log) at
grown-between log more from at begun within past =
    sym (between-joined (grown log more) from (end_of log) at within past)
    ∙ ap (λ l. drop (from - log.first) l ++ between (grown log more) (end_of log) at) (upto-grown log more (end_of log) (omega arith))

grown-row : (log : Log) (more : List RevisionData) (resource : Resource) (key : List ℕ) (at : ℕ) → end_of log ≤ at →
    fold (row_next resource key) (row_at log resource (end_of log) key) (between (grown log more) (end_of log) at) ≡ row_at (grown log more) resource at key
grown-row log more resource key at past =
    ap (λ row. fold (row_next resource key) row (between (grown log more) (end_of log) at)) (sym (row_at-grown log more resource (end_of log) key (omega arith)))
    ∙ sym (row_at-between (grown log more) resource key (end_of log) at past)

grown-replay : (log : Log) (more : List RevisionData) (from least next : ℕ) (tables : Tables) → log.first ≤ from → from ≤ end_of log → least ≤ end_of log → least ≤ next →
    Replay log from least tables → Replay (grown log more) from next tables
grown-replay log more from least next tables begun within low later was = record {
  rising = was.rising;
  replays = λ resource key at above below. elim (cases_lt (end_of log) at) [
    | inr before ↦
        ap (λ xs. fold (row_next resource key) (row_with (rows_of tables resource) key) (drop (from - log.first) xs)) (upto-grown log more at before)
        ∙ was.replays resource key at (omega (arith, later, above)) before ∙ sym (row_at-grown log more resource at key before)
    | inl after ↦
        ap (fold (row_next resource key) (row_with (rows_of tables resource) key)) (grown-between log more from at begun within (omega (arith, after)))
        ∙ fold-append (row_next resource key) (row_with (rows_of tables resource) key) (between log from (end_of log)) (between (grown log more) (end_of log) at)
        ∙ ap (λ row. fold (row_next resource key) row (between (grown log more) (end_of log) at)) (was.replays resource key (end_of log) low (omega arith))
        ∙ grown-row log more resource key at (omega (arith, after))
  ];
}

-- more revisions
pub keeps-grown : (log : Log) (floor : ℕ) (more : List RevisionData) (kept new : Kept) → end_of log + length more ≤ 2 ^ 62 → AreNumbered (end_of log) more →
    new ≡ record kept { revisions = new.revisions; bytes = new.bytes; end = new.end } → new.end ≡ end_of log + length more → new.revisions.items ≡ kept.revisions.items ++ with_changes more →
    new.bytes ≡ kept.bytes + sum_by carried (with_changes more) →
    Keeps log floor kept → Keeps (grown log more) floor new
keeps-grown log floor more kept new room numbered rest end_is items bytes keeps =
    let from : new.from ≡ kept.from = ap (λ k. k.from) rest in
    let last_at : new.last_at ≡ kept.last_at = ap (λ k. k.last_at) rest in
    let end : end_of (grown log more) ≡ end_of log + length more = grown-end log more in
    let last : between (grown log more) (end_of log) (end_of (grown log more)) ≡ more =
    ap (drop (end_of log - log.first)) (upto-end (grown log more) (end_of (grown log more)) (omega arith)) ∙ drop_at log.revisions more (end_of log - log.first) (omega arith) in
    let parts : changed (grown log more) kept.from (end_of (grown log more)) ≡ changed log kept.from (end_of log) ++ with_changes more =
    ap with_changes (grown-between log more kept.from (end_of (grown log more)) keeps.begun (omega (arith, keeps.within, keeps.reached)) (omega (arith, end)))
    ∙ filter-append has_changes (between log kept.from (end_of log)) (between (grown log more) (end_of log) (end_of (grown log more)))
    ∙ ap (λ l. changed log kept.from (end_of log) ++ with_changes l) last in
    let floor_rows : Replay (grown log more) kept.from floor kept.floor_rows =
    grown-replay log more kept.from floor floor kept.floor_rows keeps.begun (omega (arith, keeps.within, keeps.reached)) keeps.reached (omega arith) keeps.floor_rows in
    let last_rows : Replay (grown log more) kept.last_at (end_of (grown log more)) kept.last_rows =
    grown-replay log more kept.last_at (end_of log) (end_of (grown log more)) kept.last_rows (omega (arith, keeps.begun, keeps.followed)) keeps.behind (omega arith) (omega (arith, end)) keeps.last_rows in
    record {
      numbered = AreNumbered-append log.first log.revisions more keeps.numbered numbered;
      ends = omega (arith, end, room);
      begun = omega (arith, from, keeps.begun);
      within = omega (arith, from, keeps.within);
      reached = omega (arith, end, keeps.reached);
      end_is = end_is ∙ sym end;
      revisions = items ∙ ap (λ xs. xs ++ with_changes more) keeps.revisions ∙ sym parts ∙ ap (λ n. changed (grown log more) n (end_of (grown log more))) (sym from);
      bytes = bytes ∙ ap (λ n. n + sum_by carried (with_changes more)) keeps.bytes ∙ sym (sum_by-append carried kept.revisions.items (with_changes more)) ∙ ap (sum_by carried) (sym items);
      floor_rows = subst (λ (k : Kept). Replay (grown log more) k.from floor k.floor_rows) (sym rest) floor_rows;
      followed = omega (arith, from, last_at, keeps.followed);
      behind = omega (arith, last_at, end, keeps.behind);
      last_rows = subst (λ (k : Kept). Replay (grown log more) k.last_at (end_of (grown log more)) k.last_rows) (sym rest) last_rows;
    }

-- a higher floor
pub keeps-raised : (log : Log) (floor next : ℕ) (kept : Kept) → floor ≤ next → next ≤ end_of log → Keeps log floor kept → Keeps log next kept
keeps-raised log floor next kept higher within keeps = record {
  numbered = keeps.numbered;
  ends = keeps.ends;
  begun = keeps.begun;
  end_is = keeps.end_is;
  revisions = keeps.revisions;
  bytes = keeps.bytes;
  followed = keeps.followed;
  behind = keeps.behind;
  last_rows = keeps.last_rows;
  within = omega (arith, keeps.within, higher);
  reached = within;
  floor_rows = record {
    rising = keeps.floor_rows.rising;
    replays = λ resource key at above below. keeps.floor_rows.replays resource key at (omega (arith, above, higher)) below;
  };
}

-- a log without revisions
abbrev pub opening : List RowData → ℕ → Log
opening base first = record { first = first; base = base; revisions = [] }

opening-between : (base : List RowData) (first a b : ℕ) → between (opening base first) a b ≡ []
opening-between base first a b = rw (take-nil, drop-nil) refl

opening-row : (base : List RowData) (first : ℕ) (resource : Resource) (at : ℕ) (key : List ℕ) → row_at (opening base first) resource at key ≡ row_in_base base resource key
opening-row base first resource at key = rw take-nil refl

opening-replay : (base : List RowData) (first from least : ℕ) (tables : Tables) → HoldEach tables (row_in_base base) → Replay (opening base first) from least tables
opening-replay base first from least tables holds = record {
  rising = λ resource. (holds resource).rising;
  replays = λ resource key at above below.
      ap (fold (row_next resource key) (row_with (rows_of tables resource) key)) (opening-between base first from at)
      ∙ (holds resource).reads key ∙ sym (opening-row base first resource at key);
}

-- what is kept of it
pub keeps-begun : (base : List RowData) (first : ℕ) (kept : Kept) → first ≤ 2 ^ 62 → kept.from ≡ first → kept.end ≡ first → kept.last_at ≡ first → kept.revisions.items ≡ [] → kept.bytes ≡ 0 →
    HoldEach kept.floor_rows (row_in_base base) → HoldEach kept.last_rows (row_in_base base) → Keeps (opening base first) first kept
keeps-begun base first kept fits from end last_at items bytes floor_rows last_rows = record {
  numbered = tt;
  ends = omega arith;
  begun = omega (arith, from);
  within = omega (arith, from);
  reached = omega arith;
  end_is = omega (arith, end);
  revisions = items ∙ sym (ap with_changes (opening-between base first kept.from (end_of (opening base first))));
  bytes = bytes ∙ ap (sum_by carried) (sym items);
  floor_rows = opening-replay base first kept.from first kept.floor_rows floor_rows;
  followed = omega (arith, from, last_at);
  behind = omega (arith, last_at);
  last_rows = opening-replay base first kept.last_at (end_of (opening base first)) kept.last_rows last_rows;
}
