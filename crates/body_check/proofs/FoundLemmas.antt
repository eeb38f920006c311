-- What a record is judged to be.
use Rattle.std.proofs.Common.{◌≡◌, ℕ, zero, suc, ◌+◌, ◌-◌, ◌*◌, ◌^◌, ◌<◌, ◌≤◌, ◌⊎◌, Bool, true, false, IsTrue, List, [], ◌∷◌, ◌++◌, length, take, drop, fold, get_or, Option, Some, None, IfSome, All, Result, Ok, Err, bytes_eq, refl, sym, ap, ◌∙◌, subst, append_assoc, inl, inr, arith}
use Rattle.std.specs.Prelude.{AllPairs, count_by, nat_le, filter, nat_eq, nat_lt}
use Rattle.std.specs.List.{AllByRecursion}
use Rattle.std.specs.BTreeMap.{BTreeMap, values}
use Rattle.std.proofs.lemmas.Bool.{cases_Bool, cases_lt, le-leb, lt-leb, ne_eqb, lt-ltb}
use Rattle.std.proofs.lemmas.List.{length-append, append-nil}
use Rattle.std.proofs.lemmas.List.Sums.{length-filter}
use Rattle.std.proofs.lemmas.List.Elements.{recursion_from_All, All-from_recursion, All-append, All-weaker, All-nil, All-push}
use Rattle.kube_meta.specs.declared.resources.Resource.{Resource}
use Rattle.kube_meta.specs.declared.resources.Resource.TheVariants.{Pods}
use Rattle.kube_meta.specs.Rows.{RowData, AreRising, row_with}
use Rattle.rev_log.specs.Changes.{RevisionData}
use Rattle.rev_log.specs.Logs.{Log, IsLog, grown, end_of}
use Rattle.rev_log.specs.Rows.{Holds}
use Rattle.rev_log.specs.States.{row_at, IsStateAt}
use Rattle.rev_log.proofs.MapLemmas.{values_rise, row_with-values, take_all}
use Rattle.select_all.specs.declared.selection.Selection.{Selection}
use Rattle.select_all.specs.Selecting.{selects}
use Rattle.select_all.specs.Listings.{IsListing}
use Rattle.select_all.proofs.EventLaws.{all_append, all_weaker}
use Rattle.select_all.proofs.ListingLaws.{listings_are_kept}
use Rattle.watch_rules.specs.declared.starts.Start.TheVariants.{FromRevision}
use Rattle.watch_rules.specs.Bodies.{Line, TellsBody}
use Rattle.watch_rules.proofs.LineLemmas.{tellings_stay}
use Rattle.mirror_law.specs.Mirrors.{IsMirrorOf}
use Rattle.mirror_log.specs.Bridges.{MayBeOfOneLog, Bridges}
use Rattle.watch_record.specs.Between.{LaterData, BetweenData, IsBetweenRead, IsLaterRead}
use Rattle.body_check.specs.declared.verdict.Verdict.{Verdict}
use Rattle.body_check.specs.declared.verdict.Verdict.TheVariants.{Lawful, BadLine, BadList}
use Rattle.body_check.specs.Lists.{IsListedAt, TellEach, IsOfSomeLog, cut, IsOfNone, held_at, IsAllTold, IsBrokenBy, IsAgainst, IsBadAt, IsJudged, JudgementsAreOne}
use Rattle.body_check.specs.Heard.{HearsAll, IsToldByNone, AreOnward, HavePassed, HasOther, CanFollow, CannotFollow, IsFirstAgainst, ReachesList}
use Rattle.body_check.specs.Spans.{LeadsUp}
use Rattle.body_check.specs.Turns.{MayStand}
use Rattle.body_check.specs.Walks.{IsOwn, HasFirst}
use Rattle.mirror_law.proofs.ListLemmas.{none_kept}
use Rattle.body_check.proofs.BridgeLemmas.{bridges_lead}
use Rattle.body_check.proofs.HeardLemmas.{AreParted, tell_parts, listed_on}
use Rattle.body_check.proofs.SpanLemmas.{lists_may_follow}
use Rattle.body_check.proofs.WalkLemmas.{list_is_state, state_is_list}

-- ---- texts

all_texts : (texts : List (List ℕ)) → take (length texts) texts ≡ texts
all_texts texts = take_all texts (length texts) (omega arith)

-- a record that some log tells has a log with its first list
pub first_of : (case : BetweenData) (p : ℕ) (is : IsOfSomeLog case p) → HasFirst case.ask.selection case.from case.rows is.log
first_of case p is = record { is = is.lawful; begun = is.first.begun; reached = is.first.reached; listing = is.first.listing }

-- ---- where the lines are broken

-- the first texts begin so
prefix : (n m : ℕ) (texts : List (List ℕ)) → n ≤ m → (rest : List (List ℕ)) × (take m texts ≡ take n texts ++ rest)
prefix zero m texts order = (take m texts, refl)
prefix (suc n) zero texts order = absurd (omega (arith, order))
prefix (suc n) (suc m) [] order = ([], refl)
prefix (suc n) (suc m) (x ∷ texts) order =
    let more = prefix n m texts (omega (arith, order)) in
    (more.0, ap (λ (l : List (List ℕ)). x ∷ l) more.1)

-- what is refused at once is refused with more
refused_more : (case : BetweenData) (n m p : ℕ) (later : List LaterData) → IsToldByNone case (take n case.texts) → n ≤ m → ¬ IsOfSomeLog (cut case m later) p
refused_more case n m p later refused order is =
    let more = prefix n m case.texts order in
    let parts = tell_parts case.ask.selection.resource (take n case.texts) more.0 is.lines (subst (λ (t : List (List ℕ)). TellEach case.ask.selection.resource t is.lines) more.1 is.texts) in
    refused is.log is.log_floor is.low parts.ls parts.os p (first_of (cut case m later) p is) parts.first
    (subst (λ (l : List Line). TellsBody is.log is.log_floor is.low case.ask case.from l p) parts.parted is.body)

-- what the log tells, with these later lists
of_log : (case : BetweenData) (texts : List (List ℕ)) (n to : ℕ) (log : Log) → take n case.texts ≡ texts → HearsAll case texts to log → IsOfSomeLog (cut case n []) to
of_log case texts n to log same heard = record {
  log = log;
  log_floor = heard.log_floor;
  low = 0;
  lawful = heard.own.log;
  first = record { begun = heard.own.begun; reached = heard.own.reached; listing = heard.own.listing };
  later = All-nil (λ list. IsListedAt log case.ask.selection list.rows list.at);
  lines = heard.lines;
  body = heard.body;
  texts = subst (λ (t : List (List ℕ)). TellEach case.ask.selection.resource t heard.lines) (sym same) heard.tell;
}

pub broken_by : (case : BetweenData) (n to : ℕ) (log : Log) → n < length case.texts → HearsAll case (take n case.texts) to log → IsToldByNone case (take (n + 1) case.texts) → IsBrokenBy case n
broken_by case n to log inside heard refused = record {
  none = λ p is. refused_more case (n + 1) (length case.texts) p [] refused (omega (arith, inside)) is;
  within = omega (arith, inside);
  position = to;
  begun = of_log case (take n case.texts) n to log refl heard;
  greatest = λ m p within is. elim (cases_lt n m) [
    | inl more ↦ absurd (refused_more case (n + 1) m p [] refused (omega (arith, more)) is)
    | inr few ↦ few
  ];
}

-- ---- lists in their order

pub onward_all : (from : ℕ) (lists : List LaterData) → All (IsLaterRead from) lists → AllPairs (λ a b. a.at ≤ b.at) lists → AreOnward from lists
onward_all from lists read ordered = go from lists (all_weaker (IsLaterRead from) (λ l. (from ≤ l.at) × (l.at ≤ 2 ^ 62)) (λ l r. (r.onward, r.within)) lists (recursion_from_All (IsLaterRead from) lists read)) ordered
  where
    rest : (l : LaterData) (more : List LaterData) → AllPairs (λ (a b : LaterData). a.at ≤ b.at) (l ∷ more) → AllPairs (λ (a b : LaterData). a.at ≤ b.at) more
    rest l more pairs = λ i j d lt inside. pairs (suc i) (suc j) d (omega (arith, lt)) (omega (arith, inside))

    heads : (l : LaterData) (more : List LaterData) → AllPairs (λ (a b : LaterData). a.at ≤ b.at) (l ∷ more) → All (λ (x : LaterData). l.at ≤ x.at) more
    heads l more pairs = λ k d inside. pairs 0 (suc k) d (omega arith) (omega (arith, inside))

    go : (low : ℕ) (ls : List LaterData) → AllByRecursion (λ (l : LaterData). (low ≤ l.at) × (l.at ≤ 2 ^ 62)) ls → AllPairs (λ (a b : LaterData). a.at ≤ b.at) ls → AreOnward low ls
    go low [] all pairs = tt
    go low (l ∷ more) all pairs =
        (all.0.0, all.0.1, go l.at more (both more (recursion_from_All (λ (x : LaterData). l.at ≤ x.at) more (heads l more pairs)) all.1) (rest l more pairs))
      where
        both : (xs : List LaterData) → AllByRecursion (λ (x : LaterData). l.at ≤ x.at) xs → AllByRecursion (λ (x : LaterData). (low ≤ x.at) × (x.at ≤ 2 ^ 62)) xs
            → AllByRecursion (λ (x : LaterData). (l.at ≤ x.at) × (x.at ≤ 2 ^ 62)) xs
        both [] a b = tt
        both (x ∷ xs) a b = ((a.0, b.0.1), both xs a.1 b.1)

-- how many stand at or below a revision
above_all : (to : ℕ) (lists : List LaterData) → AreOnward (to + 1) lists → AllByRecursion (λ l. nat_le l.at to ≡ false) lists
above_all to lists onward = go (to + 1) lists (omega arith) onward
  where
    go : (from : ℕ) (ls : List LaterData) → to < from → AreOnward from ls → AllByRecursion (λ (l : LaterData). nat_le l.at to ≡ false) ls
    go from [] above on = tt
    go from (l ∷ ls) above on = (lt-leb l.at to (omega (arith, above, on.0)), go l.at ls (omega (arith, above, on.0)) on.2)

count_low : (to : ℕ) (gone left : List LaterData) → AllByRecursion (λ l. l.at ≤ to) gone → AreOnward (to + 1) left → held_at to (gone ++ left) ≡ length gone
count_low to gone left low high = sym (length-filter (λ (l : LaterData). nat_le l.at to) (gone ++ left)) ∙ counted gone low
  where
    counted : (xs : List LaterData) → AllByRecursion (λ (l : LaterData). l.at ≤ to) xs → length (filter (λ (l : LaterData). nat_le l.at to) (xs ++ left)) ≡ length xs
    counted [] all = ap length (none_kept (λ (l : LaterData). nat_le l.at to) left (above_all to left high))
    counted (x ∷ xs) all = rw (le-leb x.at to all.0) (ap suc (counted xs all.1))

-- ---- a list against the lines

-- the first list that isn't what the log has at its revision
pub against : (case : BetweenData) (to : ℕ) (log : Log) (place : ℕ) → HearsAll case case.texts to log → HasOther case log place → IsAgainst case place
against case to log place heard failed = record {
  before = failed.gone;
  bad = failed.bad;
  behind = failed.behind;
  later_are = failed.parted;
  place_is = failed.placed;
  position = to;
  told = record {
    log = log;
    log_floor = heard.log_floor;
    low = 0;
    lawful = heard.own.log;
    first = record { begun = heard.own.begun; reached = heard.own.reached; listing = heard.own.listing };
    later = failed.listed;
    lines = heard.lines;
    body = heard.body;
    texts = subst (λ (t : List (List ℕ)). TellEach case.ask.selection.resource t heard.lines) (sym (all_texts case.texts)) heard.tell;
  };
  none = none;
}
  where
    none : (p : ℕ) → ¬ IsOfSomeLog (cut case (length case.texts) (failed.gone ++ failed.bad ∷ [])) p
    none p is =
        let tell : TellEach case.ask.selection.resource case.texts is.lines = subst (λ (t : List (List ℕ)). TellEach case.ask.selection.resource t is.lines) (all_texts case.texts) is.texts in
        let mirrors : IsMirrorOf is.log case.ask.selection case.from log =
        (heard.peers is.log is.log_floor is.low is.lines [] p (first_of (cut case (length case.texts) (failed.gone ++ failed.bad ∷ [])) p is) tell refl
        (subst (λ (l : List Line). TellsBody is.log is.log_floor is.low case.ask case.from l p) (sym (append-nil is.lines)) is.body)).1 in
        let listed : IsListedAt is.log case.ask.selection failed.bad.rows failed.bad.at = last_of failed.gone failed.bad [] (recursion_from_All (λ l. IsListedAt is.log case.ask.selection l.rows l.at) (failed.gone ++ failed.bad ∷ []) is.later) in
        failed.differs (state_is_list case.ask.selection case.from case.rows log heard.own failed.bad.at failed.bad.rows failed.begun failed.reached
        ((mirrors.states failed.bad.at failed.bad.rows failed.begun failed.reached).1 listed.listing))
      where
        last_of : (xs : List LaterData) (x : LaterData) (ys : List LaterData) → AllByRecursion (λ (l : LaterData). IsListedAt is.log case.ask.selection l.rows l.at) (xs ++ x ∷ ys) → IsListedAt is.log case.ask.selection x.rows x.at
        last_of [] x ys all = all.0
        last_of (y ∷ xs) x ys all = last_of xs x ys all.1

-- ---- lists above

-- the log with the first list above
module _ (case : BetweenData) (to at : ℕ) (gone : List LaterData) (old : List RowData) (m : Log) (up : ReachesList case to gone at old m) (list : LaterData) where
  listed_last : (more : List LaterData) (log : Log) → All (λ l. IsListedAt log case.ask.selection l.rows l.at) (gone ++ list ∷ more) → IsListedAt log case.ask.selection list.rows list.at
  listed_last more log all = at_last gone (recursion_from_All (λ l. IsListedAt log case.ask.selection l.rows l.at) (gone ++ list ∷ more) all)
    where
      at_last : (xs : List LaterData) → AllByRecursion (λ (l : LaterData). IsListedAt log case.ask.selection l.rows l.at) (xs ++ list ∷ more) → IsListedAt log case.ask.selection list.rows list.at
      at_last [] all = all.0
      at_last (x ∷ xs) all = at_last xs all.1

  goes_up : at ≤ list.at → list.at ≤ 2 ^ 62 → CanFollow case.ask.selection at old list → (next : Log) × ReachesList case to (gone ++ list ∷ []) list.at list.rows next
  goes_up onward within can =
      let s : Selection = case.ask.selection in
      let led = bridges_lead s m old list.at list.rows can.revisions up.is
      (subst (λ (n : ℕ). IsStateAt m s.resource n old) (sym up.end) up.state) (omega (arith, up.end, onward)) within can.stand
      (subst (λ (n : ℕ). Bridges Pods n old list.at list.rows can.revisions) (sym up.end) can.bridges) in
      let more : List RevisionData = led.0 in
      let to_it : LeadsUp s m list.at list.rows led.0 = led.1 in (
        grown m led.0,
        record {
          is = to_it.log;
          end = to_it.end;
          state = to_it.state;
          first = record {
            begun = up.first.begun;
            reached = omega (arith, up.first.reached, length-append m.revisions led.0);
            listing = listings_are_kept (selects s) m led.0 s.resource case.from case.rows up.first.reached up.first.listing;
          };
          listed = All-push (λ l. IsListedAt (grown m led.0) s l.rows l.at) gone list
              (All-weaker (λ l. IsListedAt m s l.rows l.at) (λ l. IsListedAt (grown m led.0) s l.rows l.at) (λ l is. listed_on s m led.0 l is) gone up.listed)
              (record { begun = omega (arith, up.first.begun, up.first.reached, up.end, onward); reached = omega (arith, to_it.end); listing = to_it.listing });
          log_floor = up.log_floor;
          lines = up.lines;
          body = tellings_stay m led.0 up.log_floor up.log_floor 0 case.ask case.from up.lines to (omega arith) up.body;
          tell = up.tell;
          peers = λ others p other.
              let listed : IsListedAt other.log s list.rows list.at = listed_last others other.log
              (subst (All (λ l. IsListedAt other.log s l.rows l.at)) (append_assoc gone (list ∷ []) others) other.later) in
              (listed.begun, listed.listing);
        },
      )

  stops : at ≤ list.at → (behind : List LaterData) → case.later ≡ gone ++ list ∷ behind → CannotFollow case.ask.selection at old list → IsAgainst case list.place
  stops onward behind parted cannot = record {
    before = gone;
    bad = list;
    behind = behind;
    later_are = parted;
    place_is = refl;
    position = to;
    told = record {
      log = m;
      log_floor = up.log_floor;
      low = 0;
      lawful = up.is;
      first = up.first;
      later = up.listed;
      lines = up.lines;
      body = up.body;
      texts = subst (λ (t : List (List ℕ)). TellEach case.ask.selection.resource t up.lines) (sym (all_texts case.texts)) up.tell;
    };
    none = λ p other.
        let before = up.peers (list ∷ []) p other in
        let listed : IsListedAt other.log case.ask.selection list.rows list.at = listed_last [] other.log other.later in
        let both = lists_may_follow case.ask.selection other.log at list.at old list.rows other.lawful before.0 onward before.1 listed.listing in
        cannot both.0 both.1;
  }

-- all lists, one after the other
abbrev pub Chained : BetweenData → ℕ → Option ℕ → Type 0
Chained case to None = (at : ℕ) × (old : List RowData) × (m : Log) × ReachesList case to case.later at old m
Chained case to (Some place) = IsAgainst case place

pub chain : (case : BetweenData) (to at : ℕ) (gone left : List LaterData) (old : List RowData) (m : Log) (found : Option ℕ) → case.later ≡ gone ++ left → ReachesList case to gone at old m
    → AreOnward at left → IsFirstAgainst case.ask.selection at old left found → Chained case to found
chain case to at gone [] old m found parted up onward is =
    let all : case.later ≡ gone = parted ∙ append-nil gone in
    subst (Chained case to) (sym is) (at, old, m, subst (λ (l : List LaterData). ReachesList case to l at old m) (sym all) up)
chain case to at gone (list ∷ left) old m found parted up onward is = elim is [
  | inl can ↦
      let next = goes_up case to at gone old m up list onward.0 onward.1 can.0 in
      chain case to list.at (gone ++ list ∷ []) left list.rows next.0 found (parted ∙ sym (append_assoc gone (list ∷ []) left)) next.1 onward.2 can.1
  | inr cannot ↦ subst (Chained case to) (sym cannot.1) (stops case to at gone old m up list onward.0 left parted cannot.0)
]

-- what stands at the end of the lines
pub up_to_lines : (case : BetweenData) (to : ℕ) (log : Log) (gone : List LaterData) (map : BTreeMap (List ℕ) RowData) → HearsAll case case.texts to log → All (λ l. IsListedAt log case.ask.selection l.rows l.at × (l.at ≤ to)) gone
    → Holds map (row_at log case.ask.selection.resource to) → ReachesList case to gone to (values map) log
up_to_lines case to log gone map heard listed holds =
    let state : IsStateAt log case.ask.selection.resource to (values map) =
    record { rising = values_rise map (row_at log case.ask.selection.resource to) holds; exact = λ key. row_with-values map (row_at log case.ask.selection.resource to) key holds } in
    record {
      is = heard.own.log;
      end = heard.end;
      state = state;
      first = record { begun = heard.own.begun; reached = heard.own.reached; listing = heard.own.listing };
      listed = All-weaker (λ l. IsListedAt log case.ask.selection l.rows l.at × (l.at ≤ to)) (λ l. IsListedAt log case.ask.selection l.rows l.at) (λ l is. is.0) gone listed;
      log_floor = heard.log_floor;
      lines = heard.lines;
      body = heard.body;
      tell = heard.tell;
      peers = λ more p other.
          let tell : TellEach case.ask.selection.resource case.texts other.lines = subst (λ (t : List (List ℕ)). TellEach case.ask.selection.resource t other.lines) (all_texts case.texts) other.texts in
          let mirrors : IsMirrorOf other.log case.ask.selection case.from log =
          (heard.peers other.log other.log_floor other.low other.lines [] p (first_of (cut case (length case.texts) (gone ++ more)) p other) tell refl
          (subst (λ (l : List Line). TellsBody other.log other.log_floor other.low case.ask case.from l p) (sym (append-nil other.lines)) other.body)).1 in (
            omega (arith, other.first.begun, heard.own.reached, heard.end),
            (mirrors.states to (values map) (omega (arith, heard.own.reached, heard.end)) (omega (arith, heard.end))).0 state,
          );
    }

-- ---- the judgement

pub all_told : (case : BetweenData) (to held at : ℕ) (log m : Log) (gone left : List LaterData) (old : List RowData) → HearsAll case case.texts to log → case.later ≡ gone ++ left
    → All (λ l. IsListedAt log case.ask.selection l.rows l.at × (l.at ≤ to)) gone → AreOnward (to + 1) left → ReachesList case to case.later at old m → held ≡ length gone → IsAllTold case case.from to held
all_told case to held at log m gone left old heard parted listed onward up count = record {
  begins = refl;
  told = record {
    log = m;
    log_floor = up.log_floor;
    low = 0;
    lawful = up.is;
    first = up.first;
    later = up.listed;
    lines = up.lines;
    body = up.body;
    texts = up.tell;
  };
  least = λ p other. (heard.peers other.log other.log_floor other.low other.lines [] p (first_of case p other) other.texts refl
      (subst (λ (l : List Line). TellsBody other.log other.log_floor other.low case.ask case.from l p) (sym (append-nil other.lines)) other.body)).0;
  held_is = count ∙ sym (ap (held_at to) parted ∙ count_low to gone left
      (recursion_from_All (λ l. l.at ≤ to) gone (All-weaker (λ l. IsListedAt log case.ask.selection l.rows l.at × (l.at ≤ to)) (λ l. l.at ≤ to) (λ l is. is.1) gone listed)) onward);
}
