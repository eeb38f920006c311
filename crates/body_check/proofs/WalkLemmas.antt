-- A walk begins and goes on.
use Rattle.std.proofs.Common.{◌≡◌, ℕ, zero, suc, ◌+◌, ◌-◌, ◌^◌, ◌<◌, ◌≤◌, Bool, true, false, IsTrue, ltb, List, [], ◌∷◌, ◌++◌, length, map, fold, Option, Some, None, IfSome, All, Less, Ordering, refl, sym, ap, ◌∙◌, subst, append_assoc, inl, inr, arith}
use Rattle.std.specs.Prelude.{filter, if◌then◌else◌}
use Rattle.std.specs.List.{AllByRecursion}
use Rattle.std.specs.List.Sorted.{IsStrictlySortedBy}
use Rattle.std.proofs.lemmas.Bool.{cases_Bool, cases_lt, lt-ltb, le-ltb}
use Rattle.std.proofs.lemmas.List.{append-nil, length-append, map-append}
use Rattle.std.proofs.lemmas.List.Elements.{recursion_from_All, All-from_recursion, All-push, All-nil}
use Rattle.std.proofs.lemmas.List.Sums.{fold-append}
use Rattle.kube_meta.specs.declared.objects.Obj.{Obj}
use Rattle.kube_meta.specs.Rows.{RowData, row_with}
use Rattle.rev_log.specs.Changes.{RevisionData}
use Rattle.rev_log.specs.Logs.{Log, IsLog, grown, end_of}
use Rattle.rev_log.specs.States.{row_at, IsStateAt}
use Rattle.rev_log.proofs.GrowthLemmas.{row_at-grown}
use Rattle.select_all.specs.declared.selection.Selection.{Selection}
use Rattle.select_all.specs.Selecting.{selects}
use Rattle.select_all.specs.Listings.{IsListing, shown_by, row_told}
use Rattle.select_all.specs.Streams.{Standing, TransitionData, transitions, transition_cmp}
use Rattle.select_all.proofs.EventLaws.{all_append, all_weaker}
use Rattle.select_all.proofs.ListingLaws.{listing_by_key, listings_are_by_key}
use Rattle.watch_rules.specs.declared.ask.WatchAsk.{WatchAsk}
use Rattle.watch_rules.specs.declared.starts.Start.{Start}
use Rattle.watch_rules.specs.declared.starts.Start.TheVariants.{FromState, FromHere, FromRevision}
use Rattle.watch_rules.specs.Starts.{is_from_state}
use Rattle.watch_rules.specs.Bodies.{Line, Told, Bookmark, Closing, Lost, opening_lines, IsOpening, TellsBody, BeginsBody, AreOpen}
use Rattle.watch_rules.specs.Laws.{GoOn}
use Rattle.watch_rules.proofs.LineLemmas.{tellings_begin, tellings_go_on, tellings_stay}
use Rattle.mirror_law.specs.Mirrors.{IsMirrorOf, of_revision, AreToldBy}
use Rattle.mirror_law.specs.Following.{MovesOn, kept_after, Follows}
use Rattle.mirror_law.specs.Taking.{row_before, IsTakenMark}
use Rattle.mirror_law.proofs.FollowLemmas.{followings_hear, followings_mark, followings_resume}
use Rattle.mirror_law.proofs.ListLemmas.{none_kept, all_kept}
use Rattle.mirror_law.proofs.MirrorLemmas.{mirrors_begin_anew}
use Rattle.body_check.specs.Walks.{IsFitting, FitAtOnce, IsOwn, IsSettled, HasFirst, IsWalked, IsTakenNext, reach_of, WalksTo, WalksBegin, WalksHear, WalksMark}
use Rattle.body_check.specs.Turns.{FitsRow}
use Rattle.body_check.proofs.SettleLemmas.{none_fit, numbers_of, all_of, none_of, settle}

-- ---- states of a log of one's own are its lists

all_shown : (test : Obj → Bool) (row : Option RowData) → IfSome row (λ r. IsTrue (test r.obj)) → shown_by test row ≡ row
all_shown test None is = refl
all_shown test (Some r) is = rw is refl

module _ (s : Selection) (from : ℕ) (rows : List RowData) (m : Log) (own : IsOwn s from rows m) where
  pub list_is_state : (r : ℕ) (list : List RowData) → from ≤ r → r ≤ end_of m → IsListing m s r list → IsStateAt m s.resource r list
  list_is_state r list above upto listing =
      let by = listing_by_key (selects s) m s.resource r list listing in
      record { rising = by.rising; exact = λ key. by.exact key ∙ all_shown (selects s) (row_at m s.resource r key) (own.shown r key above upto) }

  pub state_is_list : (r : ℕ) (list : List RowData) → from ≤ r → r ≤ end_of m → IsStateAt m s.resource r list → IsListing m s r list
  state_is_list r list above upto state =
      (listings_are_by_key (selects s) m s.resource r list own.log.revisions).1
      (record { rising = state.rising; exact = λ key. state.exact key ∙ sym (all_shown (selects s) (row_at m s.resource r key) (own.shown r key above upto)) })

-- ---- the beginning

pub no_closing : (ask : WatchAsk) (from at : ℕ) → ask.start ≡ FromRevision from → opening_lines ask at [] ≡ []
no_closing ask from at start = elim (cases_Bool ask.closing) [
  | inl closes ↦
      let a_state : IsTrue (is_from_state ask.start) = ask.closing_a_state closes in
      absurd (let bad : true ≡ false = sym a_state ∙ ap is_from_state start in cc)
  | inr never ↦ rw never refl
]

starts_there : (s : Selection) (m : Log) (start : Start) (from : ℕ) → start ≡ FromRevision from → IsOpening m s start from []
starts_there s m start from is = subst (λ (st : Start). IsOpening m s st from []) (sym is) (refl, refl)

pub walks_begin : WalksBegin
walks_begin ask from rows m start own end =
    let s : Selection = ask.selection in
    let opened = tellings_begin m 0 0 ask from [] (starts_there s m ask.start from start) in
    let none : opening_lines ask from [] ≡ [] = no_closing ask from from start in
    record {
      own = own;
      are = none_fit (selects s) (row_at m s.resource (end_of m)) (end_of m + 1);
      heard = [];
      lines_are = refl;
      free = subst AreOpen none opened.1;
      body = subst (λ (n : ℕ). TellsBody m 0 0 ask from [] n) (sym end) (subst (λ (l : List Line). TellsBody m 0 0 ask from l from) none opened.0);
      peers = λ peer log_floor low first begins.
          let mirrors : IsMirrorOf peer s from m = mirrors_begin_anew (selects s) peer s.resource from m rows first.is own.log end first.reached
          (list_is_state s from rows m own from rows (omega arith) (omega (arith, end)) own.listing) first.listing in
          subst (λ (n : ℕ). Follows peer s from n [] m []) end (followings_resume peer from s m mirrors);
    }

-- ---- a line more

sorted_push : {X : Type 0} (c : X → X → Ordering) (xs : List X) (x : X) → IsStrictlySortedBy c xs → AllByRecursion (λ y. c y x ≡ Less) xs → IsStrictlySortedBy c (xs ++ x ∷ [])
unfolding IsStrictlySortedBy
sorted_push c [] x sorted all = (tt, tt)
sorted_push c (y ∷ ys) x sorted all = (all_append (λ z. c y z ≡ Less) ys (x ∷ []) sorted.0 (all.0, tt), sorted_push c ys x sorted.1 all.1)

pub grown_none : (m : Log) → grown m [] ≡ m
grown_none m = ap (λ (xs : List RevisionData). record m { revisions = xs }) (append-nil m.revisions)

-- a line behind lines that begin a body
pub begun : (peer : Log) (log_floor low : ℕ) (ask : WatchAsk) (from : ℕ) (lines : List Line) (line : Line) → BeginsBody peer log_floor low ask from (lines ++ line ∷ []) → BeginsBody peer log_floor low ask from lines
begun peer log_floor low ask from lines line begins =
    (line ∷ begins.0, begins.1, subst (λ (l : List Line). TellsBody peer log_floor low ask from l begins.1) (append_assoc lines (line ∷ []) begins.0) begins.2)

module _ (ask : WatchAsk) (from : ℕ) (rows : List RowData) (lines : List Line) (m : Log) (kept : List TransitionData)
    (walked : IsWalked ask from rows lines m kept) where
  numbers : AllByRecursion (λ t. t.rev ≡ end_of m + 1) kept
  numbers = numbers_of (selects ask.selection) (row_at m ask.selection.resource (end_of m)) (end_of m + 1) kept walked.are

  -- the lines are told by the log once what is kept is settled
  pub settled_body : (n : ℕ) (more : List RevisionData) → IsSettled ask.selection from rows m kept n more → end_of (grown m more) ≡ end_of m + n
      → TellsBody (grown m more) 0 0 ask from lines (end_of (grown m more)) × AreOpen lines
  settled_body n more is end =
      let stays : TellsBody (grown m more) 0 0 ask from walked.heard (end_of m) = tellings_stay m more 0 0 0 ask from walked.heard (end_of m) (omega arith) walked.body in
      let on : GoOn (grown m more) 0 0 ask from walked.heard (end_of m) = tellings_go_on (grown m more) 0 0 ask from walked.heard (end_of m) stays walked.free in
      let told = on.stretch (end_of m + n) (omega arith) (omega (arith, end)) in
      let same : walked.heard ++ map Told (transitions (grown m more) ask.selection (end_of m) (end_of m + n)) ≡ lines =
      ap (λ (l : List TransitionData). walked.heard ++ map Told l) is.tells ∙ sym walked.lines_are in (
        subst (λ (k : ℕ). TellsBody (grown m more) 0 0 ask from lines k) (sym end) (subst (λ (l : List Line). TellsBody (grown m more) 0 0 ask from l (end_of m + n)) same told.0),
        subst AreOpen same told.1,
      )

  pub end_settled : (n : ℕ) (more : List RevisionData) → IsSettled ask.selection from rows m kept n more → end_of (grown m more) ≡ end_of m + n
  end_settled n more is = omega (arith, length-append m.revisions more, is.count)

  -- ---- an event of the revision that is kept

  module _ (t : TransitionData) (next : IsTakenNext ask.selection m kept t) where
    all_here : t.rev ≡ end_of m + 1 → of_revision t.rev kept ≡ kept
    all_here here = all_of (end_of m + 1) t.rev kept numbers (sym here)

    fits_here : t.rev ≡ end_of m + 1 → IsFitting (selects ask.selection) (row_at m ask.selection.resource (end_of m)) (end_of m + 1) t
    fits_here here =
        let none : filter (λ k. ltb k.rev t.rev) kept ≡ [] = none_kept (λ k. ltb k.rev t.rev) kept (all_weaker (λ u. u.rev ≡ end_of m + 1) (λ u. ltb u.rev t.rev ≡ false)
        (λ u number. le-ltb u.rev t.rev (omega (arith, number, here))) kept numbers) in
        record {
          number = here;
          selected = next.selected;
          fits = subst (λ (l : List TransitionData). FitsRow t.kind t.obj (fold (row_told t.obj.key) (row_at m ask.selection.resource (end_of m) t.obj.key) l)) none next.fits;
        }

    are_here : t.rev ≡ end_of m + 1 → FitAtOnce (selects ask.selection) (row_at m ask.selection.resource (end_of m)) (end_of m + 1) (kept ++ t ∷ [])
    are_here here = record {
      each = All-push (IsFitting (selects ask.selection) (row_at m ask.selection.resource (end_of m)) (end_of m + 1)) kept t walked.are.each (fits_here here);
      sorted = sorted_push transition_cmp kept t walked.are.sorted (recursion_from_All (λ k. transition_cmp k t ≡ Less) kept next.behind);
      few = subst (λ (l : List TransitionData). length (l ++ t ∷ []) ≤ 64) (all_here here) next.few;
    }

    hear_here : t.rev ≡ end_of m + 1 → IsWalked ask from rows (lines ++ Told t ∷ []) (grown m []) (kept_after kept (Told t))
    hear_here here =
        let same : kept ++ t ∷ [] ≡ kept_after kept (Told t) = ap (λ (l : List TransitionData). l ++ t ∷ []) (sym (all_here here)) in
        let nothing : AreToldBy ask.selection.resource kept (end_of m) [] = λ i e inside. absurd (cc) in
        subst (λ (l : List TransitionData). IsWalked ask from rows (lines ++ Told t ∷ []) (grown m []) l) same
        (subst (λ (l : Log). IsWalked ask from rows (lines ++ Told t ∷ []) l (kept ++ t ∷ [])) (sym (grown_none m)) (record {
          own = walked.own;
          are = are_here here;
          heard = walked.heard;
          lines_are = ap (λ (l : List Line). l ++ Told t ∷ []) walked.lines_are
              ∙ append_assoc walked.heard (map Told kept) (Told t ∷ [])
              ∙ ap (λ (l : List Line). walked.heard ++ l) (sym (map-append Told kept (t ∷ [])));
          free = walked.free;
          body = walked.body;
          peers = λ peer log_floor low first begins.
              let heard : Follows peer ask.selection from from (lines ++ Told t ∷ []) (grown m []) (kept_after kept (Told t)) =
              followings_hear peer log_floor low from from ask.selection ask lines m kept t [] first.is refl
              (walked.peers peer log_floor low first (begun peer log_floor low ask from lines (Told t) begins)) begins next.above nothing
              (omega (arith, ap end_of (grown_none m), here)) in
              subst (λ (l : Log). Follows peer ask.selection from from (lines ++ Told t ∷ []) l (kept ++ t ∷ [])) (grown_none m)
              (subst (λ (l : List TransitionData). Follows peer ask.selection from from (lines ++ Told t ∷ []) (grown m []) l) (sym same) heard);
        }))

    -- ---- an event of a later one

    hear_later : (n : ℕ) (more : List RevisionData) → t.rev ≡ end_of m + suc n + 1 → IsSettled ask.selection from rows m kept (suc n) more
        → IsWalked ask from rows (lines ++ Told t ∷ []) (grown m more) (kept_after kept (Told t))
    hear_later n more number is =
        let end : end_of (grown m more) ≡ end_of m + suc n = end_settled (suc n) more is in
        let told = settled_body (suc n) more is end in
        let none : of_revision t.rev kept ≡ [] = none_of (end_of m + 1) t.rev kept numbers (omega (arith, number)) in
        let alone : t ∷ [] ≡ kept_after kept (Told t) = ap (λ (l : List TransitionData). l ++ t ∷ []) (sym none) in
        let all : filter (λ k. ltb k.rev t.rev) kept ≡ kept = all_kept (λ k. ltb k.rev t.rev) kept (all_weaker (λ u. u.rev ≡ end_of m + 1) (λ u. ltb u.rev t.rev ≡ true)
        (λ u at. lt-ltb u.rev t.rev (omega (arith, at, number))) kept numbers) in
        let before : row_before m ask.selection.resource kept t.rev t.obj.key ≡ row_at (grown m more) ask.selection.resource (end_of (grown m more)) t.obj.key =
        ap (λ (l : List TransitionData). fold (row_told t.obj.key) (row_at m ask.selection.resource (end_of m) t.obj.key) l) all
        ∙ sym (is.stands (end_of (grown m more)) t.obj.key (omega (arith, end)) (omega (arith, end))) in
        let fits : IsFitting (selects ask.selection) (row_at (grown m more) ask.selection.resource (end_of (grown m more))) (end_of (grown m more) + 1) t =
        record { number = omega (arith, number, end); selected = next.selected; fits = subst (FitsRow t.kind t.obj) before next.fits } in
        subst (λ (l : List TransitionData). IsWalked ask from rows (lines ++ Told t ∷ []) (grown m more) l) alone (record {
          own = is.own;
          are = record {
            each = All-push (IsFitting (selects ask.selection) (row_at (grown m more) ask.selection.resource (end_of (grown m more))) (end_of (grown m more) + 1)) [] t
                (All-nil (IsFitting (selects ask.selection) (row_at (grown m more) ask.selection.resource (end_of (grown m more))) (end_of (grown m more) + 1))) fits;
            sorted = sorted_push transition_cmp [] t (none_fit (selects ask.selection) (row_at m ask.selection.resource (end_of m)) (end_of m)).sorted tt;
            few = omega arith;
          };
          heard = lines;
          lines_are = refl;
          free = told.1;
          body = told.0;
          peers = λ peer log_floor low first begins.
              subst (λ (l : List TransitionData). Follows peer ask.selection from from (lines ++ Told t ∷ []) (grown m more) l) (sym alone)
              (followings_hear peer log_floor low from from ask.selection ask lines m kept t more first.is refl
              (walked.peers peer log_floor low first (begun peer log_floor low ask from lines (Told t) begins)) begins next.above is.told (omega (arith, end, number)));
        })

  -- what is kept stands from its own revision on
  nothing_kept : (l : List TransitionData) (r : ℕ) → reach_of m l ≤ r → r ≤ end_of m → l ≡ []
  nothing_kept [] r low high = refl
  nothing_kept (t ∷ l) r low high = absurd (omega (arith, low, high))

  reach_low : (l : List TransitionData) → end_of m ≤ reach_of m l
  reach_low [] = omega arith
  reach_low (t ∷ l) = omega arith

  quiet_here : (more : List RevisionData) (r : ℕ) (key : List ℕ) → reach_of m kept ≤ r → r ≤ end_of m
      → row_at (grown m more) ask.selection.resource r key ≡ fold (row_told key) (row_at m ask.selection.resource (end_of m) key) kept
  quiet_here more r key low high =
      let at : r ≡ end_of m = omega (arith, low, high, reach_low kept) in
      subst (λ (k : ℕ). row_at (grown m more) ask.selection.resource k key ≡ fold (row_told key) (row_at m ask.selection.resource (end_of m) key) kept) (sym at)
      (row_at-grown m more ask.selection.resource (end_of m) key (omega arith)
      ∙ ap (λ (l : List TransitionData). fold (row_told key) (row_at m ask.selection.resource (end_of m) key) l) (sym (nothing_kept kept r low high)))

  quiet_settled : (n : ℕ) (more : List RevisionData) → IsSettled ask.selection from rows m kept (suc n) more → (r : ℕ) (key : List ℕ) → reach_of m kept ≤ r → r ≤ end_of m + suc n
      → row_at (grown m more) ask.selection.resource r key ≡ fold (row_told key) (row_at m ask.selection.resource (end_of m) key) kept
  quiet_settled n more is r key low high = elim (cases_lt (end_of m) r) [
    | inl past ↦ is.stands r key past high
    | inr here ↦ quiet_here more r key low here
  ]

  module _ (t : TransitionData) (next : IsTakenNext ask.selection m kept t) where
    abbrev Hears : List RevisionData → Type 0
    Hears more = WalksTo ask from rows lines m kept (Told t) (t.rev - 1) more (kept_after kept (Told t))
        × ((key : List ℕ) → fold (row_told key) (row_at (grown m more) ask.selection.resource (end_of (grown m more)) key) (kept_after kept (Told t))
        ≡ row_told key (fold (row_told key) (row_at m ask.selection.resource (end_of m) key) kept) t)

    hears_here : t.rev ≡ end_of m + 1 → Hears []
    hears_here number =
        let end : end_of (grown m []) ≡ t.rev - 1 = omega (arith, ap end_of (grown_none m), number) in
        let same : kept_after kept (Told t) ≡ kept ++ t ∷ [] = ap (λ (l : List TransitionData). l ++ t ∷ []) (all_here t next number) in (
          record {
            walked = hear_here t next number;
            end = end;
            quiet = λ r key low high. quiet_here [] r key low (omega (arith, high, number));
          },
          λ key. ap (λ (l : Log). fold (row_told key) (row_at l ask.selection.resource (end_of l) key) (kept_after kept (Told t))) (grown_none m)
              ∙ ap (λ (l : List TransitionData). fold (row_told key) (row_at m ask.selection.resource (end_of m) key) l) same
              ∙ fold-append (row_told key) (row_at m ask.selection.resource (end_of m) key) kept (t ∷ []),
        )

    hears_later : (n : ℕ) (more : List RevisionData) → t.rev ≡ end_of m + suc n + 1 → IsSettled ask.selection from rows m kept (suc n) more → Hears more
    hears_later n more number is =
        let end : end_of (grown m more) ≡ end_of m + suc n = end_settled (suc n) more is in
        let none : of_revision t.rev kept ≡ [] = none_of (end_of m + 1) t.rev kept numbers (omega (arith, number)) in
        let alone : kept_after kept (Told t) ≡ t ∷ [] = ap (λ (l : List TransitionData). l ++ t ∷ []) none in (
          record {
            walked = hear_later t next n more number is;
            end = omega (arith, end, number);
            quiet = λ r key low high. quiet_settled n more is r key low (omega (arith, high, number));
          },
          λ key. ap (λ (l : List TransitionData). fold (row_told key) (row_at (grown m more) ask.selection.resource (end_of (grown m more)) key) l) alone
              ∙ ap (λ (o : Option RowData). row_told key o t) (is.stands (end_of (grown m more)) key (omega (arith, end)) (omega (arith, end))),
        )

    pub hear : (more : List RevisionData) × WalksTo ask from rows lines m kept (Told t) (t.rev - 1) more (kept_after kept (Told t))
        × ((key : List ℕ) → fold (row_told key) (row_at (grown m more) ask.selection.resource (end_of (grown m more)) key) (kept_after kept (Told t))
        ≡ row_told key (fold (row_told key) (row_at m ask.selection.resource (end_of m) key) kept) t)
    hear = elim (cases_lt (end_of m + 1) t.rev) [
      | inl later ↦
          let n : ℕ = t.rev - 2 - end_of m in
          let made = settle ask.selection from rows m kept walked.own walked.are n (omega (arith, later, next.within)) in
          let told = hears_later n made.0 (omega (arith, later)) made.1 in
          (made.0, told.0, told.1)
      | inr here ↦
          let told = hears_here (omega (arith, here, next.above)) in
          ([], told.0, told.1)
    ]

  -- ---- a bookmark

  mark_there : (at : ℕ) (more : List RevisionData) → IsTrue ask.bookmarks → end_of (grown m more) ≡ at → end_of m ≤ at → IsOwn ask.selection from rows (grown m more)
      → AreToldBy ask.selection.resource kept (end_of m) more → TellsBody (grown m more) 0 0 ask from lines (end_of (grown m more)) × AreOpen lines
      → IsWalked ask from rows (lines ++ Bookmark at ∷ []) (grown m more) []
  mark_there at more wanted end onward own told body =
      let on : GoOn (grown m more) 0 0 ask from lines (end_of (grown m more)) = tellings_go_on (grown m more) 0 0 ask from lines (end_of (grown m more)) body.0 body.1 in
      let marked = on.mark wanted (omega arith) in
      record {
        own = own;
        are = none_fit (selects ask.selection) (row_at (grown m more) ask.selection.resource (end_of (grown m more))) (end_of (grown m more) + 1);
        heard = lines ++ Bookmark at ∷ [];
        lines_are = sym (append-nil (lines ++ Bookmark at ∷ []));
        free = subst (λ (k : ℕ). AreOpen (lines ++ Bookmark k ∷ [])) end marked.1;
        body = subst (λ (k : ℕ). TellsBody (grown m more) 0 0 ask from (lines ++ Bookmark k ∷ []) (end_of (grown m more))) end marked.0;
        peers = λ peer log_floor low first begins.
            followings_mark peer log_floor low from from ask.selection ask lines m kept at more first.is refl
            (walked.peers peer log_floor low first (begun peer log_floor low ask from lines (Bookmark at) begins)) begins onward told end;
      }

  above_kept : (at : ℕ) → IsTakenMark m kept at → at ≤ end_of m → kept ≡ []
  above_kept at is under = none kept numbers (recursion_from_All (λ k. k.rev ≤ at) kept is.told)
    where
      none : (l : List TransitionData) → AllByRecursion (λ t. t.rev ≡ end_of m + 1) l → AllByRecursion (λ k. k.rev ≤ at) l → l ≡ []
      none [] number below = refl
      none (t ∷ l) number below = absurd (omega (arith, number.0, below.0, under))

  pub mark : (at : ℕ) → IsTakenMark m kept at → IsTrue ask.bookmarks → at ≤ 2 ^ 62
      → (more : List RevisionData) × WalksTo ask from rows lines m kept (Bookmark at) at more []
  mark at is wanted within = elim (cases_lt (end_of m) at) [
    | inl later ↦
        let n : ℕ = at - 1 - end_of m in
        let made = settle ask.selection from rows m kept walked.own walked.are n (omega (arith, later, within)) in
        let end : end_of (grown m made.0) ≡ at = omega (arith, end_settled (suc n) made.0 made.1, later) in
        let number : end_of m + suc n ≡ at = omega (arith, later) in (
          made.0,
          record {
            walked = mark_there at made.0 wanted end (omega (arith, later)) made.1.own made.1.told (settled_body (suc n) made.0 made.1 (end_settled (suc n) made.0 made.1));
            end = end;
            quiet = λ r key low high. quiet_settled n made.0 made.1 r key low (omega (arith, high, number));
          },
        )
    | inr here ↦
        let none : kept ≡ [] = above_kept at is here in
        let end : end_of (grown m []) ≡ at = omega (arith, ap end_of (grown_none m), here, is.onward) in
        let nothing : AreToldBy ask.selection.resource kept (end_of m) [] = λ i e inside. absurd (cc) in
        let whole : lines ≡ walked.heard = walked.lines_are ∙ ap (λ (l : List TransitionData). walked.heard ++ map Told l) none ∙ append-nil walked.heard in
        let body : TellsBody m 0 0 ask from lines (end_of m) = subst (λ (l : List Line). TellsBody m 0 0 ask from l (end_of m)) (sym whole) walked.body in
        let here_body : TellsBody (grown m []) 0 0 ask from lines (end_of (grown m [])) = subst (λ (l : Log). TellsBody l 0 0 ask from lines (end_of l)) (sym (grown_none m)) body in (
          [],
          record {
            walked = mark_there at [] wanted end (omega (arith, is.onward)) (subst (IsOwn ask.selection from rows) (sym (grown_none m)) walked.own) nothing (here_body, subst AreOpen (sym whole) walked.free);
            end = end;
            quiet = λ r key low high. quiet_here [] r key low (omega (arith, high, here));
          },
        )
  ]

pub walks_hear : WalksHear
walks_hear ask from rows lines m kept t walked next = hear ask from rows lines m kept walked t next

pub walks_mark : WalksMark
walks_mark ask from rows lines m kept at walked is wanted within = mark ask from rows lines m kept walked at is wanted within
