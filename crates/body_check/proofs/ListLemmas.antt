-- What the judge's parts find, put together.
use Rattle.std.proofs.Common.{◌≡◌, ℕ, zero, suc, ◌+◌, ◌-◌, ◌^◌, ◌<◌, ◌≤◌, true, false, List, [], ◌∷◌, ◌++◌, length, take, fold, get_or, map, Option, Some, None, All, refl, sym, ap, ◌∙◌, subst, append_assoc, inl, inr, arith}
use Rattle.std.specs.Prelude.{MatchOption}
use Rattle.std.specs.List.{AllByRecursion}
use Rattle.std.specs.BTreeMap.{BTreeMap, values}
use Rattle.std.proofs.lemmas.List.{append-nil, length-append, take_more}
use Rattle.std.proofs.lemmas.List.Elements.{recursion_from_All, All-from_recursion, All-weaker, All-nil}
use Rattle.kube_meta.specs.Rows.{RowData, row_with}
use Rattle.rev_log.specs.Changes.{RevisionData}
use Rattle.rev_log.specs.Logs.{Log, IsLog, grown, end_of}
use Rattle.rev_log.specs.Rows.{Holds}
use Rattle.rev_log.specs.States.{row_at}
use Rattle.rev_log.proofs.MapLemmas.{Holds-same, take_all}
use Rattle.select_all.specs.Listings.{row_told}
use Rattle.watch_lines.specs.ValueLaws.{TextsTellOneLine, WhatIsToldIsKept}
use Rattle.watch_lines.specs.Values.{TellsByValue, ReadsByValue}
use Rattle.watch_lines.specs.declared.peer_line.PeerLine.{PeerLine}
use Rattle.watch_lines.specs.declared.peer_line.PeerLine.TheVariants as peer
use Rattle.watch_rules.specs.declared.ask.WatchAsk.{WatchAsk}
use Rattle.watch_record.specs.Between.{LaterData, BetweenData, IsBetweenRead, IsLaterRead}
use Rattle.body_check.specs.declared.held.Held.{Held}
use Rattle.body_check.specs.declared.held.Held.TheVariants.{Left, Bad}
use Rattle.body_check.specs.declared.walk.Walk.{Walk}
use Rattle.body_check.specs.Turns.{ArePassed, PassesTo, HoldsTo, BeginsFrom, MayStand}
use Rattle.body_check.specs.declared.turns.Turn.{Turn}
use Rattle.body_check.specs.declared.turns.Turn.TheVariants as turns
use Rattle.body_check.specs.Lists.{IsListedAt, IsOfNone, cut, IsAllTold, IsBrokenBy, IsAgainst, IsBadAt}
use Rattle.body_check.specs.Heard.{IsWalkOf, HearsAll, IsToldByNone, AreOnward, HavePassed, HasOther, AreHeld, CanFollow, IsFirstAgainst, ReachesList, MayBegin, IsWalking, HasHeard, AreWalked}
use Rattle.body_check.specs.Turning.{TakesLine, MovesBy, IsTurnBy, IsTurn}
use Rattle.body_check.specs.Walks.{IsOwn, HasFirst}
use Rattle.body_check.proofs.FirstLemmas.{owns_pods, owns_others, stand_there, of_log_from_none}
use Rattle.body_check.proofs.FoundLemmas.{first_of, broken_by, onward_all, against, up_to_lines, Chained, chain, all_told}
use Rattle.body_check.proofs.HeardLemmas.{pass_on, goes_by_event, goes_by_mark, refused_untold, refused_line, AreTold, told_all, told_lost, refused_behind, begins_walk}
use Rattle.body_check.proofs.TurnLemmas.{reach_from}
use Rattle.body_check.proofs.WalkLemmas.{grown_none}

-- ---- the first list

module _ (case : BetweenData) (read : IsBetweenRead case) where
  owned : MayBegin case.ask.selection case.from case.rows true → (m : Log) × IsOwn case.ask.selection case.from case.rows m × (end_of m ≡ case.from)
  owned may = elim may.1 [
    | inl pods ↦ owns_pods case.ask.selection case.from case.rows read.from.1 may.0 pods
    | inr can ↦ owns_others case.ask.selection case.from case.rows read.from.1 may.0 can
  ]

  pub begins : (walk : Walk) → MayBegin case.ask.selection case.from case.rows true → walk.to ≡ case.from → walk.last ≡ None → Holds walk.rows (row_with case.rows)
      → ((m : Log) → HavePassed case case.from m case.later → AreHeld case case.from m walk.held) → IsWalking case [] walk
  begins walk may to last holds held =
      let own = owned may in
      record {
        log = own.0;
        is = begins_walk case walk own.0 read.starts read.from.1 own.1 own.2 to last holds;
        held = subst (λ (n : ℕ). AreHeld case n own.0 walk.held) (sym to) (held own.0 (record {
          gone = [];
          parted = refl;
          listed = All-nil (λ l. IsListedAt own.0 case.ask.selection l.rows l.at × (l.at ≤ case.from));
          onward = onward_all case.from case.later read.later read.ordered;
        }));
      }

  pub none_begins : MayBegin case.ask.selection case.from case.rows false → IsOfNone (cut case 0 [])
  none_begins may p is =
      let first : HasFirst case.ask.selection case.from case.rows is.log = record { is = is.lawful; begun = is.first.begun; reached = is.first.reached; listing = is.first.listing } in
      let none = may (stand_there case.ask.selection case.from case.rows is.log first) in
      none.1 (of_log_from_none case.ask.selection case.from case.rows is.log first none.0 read.rows)

-- ---- lists that are left stay

module _ (case : BetweenData) (m : Log) (more : List RevisionData) (to : ℕ) (map : BTreeMap (List ℕ) RowData) (stands : List ℕ → Option RowData)
    (own : IsOwn case.ask.selection case.from case.rows m) (next : IsOwn case.ask.selection case.from case.rows (grown m more)) (holds : Holds map stands)
    (begun : case.from ≤ to) (reached : to ≤ end_of (grown m more)) where
  begins_there : (left : List LaterData) → AreOnward to left → BeginsFrom to left
  begins_there [] onward = tt
  begins_there (l ∷ left) onward = onward.0

  pub held_on : (held : Held) → AreHeld case to m held → AreHeld case to (grown m more) held
  held_on (Left left) has =
      pass_on case m more to to map stands own next holds begun (omega arith) (omega (arith, reached)) (λ r key low high. absurd (omega (arith, low, high))) (Left left) (Left left) has
      (record { gone = []; parted = refl; same = All-nil (λ l. (l.at < to) × (l.rows ≡ values map)) }, begins_there left.now has.onward)
  held_on (Bad place) has =
      pass_on case m more to to map stands own next holds begun (omega arith) (omega (arith, reached)) (λ r key low high. absurd (omega (arith, low, high))) (Bad place) (Bad place) has refl

-- ---- a line more

module _ (one : TextsTellOneLine) (kept : WhatIsToldIsKept) (case : BetweenData) (read : IsBetweenRead case) (texts : List (List ℕ)) (text : List ℕ) (old : Walk) (walking : IsWalking case texts old) where
  moves : (now : Walk) (line : PeerLine) → TellsByValue case.ask.selection.resource text line → TakesLine case.ask old line → MovesBy line old now → IsWalking case (texts ++ text ∷ []) now
  moves now (peer.Told kind obj rev) tells takes by =
      let bound = kept case.ask.selection.resource text (peer.Told kind obj rev) tells in
      let on = goes_by_event one case texts text old walking.log walking.is (record { kind = kind; obj = obj; rev = rev }) now bound.1.1 tells takes by in
      record { log = on.0; is = on.1; held = on.2 walking.held }
  moves now (peer.Bookmark at closing) tells takes by =
      let bound = kept case.ask.selection.resource text (peer.Bookmark at closing) tells in
      let open_one : TellsByValue case.ask.selection.resource text (peer.Bookmark at false) = subst (λ b. TellsByValue case.ask.selection.resource text (peer.Bookmark at b)) takes.1 tells in
      let on = goes_by_mark one case texts text old walking.log walking.is at now bound.1 open_one takes.0 takes.2 by in
      record { log = on.0; is = on.1; held = on.2 walking.held }
  moves now (peer.Error code) tells takes by = absurd by

  pub goes : (now : Walk) → IsTurn case.ask text old now turns.On → IsWalking case (texts ++ text ∷ []) now
  goes now is = by is.found is.reads is.is
    where
      by : (found : Option PeerLine) → ReadsByValue case.ask.selection.resource text found → MatchOption found (turns.On ≡ turns.Bad) (λ line. IsTurnBy case.ask line old now turns.On) → IsWalking case (texts ++ text ∷ []) now
      by None reads turn = absurd (cc)
      by (Some line) reads turn = moves now line reads turn.0 turn.1

  pub refuses : (now : Walk) → IsTurn case.ask text old now turns.Bad → IsToldByNone case (texts ++ text ∷ [])
  refuses now is = by is.found is.reads is.is
    where
      by : (found : Option PeerLine) → ReadsByValue case.ask.selection.resource text found → MatchOption found (turns.Bad ≡ turns.Bad) (λ line. IsTurnBy case.ask line old now turns.Bad) → IsToldByNone case (texts ++ text ∷ [])
      by None reads turn = refused_untold one case texts text old walking.log walking.is reads
      by (Some line) reads turn = refused_line one case texts text old walking.log walking.is read.starts line reads turn

  reached : (told : List (List ℕ)) (all : AreTold one case read.starts texts old walking.log walking.is told) → HasHeard case told old
  reached told all = record {
    log = grown walking.log all.more;
    heard = all.heard;
    rows = Holds-same old.rows _ _ (λ key. sym (all.stands key)) walking.is.rows;
    held = held_on case walking.log all.more old.to old.rows (λ key. fold (row_told key) (row_at walking.log case.ask.selection.resource (end_of walking.log) key) walking.is.kept) walking.is.walked.own all.heard.own
        walking.is.rows (omega (arith, walking.is.walked.own.reached, reach_from walking.log walking.is.kept, walking.is.reach)) (omega (arith, all.heard.end)) old.held walking.held;
    within = walking.is.within;
  }

  pub all_heard : HasHeard case texts old
  all_heard = reached texts (told_all one case read.starts texts old walking.log walking.is)

  module _ (now : Walk) (is : IsTurn case.ask text old now turns.End) where
    lost : TellsByValue case.ask.selection.resource text (peer.Error 410) × (now ≡ old)
    lost = by is.found is.reads is.is
      where
        by : (found : Option PeerLine) → ReadsByValue case.ask.selection.resource text found → MatchOption found (turns.End ≡ turns.Bad) (λ line. IsTurnBy case.ask line old now turns.End)
            → TellsByValue case.ask.selection.resource text (peer.Error 410) × (now ≡ old)
        by None reads turn = absurd (cc)
        by (Some line) reads turn = (subst (TellsByValue case.ask.selection.resource text) turn.0 reads, turn.1)

    pub loss_heard : HasHeard case (texts ++ text ∷ []) now
    loss_heard = subst (HasHeard case (texts ++ text ∷ [])) (sym lost.1) (reached (texts ++ text ∷ []) (told_lost one case read.starts texts old walking.log walking.is text lost.0))

    pub loss_refuses : (other : List ℕ) → IsToldByNone case ((texts ++ text ∷ []) ++ other ∷ [])
    loss_refuses other = refused_behind one case read.starts texts old walking.log walking.is text lost.0 other

-- ---- the lists

-- a place of a later list
placed : (case : BetweenData) (read : IsBetweenRead case) (place : ℕ) → IsAgainst case place → IsBadAt case place
placed case read zero is =
    let all : AllByRecursion (IsLaterRead case.from) (is.before ++ is.bad ∷ is.behind) = subst (AllByRecursion (IsLaterRead case.from)) is.later_are (recursion_from_All (IsLaterRead case.from) case.later read.later) in
    absurd (omega (arith, is.place_is, (at_bad is.before is.bad is.behind all).placed))
  where
    at_bad : (xs : List LaterData) (x : LaterData) (ys : List LaterData) → AllByRecursion (IsLaterRead case.from) (xs ++ x ∷ ys) → IsLaterRead case.from x
    at_bad [] x ys all = all.0
    at_bad (y ∷ xs) x ys all = at_bad xs x ys all.1
placed case read (suc n) is = is

module _ (case : BetweenData) (read : IsBetweenRead case) (walk now : Walk) (has : HasHeard case case.texts walk) (to_end : HoldsTo (values walk.rows) (walk.to + 1) walk.held now.held) where
  pub passed : AreHeld case (walk.to + 1) has.log now.held
  passed =
      let begun : case.from ≤ walk.to = omega (arith, has.heard.own.reached, has.heard.end) in
      subst (λ (l : Log). AreHeld case (walk.to + 1) l now.held) (grown_none has.log)
      (pass_on case has.log [] walk.to (walk.to + 1) walk.rows (row_at has.log case.ask.selection.resource walk.to) has.heard.own (subst (IsOwn case.ask.selection case.from case.rows) (sym (grown_none has.log)) has.heard.own) has.rows begun (omega arith)
      (omega (arith, has.heard.end, ap end_of (grown_none has.log)))
      (λ r key low high.
      let here : r ≡ walk.to = omega (arith, low, high) in
      ap (λ (n : ℕ). row_at (grown has.log []) case.ask.selection.resource n key) here ∙ ap (λ (l : Log). row_at l case.ask.selection.resource walk.to key) (grown_none has.log))
      walk.held now.held has.held to_end)

  pub bad_below : (place : ℕ) → HasOther case has.log place → IsBadAt case place
  bad_below place failed = placed case read place (against case walk.to has.log place has.heard failed)

  module _ (left : List LaterData) (have : HavePassed case (walk.to + 1) has.log left) where
    listed : All (λ l. IsListedAt has.log case.ask.selection l.rows l.at × (l.at ≤ walk.to)) have.gone
    listed = All-weaker (λ l. IsListedAt has.log case.ask.selection l.rows l.at × (l.at ≤ walk.to + 1)) (λ l. IsListedAt has.log case.ask.selection l.rows l.at × (l.at ≤ walk.to))
        (λ l is. (is.0, omega (arith, is.0.reached, has.heard.end))) have.gone have.listed

    lower : (lists : List LaterData) → AreOnward (walk.to + 1) lists → AreOnward walk.to lists
    lower [] onward = tt
    lower (l ∷ lists) onward = (omega (arith, onward.0), onward.1, onward.2)

    pub onward_left : AreOnward walk.to left
    onward_left = lower left have.onward

    found : (place : Option ℕ) → IsFirstAgainst case.ask.selection walk.to (values walk.rows) left place → Chained case walk.to place
    found place is = chain case walk.to walk.to have.gone left (values walk.rows) has.log place have.parted (up_to_lines case walk.to has.log have.gone walk.rows has.heard listed has.rows) onward_left is

    pub bad_above : (place : ℕ) → IsFirstAgainst case.ask.selection walk.to (values walk.rows) left (Some place) → IsBadAt case place
    bad_above place is = placed case read place (found (Some place) is)

    pub lawful : (held : ℕ) → IsFirstAgainst case.ask.selection walk.to (values walk.rows) left None → held + length left ≡ length case.later → IsAllTold case case.from walk.to held
    lawful held is count =
        let all = found None is in
        all_told case walk.to held all.0 has.log all.2 have.gone left all.1 has.heard have.parted listed have.onward all.3
        (omega (arith, count, ap length have.parted, length-append have.gone left))

-- ---- the texts of lines

pub broken : (case : BetweenData) (n : ℕ) (walk : Walk) → n < length case.texts → HasHeard case (take n case.texts) walk → IsToldByNone case (take (n + 1) case.texts) → IsBrokenBy case n
broken case n walk inside has refused = broken_by case n walk.to has.log inside has.heard refused

-- ---- one text after the other

module _ (one : TextsTellOneLine) (kept : WhatIsToldIsKept) (case : BetweenData) (read : IsBetweenRead case) (n : ℕ) (text : List ℕ) (old now : Walk) (walking : IsWalking case (take n case.texts) old)
    (inside : n < length case.texts) (next : take (n + 1) case.texts ≡ take n case.texts ++ text ∷ []) where
  pub step_on : IsTurn case.ask text old now turns.On → IsWalking case (take (n + 1) case.texts) now
  step_on is = subst (λ (t : List (List ℕ)). IsWalking case t now) (sym next) (goes one kept case read (take n case.texts) text old walking now is)

  pub step_bad : IsTurn case.ask text old now turns.Bad → IsBrokenBy case n
  step_bad is = broken case n old inside (all_heard one kept case read (take n case.texts) text old walking)
      (subst (IsToldByNone case) (sym next) (refuses one kept case read (take n case.texts) text old walking now is))

  pub step_end : IsTurn case.ask text old now turns.End → AreWalked case (n + 1) now
  step_end is = record {
    within = omega (arith, inside);
    has = subst (λ (t : List (List ℕ)). HasHeard case t now) (sym next) (loss_heard one kept case read (take n case.texts) text old walking now is);
    refused = λ more.
        let whole : take (n + 1 + 1) case.texts ≡ (take n case.texts ++ text ∷ []) ++ get_or case.texts (n + 1) [] ∷ [] =
        take_more case.texts (n + 1) [] more ∙ ap (λ (t : List (List ℕ)). t ++ get_or case.texts (n + 1) [] ∷ []) next in
        subst (IsToldByNone case) (sym whole) (loss_refuses one kept case read (take n case.texts) text old walking now is (get_or case.texts (n + 1) []));
  }

pub walked_all : (one : TextsTellOneLine) (kept : WhatIsToldIsKept) (case : BetweenData) (read : IsBetweenRead case) (n : ℕ) (walk : Walk) → length case.texts ≤ n → IsWalking case (take n case.texts) walk → HasHeard case case.texts walk
walked_all one kept case read n walk past walking = subst (λ (t : List (List ℕ)). HasHeard case t walk) (take_all case.texts n past) (all_heard one kept case read (take n case.texts) [] walk walking)

pub turn_moved : (a b : WatchAsk) (text other : List ℕ) (old now : Walk) (turn next : Turn) → a ≡ b → text ≡ other → turn ≡ next → IsTurn a text old now turn → IsTurn b other old now next
turn_moved a b text other old now turn next same texts turned is =
    subst (IsTurn b other old now) turned (subst (λ (t : List ℕ). IsTurn b t old now turn) texts (subst (λ (x : WatchAsk). IsTurn x text old now turn) same is))
