-- A walk ends.
use Rattle.std.proofs.Common.{◌≡◌, ℕ, zero, suc, ◌+◌, ◌-◌, ◌^◌, ◌<◌, ◌≤◌, max, Bool, List, [], ◌∷◌, ◌++◌, length, map, fold, Option, Some, None, All, refl, sym, ap, ◌∙◌, subst, append_assoc, inl, inr, arith}
use Rattle.std.specs.Prelude.{filter, nat_lt}
use Rattle.std.specs.List.{AllByRecursion}
use Rattle.std.proofs.lemmas.List.{append-nil, length-append}
use Rattle.std.proofs.lemmas.List.Elements.{recursion_from_All}
use Rattle.std.proofs.lemmas.List.Sums.{fold-append}
use Rattle.kube_meta.specs.Rows.{RowData}
use Rattle.rev_log.specs.Changes.{RevisionData}
use Rattle.rev_log.specs.Logs.{Log, IsLog, grown, end_of}
use Rattle.rev_log.specs.States.{row_at}
use Rattle.select_all.specs.declared.selection.Selection.{Selection}
use Rattle.select_all.specs.Selecting.{selects}
use Rattle.select_all.specs.Listings.{row_told}
use Rattle.select_all.specs.Streams.{TransitionData, transitions}
use Rattle.select_all.proofs.EventLaws.{all_weaker}
use Rattle.watch_rules.specs.declared.ask.WatchAsk.{WatchAsk}
use Rattle.watch_rules.specs.declared.starts.Start.{Start}
use Rattle.watch_rules.specs.declared.starts.Start.TheVariants.{FromState, FromHere, FromRevision}
use Rattle.watch_rules.specs.Bodies.{Line, Told, Bookmark, Closing, Lost, BodyPiece, Upto, Mark, Body, initial_lines, opening_lines, piece_lines, loss_lines, lines_of, position_of, reached_by, told_in, IsOpening, ArePieces, TellsBody, BeginsBody, AreOpen}
use Rattle.mirror_law.specs.Mirrors.{IsMirrorOf, AreToldBy}
use Rattle.mirror_law.specs.Following.{told_since, upto_of, upto_in, Follows}
use Rattle.mirror_law.proofs.FollowLemmas.{from_on, within_end, old_rows, told_behind}
use Rattle.mirror_law.proofs.LineLemmas.{told_since-append, body_told, body_within}
use Rattle.mirror_law.proofs.MirrorLemmas.{told_number, mirrors_go_on}
use Rattle.body_check.specs.Walks.{FitAtOnce, IsOwn, IsSettled, HasFirst, IsWalked, reach_of, IsEnded, EndsWalk, WalksEnd}
use Rattle.body_check.proofs.SettleLemmas.{settle}
use Rattle.body_check.proofs.WalkLemmas.{no_closing, grown_none, settled_body, end_settled}

-- ---- the lines of a body tell up to its position at most

upto_append : (from : ℕ) (first more : List Line) → upto_in from (first ++ more) ≡ upto_in (upto_in from first) more
upto_append from first more = fold-append (λ (at : ℕ) (l : Line). max at (upto_of l)) from first more

told_upto : (from to : ℕ) (ts : List TransitionData) → from ≤ to → AllByRecursion (λ t. t.rev ≤ to) ts → upto_in from (map Told ts) ≤ to
told_upto from to [] order within = order
told_upto from to (t ∷ ts) order within = told_upto (max from (t.rev - 1)) to ts (omega (arith, order, within.0)) within.1

loss_upto : (a position : ℕ) (loss : Option ℕ) → a ≤ position → upto_in a (loss_lines position loss) ≤ position
loss_upto a position None order = order
loss_upto a position (Some floor) order = omega (arith, order)

pieces_upto : (peer : Log) (s : Selection) (bookmarks : Bool) (a from : ℕ) (pieces : List BodyPiece) (loss : Option ℕ) → IsLog peer → ArePieces peer bookmarks from pieces → a ≤ from
    → upto_in a (piece_lines peer s from pieces ++ loss_lines (reached_by from pieces) loss) ≤ reached_by from pieces
pieces_upto peer s bookmarks a from [] loss is are order = loss_upto a from loss order
pieces_upto peer s bookmarks a from (Upto to ∷ more) loss is are order =
    let ts : List TransitionData = transitions peer s from to in
    let rest : List Line = piece_lines peer s to more ++ loss_lines (reached_by to more) loss in
    let within : AllByRecursion (λ t. t.rev ≤ to) ts = all_weaker (λ t. (from < t.rev) × (t.rev ≤ to)) (λ t. t.rev ≤ to) (λ t w. w.1) ts (told_number (selects s) peer s.resource from to is) in
    let first : upto_in a (map Told ts) ≤ to = told_upto a to ts (omega (arith, order, are.0)) within in
    let parts : upto_in a ((map Told ts ++ piece_lines peer s to more) ++ loss_lines (reached_by to more) loss) ≡ upto_in (upto_in a (map Told ts)) rest =
    ap (upto_in a) (append_assoc (map Told ts) (piece_lines peer s to more) (loss_lines (reached_by to more) loss)) ∙ upto_append a (map Told ts) rest in
    omega (arith, parts, pieces_upto peer s bookmarks (upto_in a (map Told ts)) to more loss is are.2 first)
pieces_upto peer s bookmarks a from (Mark ∷ more) loss is are order =
    pieces_upto peer s bookmarks (max a from) from more loss is are.2 (omega (arith, order))

pub none_listed : (peer : Log) (s : Selection) (start : Start) (from at : ℕ) (rows : List RowData) → start ≡ FromRevision from → IsOpening peer s start at rows → rows ≡ []
none_listed peer s (FromState meaning) from at rows is opening = absurd (cc)
none_listed peer s (FromHere meaning) from at rows is opening = opening.0
none_listed peer s (FromRevision revision) from at rows is opening = opening.0

body_upto : (peer : Log) (log_floor low : ℕ) (ask : WatchAsk) (from : ℕ) (lines : List Line) (p : ℕ) → IsLog peer → ask.start ≡ FromRevision from
    → TellsBody peer log_floor low ask from lines p → upto_in from lines ≤ p
body_upto peer log_floor low ask from lines p is start tells =
    let body : Body = tells.body in
    let s : Selection = ask.selection in
    let pieces : List Line = piece_lines peer s body.at body.pieces in
    let loss : List Line = loss_lines (position_of body) body.loss in
    let none : body.rows ≡ [] = none_listed peer s ask.start from body.at body.rows start tells.lawful.opening in
    let opening : opening_lines ask body.at body.rows ≡ [] = ap (opening_lines ask body.at) none ∙ no_closing ask from body.at start in
    let whole : lines ≡ pieces ++ loss = tells.lines_are ∙ ap (λ (l : List Line). l ++ pieces ++ loss) opening in
    let upto = pieces_upto peer s ask.bookmarks from body.at body.pieces body.loss is tells.lawful.pieces (omega (arith, tells.begins)) in
    omega (arith, ap (upto_in from) whole, upto, tells.reached)

-- ---- the end

module _ (ask : WatchAsk) (from : ℕ) (rows : List RowData) (lines : List Line) (m : Log) (kept : List TransitionData)
    (start : ask.start ≡ FromRevision from) (walked : IsWalked ask from rows lines m kept) where
  -- what a log that tells the lines has told behind the mirror's end
  record IsReached (peer : Log) (p : ℕ) : Type 0 where
    follows : Follows peer ask.selection from from lines m kept
    onward : end_of m ≤ p
    within : p ≤ end_of peer
    told : kept ≡ transitions peer ask.selection (end_of m) p

  reached : (peer : Log) (log_floor low : ℕ) (tail : List Line) (p : ℕ) → HasFirst ask.selection from rows peer → told_in tail ≡ []
      → TellsBody peer log_floor low ask from (lines ++ tail) p → IsReached peer p
  reached peer log_floor low tail p first silent tells =
      let follows : Follows peer ask.selection from from lines m kept = walked.peers peer log_floor low first (tail, p, tells) in
      let old = old_rows peer log_floor low from from ask lines m kept first.is follows (lines ++ tail) p tells in
      let whole : told_since from (lines ++ tail) ≡ transitions peer ask.selection from p = body_told peer log_floor low from ask first.is (lines ++ tail) p tells old in
      let none : told_since from tail ≡ [] = ap (filter (λ (t : TransitionData). nat_lt from t.rev)) silent in
      let same : told_since from lines ≡ transitions peer ask.selection from p =
      sym (append-nil (told_since from lines)) ∙ ap (λ (l : List TransitionData). told_since from lines ++ l) (sym none) ∙ sym (told_since-append from lines tail) ∙ whole in
      let upto : upto_in from (lines ++ tail) ≤ p = body_upto peer log_floor low ask from (lines ++ tail) p first.is start tells in
      let onward : end_of m ≤ p = omega (arith, follows.reached, upto_append from lines tail, from_on (upto_in from lines) tail, upto) in
      let reach = body_within peer log_floor low from ask first.is (lines ++ tail) p tells in
      record {
        follows = follows;
        onward = onward;
        within = omega (arith, reach, first.reached);
        told = told_behind peer log_floor low from from ask lines m kept first.is follows p onward same;
      }

  mirrored : (peer : Log) (p : ℕ) (more : List RevisionData) → HasFirst ask.selection from rows peer → IsReached peer p → AreToldBy ask.selection.resource kept (end_of m) more
      → end_of m + length more ≤ p → IsMirrorOf peer ask.selection from (grown m more)
  mirrored peer p more first is told within =
      mirrors_go_on (selects ask.selection) peer ask.selection.resource from p m more first.is is.follows.mirrors within is.within
      (subst (λ (l : List TransitionData). AreToldBy ask.selection.resource l (end_of m) more) is.told told)

  -- nothing is kept
  ends_here : kept ≡ [] → EndsWalk ask from rows lines m kept m
  ends_here none =
      let whole : lines ≡ walked.heard = walked.lines_are ∙ ap (λ (l : List TransitionData). walked.heard ++ map Told l) none ∙ append-nil walked.heard in
      record {
        ended = record {
          own = walked.own;
          body = subst (λ (l : List Line). TellsBody m 0 0 ask from l (end_of m)) (sym whole) walked.body;
          free = subst AreOpen (sym whole) walked.free;
          peers = λ peer log_floor low tail p first silent tells.
              let is : IsReached peer p = reached peer log_floor low tail p first silent tells in
              (is.onward, is.within, is.follows.mirrors);
        };
        more = [];
        grows = sym (grown_none m);
        end = ap (reach_of m) (sym none);
        stands = λ key. ap (fold (row_told key) (row_at m ask.selection.resource (end_of m) key)) (sym none);
      }

  -- some is
  some_above : (t : TransitionData) (more : List TransitionData) → kept ≡ t ∷ more → (peer : Log) (p : ℕ) → HasFirst ask.selection from rows peer → IsReached peer p → end_of m + 1 ≤ p
  some_above t more is peer p first reach =
      let within : AllByRecursion (λ u. (end_of m < u.rev) × (u.rev ≤ p)) (t ∷ more) =
      subst (AllByRecursion (λ u. (end_of m < u.rev) × (u.rev ≤ p))) (sym reach.told ∙ is) (told_number (selects ask.selection) peer ask.selection.resource (end_of m) p first.is) in
      omega (arith, within.0.0, within.0.1)

  ends_there : (t : TransitionData) (rest : List TransitionData) → kept ≡ t ∷ rest → end_of m + 1 ≤ 2 ^ 62 → (log : Log) × EndsWalk ask from rows lines m kept log
  ends_there t rest some within =
      let made = settle ask.selection from rows m kept walked.own walked.are zero (omega (arith, within)) in
      let more : List RevisionData = made.0 in
      let end : end_of (grown m made.0) ≡ end_of m + 1 = omega (arith, end_settled ask from rows lines m kept walked 1 made.0 made.1) in
      let body = settled_body ask from rows lines m kept walked 1 made.0 made.1 (omega (arith, end)) in (
        grown m made.0,
        record {
          ended = record {
            own = made.1.own;
            body = body.0;
            free = body.1;
            peers = λ peer log_floor low tail p first silent tells.
                let is : IsReached peer p = reached peer log_floor low tail p first silent tells in
                let above : end_of m + 1 ≤ p = some_above t rest some peer p first is in
                (omega (arith, end, above), is.within, mirrored peer p made.0 first is made.1.told (omega (arith, made.1.count, above)));
          };
          more = made.0;
          grows = refl;
          end = end ∙ ap (reach_of m) (sym some);
          stands = λ key. made.1.stands (end_of (grown m made.0)) key (omega (arith, end)) (omega (arith, end));
        },
      )

  ends : (l : List TransitionData) → kept ≡ l → reach_of m l ≤ 2 ^ 62 → (log : Log) × EndsWalk ask from rows lines m kept log
  ends [] none within = (m, ends_here none)
  ends (t ∷ rest) some within = ends_there t rest some within

pub walks_end : WalksEnd
walks_end ask from rows lines m kept start walked within = ends ask from rows lines m kept start walked kept refl within
