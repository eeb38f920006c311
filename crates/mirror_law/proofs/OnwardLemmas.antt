-- Behind its opening a body's lines go onward.
use Rattle.std.proofs.Common.{◌≡◌, ℕ, ◌-◌, ◌<◌, ◌≤◌, max, Bool, true, false, ◌⊎◌, IsTrue, List, [], ◌∷◌, ◌++◌, map, Option, Some, None, All, Less, Ordering, refl, sym, ap, ◌∙◌, subst, append_assoc, inl, inr, arith}
use Rattle.std.specs.Prelude.{◌||◌, not}
use Rattle.std.specs.List.{AllByRecursion, list_any}
use Rattle.std.specs.List.Sorted.{IsStrictlySortedBy}
use Rattle.std.proofs.lemmas.List.{append_cancel_left}
use Rattle.std.proofs.lemmas.List.Elements.{recursion_from_All}
use Rattle.std.proofs.lemmas.List.Sums.{fold-append}
use Rattle.kube_meta.specs.Rows.{RowData}
use Rattle.rev_log.specs.Logs.{Log, IsLog}
use Rattle.select_all.specs.declared.selection.Selection.{Selection}
use Rattle.select_all.specs.Selecting.{selects}
use Rattle.select_all.specs.Streams.{TransitionData, transitions, transition_cmp}
use Rattle.select_all.proofs.EventLaws.{all_weaker}
use Rattle.select_all.proofs.OrderLaws.{transitions_in_order}
use Rattle.watch_rules.specs.declared.ask.WatchAsk.{WatchAsk}
use Rattle.watch_rules.specs.declared.starts.Start.{Start}
use Rattle.watch_rules.specs.declared.starts.Start.TheVariants.{FromState, FromHere, FromRevision}
use Rattle.watch_rules.specs.Starts.{is_from_state}
use Rattle.watch_rules.specs.Bodies.{Line, Told, Bookmark, Closing, Lost, BodyPiece, Upto, Mark, Body, position_of, initial_lines, opening_lines, piece_lines, loss_lines, lines_of, IsOpening, ArePieces, IsWatchBody}
use Rattle.watch_rules.proofs.BookmarkLemmas.{rest_lines, closing_lines, closings_tell_the_start}
use Rattle.mirror_law.specs.Following.{upto_of, upto_in}
use Rattle.mirror_law.specs.Taking.{is_closing, IsPastOpening}
use Rattle.mirror_law.proofs.LineLemmas.{last_part, not_below}
use Rattle.mirror_law.proofs.FollowLemmas.{opening_upto}

-- ---- parts of lists

-- a line among lines, of which the first ones are told
parted : (ts : List TransitionData) (rest heard after : List Line) (line : Line) → map Told ts ++ rest ≡ heard ++ line ∷ after
    → ((mid : List Line) × (heard ≡ map Told ts ++ mid) × (rest ≡ mid ++ line ∷ after))
    ⊎ ((xs : List TransitionData) × (t : TransitionData) × (ys : List TransitionData) × (line ≡ Told t) × (ts ≡ xs ++ t ∷ ys) × (heard ≡ map Told xs))
parted [] rest heard after line same = inl (heard, refl, same)
parted (t ∷ ts) rest [] after line same =
    let first : line ≡ Told t = cc in
    inr ([], t, ts, first, refl, refl)
parted (t ∷ ts) rest (h ∷ heard) after line same =
    let first : h ≡ Told t = cc in
    let next : map Told ts ++ rest ≡ heard ++ line ∷ after = cc in
    elim (parted ts rest heard after line next) [
      | inl behind ↦ inl (behind.0, ap (λ (l : List Line). h ∷ l) behind.1 ∙ ap (λ (x : Line). x ∷ (map Told ts ++ behind.0)) first, behind.2)
      | inr within ↦ inr (t ∷ within.0, within.1, within.2, within.3, ap (λ (l : List TransitionData). t ∷ l) within.4, ap (λ (l : List Line). h ∷ l) within.5 ∙ ap (λ (x : Line). x ∷ map Told within.0) first)
    ]

nothing : (heard after : List Line) (line : Line) → [] ≡ heard ++ line ∷ after → ⊥
nothing [] after line same = cc
nothing (h ∷ heard) after line same = cc

pub below_at : {X : Type 0} (c : X → X → Ordering) (xs : List X) (t : X) (ys : List X) → IsStrictlySortedBy c (xs ++ t ∷ ys) → AllByRecursion (λ x. c x t ≡ Less) xs
unfolding IsStrictlySortedBy
below_at c [] t ys sorted = tt
below_at c (x ∷ xs) t ys sorted = ((last_part (λ y. c x y ≡ Less) xs (t ∷ ys) sorted.0).0, below_at c xs t ys sorted.1)

-- ---- up to where lines tell

upto_append : (from : ℕ) (first more : List Line) → upto_in from (first ++ more) ≡ upto_in (upto_in from first) more
upto_append from first more = fold-append (λ (at : ℕ) (l : Line). max at (upto_of l)) from first more

later : (a c : ℕ) (lines : List Line) → a ≤ c → upto_in a lines ≤ upto_in c lines
later a c [] order = order
later a c (line ∷ lines) order = later (max a (upto_of line)) (max c (upto_of line)) lines (omega (arith, order))

told_upto : (from to : ℕ) (ts : List TransitionData) → from ≤ to → AllByRecursion (λ t. t.rev ≤ to) ts → upto_in from (map Told ts) ≤ to
told_upto from to [] order within = order
told_upto from to (t ∷ ts) order within = told_upto (max from (t.rev - 1)) to ts (omega (arith, order, within.0)) within.1

told_below : (from rev : ℕ) (ts : List TransitionData) → from < rev → AllByRecursion (λ t. t.rev ≤ rev) ts → upto_in from (map Told ts) < rev
told_below from rev [] order within = order
told_below from rev (t ∷ ts) order within = told_below (max from (t.rev - 1)) rev ts (omega (arith, order, within.0)) within.1

-- ---- onward

-- an event is above, a bookmark isn't below; no closing bookmark comes
abbrev pub GoesOnward : ℕ → Line → Type 0
GoesOnward end (Told t) = end < t.rev
GoesOnward end (Bookmark at) = end ≤ at
GoesOnward end (Closing at) = ⊥
GoesOnward end (Lost at floor) = Unit {0}

sooner : (a c : ℕ) (line : Line) → a ≤ c → GoesOnward c line → GoesOnward a line
sooner a c (Told t) order onward = omega (arith, order, onward)
sooner a c (Bookmark at) order onward = omega (arith, order, onward)
sooner a c (Closing at) order onward = onward
sooner a c (Lost at floor) order onward = tt

pub pieces_go_on : (peer : Log) (s : Selection) (bookmarks : Bool) (from : ℕ) (pieces : List BodyPiece) (position : ℕ) (loss : Option ℕ) (heard after : List Line) (line : Line)
    → IsLog peer → ArePieces peer bookmarks from pieces → piece_lines peer s from pieces ++ loss_lines position loss ≡ heard ++ line ∷ after → GoesOnward (upto_in from heard) line
pieces_go_on peer s bookmarks from [] position None heard after line is are same = absurd (nothing heard after line same)
pieces_go_on peer s bookmarks from [] position (Some floor) [] after line is are same =
    let last : Lost position floor ≡ line = cc in
    subst (GoesOnward from) last tt
pieces_go_on peer s bookmarks from [] position (Some floor) (h ∷ heard) after line is are same =
    let rest : [] ≡ heard ++ line ∷ after = cc in
    absurd (nothing heard after line rest)
pieces_go_on peer s bookmarks from (Upto to ∷ more) position loss heard after line is are same =
    let ts : List TransitionData = transitions peer s from to in
    let rest : List Line = piece_lines peer s to more in
    let order = transitions_in_order (selects s) peer s.resource from to is in
    let within : AllByRecursion (λ t. (from < t.rev) × (t.rev ≤ to)) ts = recursion_from_All (λ t. (from < t.rev) × (t.rev ≤ to)) ts order.1 in
    elim (parted ts (rest ++ loss_lines position loss) heard after line (sym (append_assoc (map Told ts) rest (loss_lines position loss)) ∙ same)) [
      | inl behind ↦
          let onward = pieces_go_on peer s bookmarks to more position loss behind.0 after line is are.2 behind.2 in
          let told_to : upto_in from (map Told ts) ≤ to = told_upto from to ts are.0 (all_weaker (λ t. (from < t.rev) × (t.rev ≤ to)) (λ t. t.rev ≤ to) (λ t w. w.1) ts within) in
          let reach : upto_in from heard ≡ upto_in (upto_in from (map Told ts)) behind.0 = ap (upto_in from) behind.1 ∙ upto_append from (map Told ts) behind.0 in
          let less = later (upto_in from (map Told ts)) to behind.0 told_to in
          sooner (upto_in from heard) (upto_in to behind.0) line (omega (arith, reach, less)) onward
      | inr among ↦
          let xs : List TransitionData = among.0 in
          let t : TransitionData = among.1 in
          let sorted : IsStrictlySortedBy transition_cmp (xs ++ t ∷ among.2) = subst (IsStrictlySortedBy transition_cmp) among.4 order.0 in
          let older : AllByRecursion (λ u. u.rev ≤ t.rev) xs = all_weaker (λ u. transition_cmp u t ≡ Less) (λ u. u.rev ≤ t.rev) (λ u less. not_below u t less) xs (below_at transition_cmp xs t among.2 sorted) in
          let here = (last_part (λ u. (from < u.rev) × (u.rev ≤ to)) xs (t ∷ among.2) (subst (AllByRecursion (λ u. (from < u.rev) × (u.rev ≤ to))) among.4 within)).0 in
          let above : upto_in from (map Told xs) < t.rev = told_below from t.rev xs here.0 older in
          subst (GoesOnward (upto_in from heard)) (sym among.3) (subst (λ (l : List Line). upto_in from l < t.rev) (sym among.5) above)
    ]
pieces_go_on peer s bookmarks from (Mark ∷ more) position loss [] after line is are same =
    let first : Bookmark from ≡ line = cc in
    subst (GoesOnward from) first (omega arith)
pieces_go_on peer s bookmarks from (Mark ∷ more) position loss (h ∷ heard) after line is are same =
    let first : Bookmark from ≡ h = cc in
    let next : piece_lines peer s from more ++ loss_lines position loss ≡ heard ++ line ∷ after = cc in
    let onward = pieces_go_on peer s bookmarks from more position loss heard after line is are.2 next in
    let reach : upto_in from (h ∷ heard) ≡ upto_in from heard =
    ap (λ (l : Line). upto_in from (l ∷ heard)) (sym first) ∙ ap (λ (n : ℕ). upto_in n heard) (omega arith) in
    subst (λ (n : ℕ). GoesOnward n line) (sym reach) onward

-- ---- behind the opening

-- what was heard behind the opening of a body, and what follows
record IsBehind (peer : Log) (ask : WatchAsk) (body : Body) (lines : List Line) (line : Line) (more : List Line) : Type 0 where
  heard : List Line
  upto : upto_in body.at lines ≡ upto_in body.at heard
  rest : rest_lines peer ask body ≡ heard ++ line ∷ more

split_at : (lines : List Line) → list_any is_closing lines ≡ true → (before : List Line) × (p : ℕ) × (heard : List Line) × (lines ≡ before ++ Closing p ∷ heard)
split_at [] some = absurd (cc)
split_at (Closing p ∷ lines) some = ([], p, lines, refl)
split_at (Told t ∷ lines) some = let found = split_at lines some in (Told t ∷ found.0, found.1, found.2, ap (λ (l : List Line). Told t ∷ l) found.3)
split_at (Bookmark at ∷ lines) some = let found = split_at lines some in (Bookmark at ∷ found.0, found.1, found.2, ap (λ (l : List Line). Bookmark at ∷ l) found.3)
split_at (Lost at floor ∷ lines) some = let found = split_at lines some in (Lost at floor ∷ found.0, found.1, found.2, ap (λ (l : List Line). Lost at floor ∷ l) found.3)

-- the lines of a body are those of its opening and the rest
in_two : (peer : Log) (ask : WatchAsk) (body : Body) → lines_of peer ask body ≡ opening_lines ask body.at body.rows ++ rest_lines peer ask body
in_two peer ask body = append_assoc (opening_lines ask body.at body.rows) (piece_lines peer ask.selection body.at body.pieces) (loss_lines (position_of body) body.loss)

closing_at : (closing : Bool) (at : ℕ) → IsTrue closing → closing_lines closing at ≡ Closing at ∷ []
closing_at closing at is = rw is refl

behind_closing : (peer : Log) (log_floor low : ℕ) (ask : WatchAsk) (body : Body) (lines more : List Line) (line : Line) → IsWatchBody peer log_floor low ask body
    → lines ++ line ∷ more ≡ lines_of peer ask body → All (λ row. row.rev ≤ body.at) body.rows → list_any is_closing lines ≡ true → IsBehind peer ask body lines line more
behind_closing peer log_floor low ask body lines more line lawful same old some =
    let at = split_at lines some in
    let heard : List Line = at.2 in
    let whole : lines_of peer ask body ≡ at.0 ++ Closing at.1 ∷ (heard ++ line ∷ more) =
    sym same ∙ ap (λ (l : List Line). l ++ line ∷ more) at.3 ∙ append_assoc at.0 (Closing at.1 ∷ heard) (line ∷ more) in
    let found = closings_tell_the_start peer log_floor low ask body at.0 (heard ++ line ∷ more) at.1 lawful whole in
    let rows : List Line = initial_lines body.rows in
    let opening : opening_lines ask body.at body.rows ≡ rows ++ Closing body.at ∷ [] = ap (λ (l : List Line). rows ++ l) (closing_at ask.closing body.at found.wanted) in
    let left : lines_of peer ask body ≡ rows ++ Closing body.at ∷ rest_lines peer ask body =
    in_two peer ask body ∙ ap (λ (l : List Line). l ++ rest_lines peer ask body) opening ∙ append_assoc rows (Closing body.at ∷ []) (rest_lines peer ask body) in
    let right : lines_of peer ask body ≡ rows ++ Closing body.at ∷ (heard ++ line ∷ more) =
    whole ∙ ap (λ (l : List Line). l ++ Closing at.1 ∷ (heard ++ line ∷ more)) found.told ∙ ap (λ (n : ℕ). rows ++ Closing n ∷ (heard ++ line ∷ more)) found.starts in
    let behind : Closing body.at ∷ rest_lines peer ask body ≡ Closing body.at ∷ (heard ++ line ∷ more) =
    append_cancel_left rows (Closing body.at ∷ rest_lines peer ask body) (Closing body.at ∷ (heard ++ line ∷ more)) (sym left ∙ right) in
    let lines_are : lines ≡ (rows ++ Closing body.at ∷ []) ++ heard =
    at.3 ∙ ap (λ (l : List Line). l ++ Closing at.1 ∷ heard) found.told ∙ ap (λ (n : ℕ). rows ++ Closing n ∷ heard) found.starts ∙ sym (append_assoc rows (Closing body.at ∷ []) heard) in
    record {
      heard = heard;
      upto = ap (upto_in body.at) lines_are ∙ upto_append body.at (rows ++ Closing body.at ∷ []) heard
          ∙ ap (λ (n : ℕ). upto_in n heard) (opening_upto body.at body.rows (recursion_from_All (λ row. row.rev ≤ body.at) body.rows old));
      rest = cc;
    }

no_rows : (peer : Log) (s : Selection) (start : Start) (at : ℕ) (rows : List RowData) → is_from_state start ≡ false → IsOpening peer s start at rows → rows ≡ []
no_rows peer s (FromState meaning) at rows other opening = absurd (cc)
no_rows peer s (FromHere meaning) at rows other opening = opening.0
no_rows peer s (FromRevision revision) at rows other opening = opening.0

not_closing : (closing : Bool) (at : ℕ) → (IsTrue closing → ⊥) → closing_lines closing at ≡ []
not_closing true at never = absurd (never refl)
not_closing false at never = refl

behind_no_state : (peer : Log) (log_floor low : ℕ) (ask : WatchAsk) (body : Body) (lines more : List Line) (line : Line) → IsWatchBody peer log_floor low ask body
    → lines ++ line ∷ more ≡ lines_of peer ask body → is_from_state ask.start ≡ false → IsBehind peer ask body lines line more
behind_no_state peer log_floor low ask body lines more line lawful same other =
    let rows : body.rows ≡ [] = no_rows peer ask.selection ask.start body.at body.rows other lawful.opening in
    let never : IsTrue ask.closing → ⊥ = λ closing. let from : is_from_state ask.start ≡ true = ask.closing_a_state closing in let bad : true ≡ false = sym from ∙ other in cc in
    let opening : opening_lines ask body.at body.rows ≡ [] =
    ap (λ (r : List RowData). initial_lines r ++ closing_lines ask.closing body.at) rows ∙ not_closing ask.closing body.at never in
    record {
      heard = lines;
      upto = refl;
      rest = sym (ap (λ (l : List Line). l ++ rest_lines peer ask body) opening) ∙ sym (in_two peer ask body) ∙ sym same;
    }

past : (from closed : Bool) → IsTrue (not from || closed) → (from ≡ false) ⊎ (closed ≡ true)
past true closed is = inr is
past false closed is = inl refl

-- the next line of a body, behind its opening, goes onward from the lines before it
pub goes_onward : (peer : Log) (log_floor low : ℕ) (ask : WatchAsk) (body : Body) (lines more : List Line) (line : Line) → IsLog peer → IsWatchBody peer log_floor low ask body
    → lines ++ line ∷ more ≡ lines_of peer ask body → All (λ row. row.rev ≤ body.at) body.rows → IsPastOpening ask lines → GoesOnward (upto_in body.at lines) line
goes_onward peer log_floor low ask body lines more line is lawful same old opened =
    let behind : IsBehind peer ask body lines line more = elim (past (is_from_state ask.start) (list_any is_closing lines) opened) [
      | inl other ↦ behind_no_state peer log_floor low ask body lines more line lawful same other
      | inr closed ↦ behind_closing peer log_floor low ask body lines more line lawful same old closed
    ] in
    subst (λ (n : ℕ). GoesOnward n line) (sym behind.upto)
    (pieces_go_on peer ask.selection ask.bookmarks body.at body.pieces (position_of body) body.loss behind.heard more line is lawful.pieces behind.rest)
