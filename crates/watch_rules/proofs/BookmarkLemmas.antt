-- What stands before a bookmark.
use Rattle.std.proofs.Common.{◌≡◌, ℕ, ◌≤◌, Bool, true, false, IsTrue, List, [], ◌∷◌, ◌++◌, map, Option, Some, None, if◌then◌else◌, refl, sym, ap, ◌∙◌, append_assoc, arith}
use Rattle.std.proofs.lemmas.List.{append-nil}
use Rattle.std.proofs.lemmas.List.Elements.{filter_map-append}
use Rattle.kube_meta.specs.Rows.{RowData}
use Rattle.rev_log.specs.Logs.{Log, end_of}
use Rattle.select_all.specs.declared.selection.Selection.{Selection}
use Rattle.select_all.specs.Selecting.{selects}
use Rattle.select_all.specs.Streams.{TransitionData, transitions}
use Rattle.select_all.proofs.StreamLaws.{transitions_are_joined}
use Rattle.watch_rules.specs.declared.starts.Start.{Start}
use Rattle.watch_rules.specs.declared.starts.Start.TheVariants.{FromState, FromHere, FromRevision}
use Rattle.watch_rules.specs.declared.ask.WatchAsk.{WatchAsk}
use Rattle.watch_rules.specs.Starts.{is_from_state}
use Rattle.watch_rules.specs.Bodies.{Line, Told, Bookmark, Closing, Lost, BodyPiece, Upto, Mark, Body, position_of, initial, initial_lines, opening_lines, piece_lines, loss_lines, lines_of, IsOpening, ArePieces, told_by, told_in, is_loss}
use Rattle.watch_rules.specs.Laws.{BookmarksTellAll, ClosingsTellTheStart}
use Rattle.watch_rules.proofs.BodyLemmas.{told_in-map, none_told}

-- a line that carries no transition stands behind lines that all carry one
past : (ts : List TransitionData) (rest before after : List Line) (line : Line) → told_by line ≡ None → map Told ts ++ rest ≡ before ++ line ∷ after
    → (mid : List Line) × (before ≡ map Told ts ++ mid) × (rest ≡ mid ++ line ∷ after)
past [] rest before after line none e = (before, refl, e)
past (t ∷ ts) rest [] after line none e =
    let same : Told t ≡ line = cc in
    let bad : Some t ≡ None = ap told_by same ∙ none in
    absurd (cc)
past (t ∷ ts) rest (b ∷ before) after line none e =
    let first : Told t ≡ b = cc in
    let next : map Told ts ++ rest ≡ before ++ line ∷ after = cc in
    let found = past ts rest before after line none next in
    (found.0, ap (λ (l : List Line). b ∷ l) found.1 ∙ ap (λ (x : Line). x ∷ (map Told ts ++ found.0)) (sym first), found.2)

-- so what it tells is theirs, and then what stands between
told_in-past : (ts : List TransitionData) (before mid : List Line) → before ≡ map Told ts ++ mid → told_in before ≡ ts ++ told_in mid
told_in-past ts before mid is =
    ap told_in is ∙ filter_map-append told_by (map Told ts) mid ∙ ap (λ (l : List TransitionData). l ++ told_in mid) (told_in-map ts)

nothing : (before after : List Line) (line : Line) → [] ≡ before ++ line ∷ after → ⊥
nothing [] after line e = cc
nothing (b ∷ before) after line e = cc

not_in_loss : (position : ℕ) (loss : Option ℕ) (before after : List Line) (line : Line) → is_loss line ≡ false → loss_lines position loss ≡ before ++ line ∷ after → ⊥
not_in_loss position None before after line other e = nothing before after line e
not_in_loss position (Some floor) [] after line other e =
    let same : Lost position floor ≡ line = cc in
    let bad : true ≡ false = ap is_loss same ∙ other in
    cc
not_in_loss position (Some floor) (b ∷ before) after line other e =
    let rest : [] ≡ before ++ line ∷ after = cc in
    nothing before after line rest

-- ---- among the pieces

-- a bookmark at p, behind lines from a revision on
abbrev pub IsMarked : Log → Selection → Bool → ℕ → List Line → ℕ → Type 0
IsMarked log s bookmarks from mid p = IsTrue bookmarks × (from ≤ p) × (p ≤ end_of log) × (told_in mid ≡ transitions log s from p)

marked : (log : Log) (s : Selection) (bookmarks : Bool) (from : ℕ) (pieces : List BodyPiece) (position : ℕ) (loss : Option ℕ) (mid after : List Line) (p : ℕ)
    → ArePieces log bookmarks from pieces → piece_lines log s from pieces ++ loss_lines position loss ≡ mid ++ Bookmark p ∷ after
    → IsMarked log s bookmarks from mid p
marked log s bookmarks from [] position loss mid after p are e = absurd (not_in_loss position loss mid after (Bookmark p) refl e)
marked log s bookmarks from (Upto to ∷ more) position loss mid after p are e =
    let ts : List TransitionData = transitions log s from to in
    let rest : List Line = piece_lines log s to more in
    let cut = past ts (rest ++ loss_lines position loss) mid after (Bookmark p) refl (sym (append_assoc (map Told ts) rest (loss_lines position loss)) ∙ e) in
    let later = marked log s bookmarks to more position loss cut.0 after p are.2 cut.2 in (
      later.0,
      omega (arith, are.0, later.1),
      later.2,
      told_in-past ts mid cut.0 cut.1 ∙ ap (λ (l : List TransitionData). ts ++ l) later.3 ∙ transitions_are_joined (selects s) log s.resource from to p are.0 later.1,
    )
marked log s bookmarks from (Mark ∷ more) position loss [] after p are e =
    let here : from ≡ p = cc in
    (are.0, omega (arith, here), omega (arith, are.1, here), sym (none_told log s from) ∙ ap (λ (n : ℕ). transitions log s from n) here)
marked log s bookmarks from (Mark ∷ more) position loss (m ∷ mid) after p are e =
    let first : Bookmark from ≡ m = cc in
    let next : piece_lines log s from more ++ loss_lines position loss ≡ mid ++ Bookmark p ∷ after = cc in
    let later = marked log s bookmarks from more position loss mid after p are.2 next in
    (later.0, later.1, later.2, ap (λ (l : Line). told_in (l ∷ mid)) (sym first) ∙ later.3)

-- no closing bookmark stands there
unclosed : (log : Log) (s : Selection) (from : ℕ) (pieces : List BodyPiece) (position : ℕ) (loss : Option ℕ) (mid after : List Line) (p : ℕ)
    → piece_lines log s from pieces ++ loss_lines position loss ≡ mid ++ Closing p ∷ after → ⊥
unclosed log s from [] position loss mid after p e = not_in_loss position loss mid after (Closing p) refl e
unclosed log s from (Upto to ∷ more) position loss mid after p e =
    let ts : List TransitionData = transitions log s from to in
    let rest : List Line = piece_lines log s to more in
    let cut = past ts (rest ++ loss_lines position loss) mid after (Closing p) refl (sym (append_assoc (map Told ts) rest (loss_lines position loss)) ∙ e) in
    unclosed log s to more position loss cut.0 after p cut.2
unclosed log s from (Mark ∷ more) position loss [] after p e = cc
unclosed log s from (Mark ∷ more) position loss (m ∷ mid) after p e =
    let next : piece_lines log s from more ++ loss_lines position loss ≡ mid ++ Closing p ∷ after = cc in
    unclosed log s from more position loss mid after p next

-- ---- behind the initial events

rows_told : (rows : List RowData) → initial_lines rows ≡ map Told (map initial rows)
rows_told [] = refl
rows_told (x ∷ rows) = ap (λ (l : List Line). Told (initial x) ∷ l) (rows_told rows)

-- the bookmark that ends them, if there is one
abbrev pub closing_lines : Bool → ℕ → List Line
closing_lines closing at = if closing then Closing at ∷ [] else []

-- and all that follows
abbrev pub rest_lines : Log → WatchAsk → Body → List Line
rest_lines log ask body = piece_lines log ask.selection body.at body.pieces ++ loss_lines (position_of body) body.loss

parted : (log : Log) (ask : WatchAsk) (body : Body)
    → lines_of log ask body ≡ map Told (map initial body.rows) ++ (closing_lines ask.closing body.at ++ rest_lines log ask body)
parted log ask body =
    append_assoc (opening_lines ask body.at body.rows) (piece_lines log ask.selection body.at body.pieces) (loss_lines (position_of body) body.loss)
    ∙ append_assoc (initial_lines body.rows) (closing_lines ask.closing body.at) (rest_lines log ask body)
    ∙ ap (λ (l : List Line). l ++ (closing_lines ask.closing body.at ++ rest_lines log ask body)) (rows_told body.rows)

-- a bookmark that isn't the closing one stands among the pieces
marked_behind : (log : Log) (s : Selection) (bookmarks closing : Bool) (at : ℕ) (pieces : List BodyPiece) (position : ℕ) (loss : Option ℕ) (mid after : List Line) (p : ℕ)
    → ArePieces log bookmarks at pieces → closing_lines closing at ++ (piece_lines log s at pieces ++ loss_lines position loss) ≡ mid ++ Bookmark p ∷ after
    → IsMarked log s bookmarks at mid p
marked_behind log s bookmarks false at pieces position loss mid after p are e = marked log s bookmarks at pieces position loss mid after p are e
marked_behind log s bookmarks true at pieces position loss [] after p are e = absurd (cc)
marked_behind log s bookmarks true at pieces position loss (m ∷ mid) after p are e =
    let first : Closing at ≡ m = cc in
    let next : piece_lines log s at pieces ++ loss_lines position loss ≡ mid ++ Bookmark p ∷ after = cc in
    let later = marked log s bookmarks at pieces position loss mid after p are next in
    (later.0, later.1, later.2, ap (λ (l : Line). told_in (l ∷ mid)) (sym first) ∙ later.3)

pub bookmarks_tell_all : BookmarksTellAll
bookmarks_tell_all log log_floor low ask body before after p is e =
    let rows : List TransitionData = map initial body.rows in
    let cut = past rows (closing_lines ask.closing body.at ++ rest_lines log ask body) before after (Bookmark p) refl (sym (parted log ask body) ∙ e) in
    let found = marked_behind log ask.selection ask.bookmarks ask.closing body.at body.pieces (position_of body) body.loss cut.0 after p is.pieces cut.2 in
    record {
      wanted = found.0;
      onward = found.1;
      reached = found.2;
      told = told_in-past rows before cut.0 cut.1 ∙ ap (λ (l : List TransitionData). rows ++ l) found.3;
    }

closed : (log : Log) (s : Selection) (closing : Bool) (at : ℕ) (pieces : List BodyPiece) (position : ℕ) (loss : Option ℕ) (mid after : List Line) (p : ℕ)
    → closing_lines closing at ++ (piece_lines log s at pieces ++ loss_lines position loss) ≡ mid ++ Closing p ∷ after
    → IsTrue closing × (p ≡ at) × (mid ≡ [])
closed log s false at pieces position loss mid after p e = absurd (unclosed log s at pieces position loss mid after p e)
closed log s true at pieces position loss [] after p e =
    let here : p ≡ at = cc in
    (refl, here, refl)
closed log s true at pieces position loss (m ∷ mid) after p e =
    let next : piece_lines log s at pieces ++ loss_lines position loss ≡ mid ++ Closing p ∷ after = cc in
    absurd (unclosed log s at pieces position loss mid after p next)

state_reached : (log : Log) (s : Selection) (start : Start) (at : ℕ) (rows : List RowData) → IsTrue (is_from_state start) → IsOpening log s start at rows → at ≤ end_of log
state_reached log s (FromState meaning) at rows from is = is.1
state_reached log s (FromHere meaning) at rows from is = is.1
state_reached log s (FromRevision revision) at rows from is = absurd (cc)

pub closings_tell_the_start : ClosingsTellTheStart
closings_tell_the_start log log_floor low ask body before after p is e =
    let rows : List TransitionData = map initial body.rows in
    let cut = past rows (closing_lines ask.closing body.at ++ rest_lines log ask body) before after (Closing p) refl (sym (parted log ask body) ∙ e) in
    let found = closed log ask.selection ask.closing body.at body.pieces (position_of body) body.loss cut.0 after p cut.2 in
    record {
      wanted = found.0;
      starts = found.1;
      reached = omega (arith, found.1, state_reached log ask.selection ask.start body.at body.rows (ask.closing_a_state found.0) is.opening);
      told = cut.1 ∙ ap (λ (l : List Line). map Told rows ++ l) found.2 ∙ append-nil (map Told rows) ∙ sym (rows_told body.rows);
    }
