-- The lines of a body over a log of which a revision has one change at most: each tells all that is between the position
-- before it and its own revision.
use Rattle.std.proofs.Common.{◌≡◌, ℕ, ◌+◌, ◌-◌, ◌<◌, ◌≤◌, max, Bool, true, false, IsTrue, List, [], ◌∷◌, ◌++◌, length, map, Option, Some, None, IfSome, if◌then◌else◌, refl, sym, ap, ◌∙◌, subst, append_assoc, append-nil, inl, inr, arith}
use Rattle.std.specs.List.{AllByRecursion}
use Rattle.std.proofs.lemmas.Bool.{cases_lt, false_from_ne_true}
use Rattle.std.proofs.lemmas.List.{length-append}
use Rattle.std.proofs.lemmas.List.Elements.{recursion_from_All}
use Rattle.kube_meta.specs.Rows.{RowData}
use Rattle.rev_log.specs.Logs.{Log, IsLog, end_of}
use Rattle.select_all.specs.declared.selection.Selection.{Selection}
use Rattle.select_all.specs.Selecting.{selects}
use Rattle.select_all.specs.Streams.{TransitionData, transition_by, transitions, events}
use Rattle.select_all.specs.Floors.{IsEvicted}
use Rattle.select_all.proofs.EventLaws.{all_weaker}
use Rattle.select_all.proofs.OrderLaws.{transitions_in_order}
use Rattle.select_all.proofs.StreamLaws.{transitions_are_joined, no_transitions}
use Rattle.watch_rules.specs.declared.ask.WatchAsk.{WatchAsk}
use Rattle.watch_rules.specs.declared.starts.Start.{Start}
use Rattle.watch_rules.specs.declared.starts.Start.TheVariants.{FromRevision}
use Rattle.watch_rules.specs.Starts.{is_from_state}
use Rattle.watch_rules.specs.Bodies.{Line, Told, Bookmark, Closing, Lost, BodyPiece, Upto, Mark, Body, reached_by, position_of, initial_lines, opening_lines, piece_lines, loss_lines, lines_of, IsOpening, ArePieces, TellsBody, BeginsBody}
use Rattle.mirror_law.specs.Clusters.{IsCluster, with_mark, with_marks}
use Rattle.mirror_law.proofs.LineLemmas.{before_event}
use Rattle.mirror_law.proofs.TakenLemmas.{fewer}

-- The lines follow one another from a position: an event is all that is told up to its revision, and up to a bookmark
-- and a loss nothing is.
abbrev pub Runs : Log → ℕ → ℕ → Selection → ℕ → List Line → Type 0
Runs peer log_floor low s x [] = Unit {0}
Runs peer log_floor low s x (Told t ∷ lines) = (x < t.rev) × (t.rev ≤ end_of peer) × (transitions peer s x t.rev ≡ t ∷ []) × Runs peer log_floor low s t.rev lines
Runs peer log_floor low s x (Bookmark at ∷ lines) = (x ≤ at) × (at ≤ end_of peer) × (transitions peer s x at ≡ []) × Runs peer log_floor low s at lines
Runs peer log_floor low s x (Closing at ∷ lines) = ⊥
Runs peer log_floor low s x (Lost at floor ∷ lines) =
    (x ≤ at) × (at ≤ max x (end_of peer)) × (transitions peer s x at ≡ []) × IsEvicted peer log_floor low s.resource at floor × (lines ≡ [])

-- pieces and a loss that tell them
pub record IsBuilt (peer : Log) (log_floor low : ℕ) (s : Selection) (bookmarks : Bool) (x : ℕ) (lines : List Line) : Type 0 where
  pub pieces : List BodyPiece
  pub loss : Option ℕ
  pub are : ArePieces peer bookmarks x pieces
  pub lost : IfSome loss (λ floor. IsEvicted peer log_floor low s.resource (reached_by x pieces) floor)
  pub lines_are : lines ≡ piece_lines peer s x pieces ++ loss_lines (reached_by x pieces) loss

-- a list of at most one that begins another one has its first alone, if all behind are younger
alone : (one two : List TransitionData) (t : TransitionData) (ys : List TransitionData) → length one ≤ 1 → AllByRecursion (λ u. t.rev < u.rev) two → t ∷ ys ≡ one ++ two → (one ≡ t ∷ []) × (ys ≡ two)
alone [] [] t ys few above same = absurd (cc)
alone [] (u ∷ two) t ys few above same =
    let here : t ≡ u = cc in
    absurd (omega (arith, ap (λ (v : TransitionData). v.rev) here, above.0))
alone (u ∷ []) two t ys few above same =
    let here : t ≡ u = cc in
    let rest : ys ≡ two = cc in
    (ap (λ (v : TransitionData). v ∷ []) (sym here), rest)
alone (u ∷ v ∷ one) two t ys few above same = absurd (omega (arith, few))

first_nil : (lines more : List Line) → lines ++ more ≡ [] → lines ≡ []
first_nil [] more is = refl
first_nil (line ∷ lines) more is = absurd (cc)

module _ (peer : Log) (log_floor low : ℕ) (s : Selection) (cluster : IsCluster peer s.resource) where
  -- the first transition above a position is all that is told up to its revision
  first_alone : (x p : ℕ) (t : TransitionData) (ys : List TransitionData) → t ∷ ys ≡ transitions peer s x p
      → (x < t.rev) × (t.rev ≤ p) × (transitions peer s x t.rev ≡ t ∷ []) × (ys ≡ transitions peer s t.rev p)
  first_alone x p t ys same =
      let found = before_event peer s x p [] t ys cluster.log tt same in
      let next : t.rev - 1 + 1 ≡ t.rev = omega (arith, found.0) in
      let one : List TransitionData = transitions peer s (t.rev - 1) t.rev in
      let two : List TransitionData = transitions peer s t.rev p in
      let few : length one ≤ 1 =
      subst (λ (n : ℕ). length (transitions peer s (t.rev - 1) n) ≤ 1) next
      (omega (arith, fewer (transition_by (selects s)) (events peer s.resource (t.rev - 1) (t.rev - 1 + 1)), cluster.single (t.rev - 1))) in
      let here : transitions peer s x t.rev ≡ one =
      sym (transitions_are_joined (selects s) peer s.resource x (t.rev - 1) t.rev (omega (arith, found.0)) (omega arith))
      ∙ ap (λ (l : List TransitionData). l ++ one) (sym found.2) in
      let within = recursion_from_All (λ u. (t.rev < u.rev) × (u.rev ≤ p)) two (transitions_in_order (selects s) peer s.resource t.rev p cluster.log).1 in
      let above : AllByRecursion (λ u. t.rev < u.rev) two = all_weaker (λ u. (t.rev < u.rev) × (u.rev ≤ p)) (λ u. t.rev < u.rev) (λ u w. w.0) two within in
      let whole : t ∷ ys ≡ one ++ two =
      same ∙ sym (transitions_are_joined (selects s) peer s.resource x t.rev p (omega (arith, found.0)) found.1) ∙ ap (λ (l : List TransitionData). l ++ two) here in
      let parts = alone one two t ys few above whole in
      (found.0, found.1, here ∙ parts.0, parts.1)

  -- ---- the lines of pieces run

  joined : (x to at : ℕ) → x ≤ to → to ≤ at → transitions peer s x to ≡ [] → transitions peer s x at ≡ transitions peer s to at
  joined x to at first second none =
      sym (transitions_are_joined (selects s) peer s.resource x to at first second) ∙ ap (λ (l : List TransitionData). l ++ transitions peer s to at) none

  -- from an earlier position, if nothing is told between
  lower : (x to : ℕ) (lines : List Line) → x ≤ to → to ≤ end_of peer → transitions peer s x to ≡ [] → Runs peer log_floor low s to lines → Runs peer log_floor low s x lines
  lower x to [] order reached none runs = tt
  lower x to (Told t ∷ lines) order reached none runs = (omega (arith, order, runs.0), runs.1, joined x to t.rev order (omega (arith, runs.0)) none ∙ runs.2, runs.3)
  lower x to (Bookmark at ∷ lines) order reached none runs = (omega (arith, order, runs.0), runs.1, joined x to at order runs.0 none ∙ runs.2, runs.3)
  lower x to (Closing at ∷ lines) order reached none runs = absurd runs
  lower x to (Lost at floor ∷ lines) order reached none runs =
      (omega (arith, order, runs.0), omega (arith, runs.1, reached), joined x to at order runs.0 none ∙ runs.2, runs.3, runs.4)

  told_run : (ts : List TransitionData) (x to : ℕ) (tail : List Line) → x ≤ to → to ≤ end_of peer → ts ≡ transitions peer s x to
      → ((lines more : List Line) → lines ++ more ≡ tail → Runs peer log_floor low s to lines)
      → (lines more : List Line) → lines ++ more ≡ map Told ts ++ tail → Runs peer log_floor low s x lines
  told_run [] x to tail order reached same rest lines more is = lower x to lines order reached (sym same) (rest lines more is)
  told_run (t ∷ ts) x to tail order reached same rest [] more is = tt
  told_run (t ∷ ts) x to tail order reached same rest (line ∷ lines) more is =
      let found = first_alone x to t ts same in
      let here : line ≡ Told t = cc in
      let on : lines ++ more ≡ map Told ts ++ tail = cc in
      subst (λ (l : Line). Runs peer log_floor low s x (l ∷ lines)) (sym here)
      (found.0, omega (arith, found.1, reached), found.2, told_run ts t.rev to tail found.1 reached found.3 rest lines more on)

  pub pieces_run : (bookmarks : Bool) (pieces : List BodyPiece) (loss : Option ℕ) (x : ℕ) → ArePieces peer bookmarks x pieces
      → IfSome loss (λ floor. IsEvicted peer log_floor low s.resource (reached_by x pieces) floor)
      → (lines more : List Line) → lines ++ more ≡ piece_lines peer s x pieces ++ loss_lines (reached_by x pieces) loss → Runs peer log_floor low s x lines
  pieces_run bookmarks [] None x are lost [] more is = tt
  pieces_run bookmarks [] None x are lost (line ∷ lines) more is = absurd (cc)
  pieces_run bookmarks [] (Some floor) x are lost [] more is = tt
  pieces_run bookmarks [] (Some floor) x are lost (line ∷ lines) more is =
      let here : line ≡ Lost x floor = cc in
      let over : lines ++ more ≡ [] = cc in
      subst (λ (l : Line). Runs peer log_floor low s x (l ∷ lines)) (sym here)
      (omega arith, omega arith, no_transitions (selects s) peer s.resource x x (omega arith), lost, first_nil lines more over)
  pieces_run bookmarks (Upto to ∷ pieces) loss x are lost lines more is =
      told_run (transitions peer s x to) x to (piece_lines peer s to pieces ++ loss_lines (reached_by to pieces) loss) are.0 are.1 refl
      (pieces_run bookmarks pieces loss to are.2 lost) lines more
      (is ∙ append_assoc (map Told (transitions peer s x to)) (piece_lines peer s to pieces) (loss_lines (reached_by to pieces) loss))
  pieces_run bookmarks (Mark ∷ pieces) loss x are lost [] more is = tt
  pieces_run bookmarks (Mark ∷ pieces) loss x are lost (line ∷ lines) more is =
      let here : line ≡ Bookmark x = cc in
      let on : lines ++ more ≡ piece_lines peer s x pieces ++ loss_lines (reached_by x pieces) loss = cc in
      subst (λ (l : Line). Runs peer log_floor low s x (l ∷ lines)) (sym here)
      (omega arith, are.1, no_transitions (selects s) peer s.resource x x (omega arith), pieces_run bookmarks pieces loss x are.2 lost lines more on)

  -- ---- bookmarks behind events run too

  pub marked : (x : ℕ) (lines : List Line) → Runs peer log_floor low s x lines → Runs peer log_floor low s x (with_marks lines)
  marked x [] runs = tt
  marked x (Told t ∷ lines) runs =
      (runs.0, runs.1, runs.2, (omega arith, runs.1, no_transitions (selects s) peer s.resource t.rev t.rev (omega arith), marked t.rev lines runs.3))
  marked x (Bookmark at ∷ lines) runs = (runs.0, runs.1, runs.2, marked at lines runs.3)
  marked x (Closing at ∷ lines) runs = absurd runs
  marked x (Lost at floor ∷ lines) runs = (runs.0, runs.1, runs.2, runs.3, ap with_marks runs.4)

  pub marked_last : (x : ℕ) (lines : List Line) (t : TransitionData) → Runs peer log_floor low s x (lines ++ Told t ∷ []) → Runs peer log_floor low s x ((lines ++ Told t ∷ []) ++ Bookmark t.rev ∷ [])
  marked_last x [] t runs = (runs.0, runs.1, runs.2, (omega arith, runs.1, no_transitions (selects s) peer s.resource t.rev t.rev (omega arith), tt))
  marked_last x (Told u ∷ lines) t runs = (runs.0, runs.1, runs.2, marked_last u.rev lines t runs.3)
  marked_last x (Bookmark at ∷ lines) t runs = (runs.0, runs.1, runs.2, marked_last at lines t runs.3)
  marked_last x (Closing at ∷ lines) t runs = absurd runs
  marked_last x (Lost at floor ∷ lines) t runs = absurd (omega (arith, length-append lines (Told t ∷ []), ap (λ (l : List Line). length l) runs.4))

  -- ---- lines that run are those of pieces

  pub built : (bookmarks : Bool) → IsTrue bookmarks → (x : ℕ) (lines : List Line) → Runs peer log_floor low s x lines → IsBuilt peer log_floor low s bookmarks x lines
  built bookmarks wanted x [] runs = record { pieces = []; loss = None; are = tt; lost = tt; lines_are = refl }
  built bookmarks wanted x (Told t ∷ lines) runs =
      let more : IsBuilt peer log_floor low s bookmarks t.rev lines = built bookmarks wanted t.rev lines runs.3 in
      record {
        pieces = Upto t.rev ∷ more.pieces;
        loss = more.loss;
        are = (omega (arith, runs.0), runs.1, more.are);
        lost = more.lost;
        lines_are = ap (λ (l : List Line). Told t ∷ l) more.lines_are
            ∙ ap (λ (ts : List TransitionData). (map Told ts ++ piece_lines peer s t.rev more.pieces) ++ loss_lines (reached_by t.rev more.pieces) more.loss) (sym runs.2);
      }
  built bookmarks wanted x (Bookmark at ∷ lines) runs =
      let more : IsBuilt peer log_floor low s bookmarks at lines = built bookmarks wanted at lines runs.3 in
      record {
        pieces = Upto at ∷ Mark ∷ more.pieces;
        loss = more.loss;
        are = (runs.0, runs.1, (wanted, runs.1, more.are));
        lost = more.lost;
        lines_are = ap (λ (l : List Line). Bookmark at ∷ l) more.lines_are
            ∙ ap (λ (ts : List TransitionData). (map Told ts ++ Bookmark at ∷ piece_lines peer s at more.pieces) ++ loss_lines (reached_by at more.pieces) more.loss) (sym runs.2);
      }
  built bookmarks wanted x (Closing at ∷ lines) runs = absurd runs
  built bookmarks wanted x (Lost at floor ∷ lines) runs = elim (cases_lt x at) [
    | inl later ↦ record {
      pieces = Upto at ∷ [];
      loss = Some floor;
      are = (runs.0, omega (arith, runs.1, later), tt);
      lost = runs.3;
      lines_are = ap (λ (l : List Line). Lost at floor ∷ l) runs.4
          ∙ ap (λ (ts : List TransitionData). (map Told ts ++ []) ++ Lost at floor ∷ []) (sym runs.2);
    }
    | inr here ↦
        let same : at ≡ x = omega (arith, here, runs.0) in
        record {
          pieces = [];
          loss = Some floor;
          are = tt;
          lost = subst (λ (n : ℕ). IsEvicted peer log_floor low s.resource n floor) same runs.3;
          lines_are = ap (λ (l : List Line). Lost at floor ∷ l) runs.4 ∙ ap (λ (n : ℕ). Lost n floor ∷ []) same;
        }
  ]

-- ---- bodies of watches from a revision

started : (peer : Log) (s : Selection) (start : Start) (from at : ℕ) (rows : List RowData) → start ≡ FromRevision from → IsOpening peer s start at rows → (rows ≡ []) × (at ≡ from)
started peer s start from at rows same opening = subst (λ (st : Start). IsOpening peer s st at rows) same opening

unclosed : (ask : WatchAsk) (from : ℕ) → ask.start ≡ FromRevision from → ask.closing ≡ false
unclosed ask from start = false_from_ne_true ask.closing (λ yes. let bad : false ≡ true = sym (ap is_from_state start) ∙ ask.closing_a_state yes in cc)

no_opening : (ask : WatchAsk) (from at : ℕ) (rows : List RowData) → ask.start ≡ FromRevision from → rows ≡ [] → opening_lines ask at rows ≡ []
no_opening ask from at rows start none =
    ap (λ (l : List RowData). initial_lines l ++ (if ask.closing then Closing at ∷ [] else [])) none
    ∙ ap (λ (b : Bool). if b then Closing at ∷ [] else []) (unclosed ask from start)

module _ (peer : Log) (log_floor low from : ℕ) (ask : WatchAsk) (cluster : IsCluster peer ask.selection.resource) (start : ask.start ≡ FromRevision from) where
  pub begins_run : (lines : List Line) → BeginsBody peer log_floor low ask from lines → Runs peer log_floor low ask.selection from lines
  begins_run lines begins =
      let tells : TellsBody peer log_floor low ask from (lines ++ begins.0) begins.1 = begins.2 in
      let body : Body = tells.body in
      let opening = started peer ask.selection ask.start from body.at body.rows start tells.lawful.opening in
      let all : lines ++ begins.0 ≡ piece_lines peer ask.selection body.at body.pieces ++ loss_lines (position_of body) body.loss =
      tells.lines_are ∙ ap (λ (l : List Line). l ++ piece_lines peer ask.selection body.at body.pieces ++ loss_lines (position_of body) body.loss) (no_opening ask from body.at body.rows start opening.0) in
      subst (λ (n : ℕ). Runs peer log_floor low ask.selection n lines) opening.1
      (pieces_run peer log_floor low ask.selection cluster ask.bookmarks body.pieces body.loss body.at tells.lawful.pieces tells.lawful.lost lines begins.0 all)

  pub run_begins : IsTrue ask.bookmarks → (lines : List Line) → Runs peer log_floor low ask.selection from lines → BeginsBody peer log_floor low ask from lines
  run_begins wanted lines runs =
      let made : IsBuilt peer log_floor low ask.selection ask.bookmarks from lines = built peer log_floor low ask.selection cluster ask.bookmarks wanted from lines runs in
      let body : Body = record { at = from; rows = []; pieces = made.pieces; loss = made.loss } in
      let tells : TellsBody peer log_floor low ask from (lines ++ []) (position_of body) = record {
        body = body;
        lawful = record { opening = subst (λ (st : Start). IsOpening peer ask.selection st from []) (sym start) (refl, refl); pieces = made.are; lost = made.lost };
        begins = refl;
        lines_are = append-nil lines ∙ made.lines_are
            ∙ ap (λ (l : List Line). l ++ piece_lines peer ask.selection from made.pieces ++ loss_lines (position_of body) made.loss) (sym (no_opening ask from from [] start refl));
        reached = refl;
      } in
      ([], position_of body, tells)
