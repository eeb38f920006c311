-- Lines that tell a body.
use Rattle.std.proofs.Common.{◌≡◌, ℕ, Bool, true, false, ◌||◌, List, [], ◌∷◌, ◌++◌, map, Option, Some, None, if◌then◌else◌, refl, sym, ap, ◌∙◌, subst}
use Rattle.std.proofs.lemmas.List.{append-nil}
use Rattle.std.proofs.lemmas.List.Folds.{list_any-append}
use Rattle.std.specs.List.{list_any}
use Rattle.kube_meta.specs.Rows.{RowData}
use Rattle.rev_log.specs.Logs.{Log}
use Rattle.select_all.specs.Streams.{TransitionData, transitions}
use Rattle.watch_rules.specs.declared.ask.WatchAsk.{WatchAsk}
use Rattle.watch_rules.specs.Bodies.{Line, Told, Bookmark, Closing, Lost, Upto, Mark, Body, with_piece, with_loss, opened, position_of, initial_lines, opening_lines, piece_lines, loss_lines, lines_of, IsWatchBody, is_loss, AreOpen}
use Rattle.watch_rules.specs.Laws.{TellingsBegin, GoOn, TellingsGoOn, TellingsStay, BeginningsStay}
use Rattle.watch_rules.proofs.BodyLemmas as bodies

joined : (first then_lines : List Line) → AreOpen first → AreOpen then_lines → AreOpen (first ++ then_lines)
joined first then_lines free then_free = list_any-append is_loss first then_lines ∙ rw (free, then_free) refl

told : (ts : List TransitionData) → AreOpen (map Told ts)
told [] = refl
told (t ∷ ts) = told ts

rows_are_open : (rows : List RowData) → AreOpen (initial_lines rows)
rows_are_open [] = refl
rows_are_open (x ∷ rows) = rows_are_open rows

closing_is_open : (closing : Bool) (at : ℕ) → AreOpen (if closing then Closing at ∷ [] else [])
closing_is_open true at = refl
closing_is_open false at = refl

pub tellings_begin : TellingsBegin
tellings_begin log log_floor low ask at rows is =
    let body = bodies.bodies_begin log log_floor low ask at rows is in (
      record { body = opened at rows; lawful = body.0; begins = refl; lines_are = sym body.1; reached = refl },
      joined (initial_lines rows) (if ask.closing then Closing at ∷ [] else []) (rows_are_open rows) (closing_is_open ask.closing at),
    )

-- lines without a loss are those of a body without one
unended : (lines : List Line) (position : ℕ) (loss : Option ℕ) → AreOpen (lines ++ loss_lines position loss) → loss ≡ None
unended lines position None free = refl
unended lines position (Some floor) free =
    let bad : true ≡ false = sym (list_any-append is_loss lines (Lost position floor ∷ []) ∙ or_true (list_any is_loss lines)) ∙ free in
    absurd (cc)
  where
    or_true : (a : Bool) → (a || true) ≡ true
    or_true true = refl
    or_true false = refl

goes_on : (log : Log) (log_floor low : ℕ) (ask : WatchAsk) (body : Body) → IsWatchBody log log_floor low ask body → AreOpen (lines_of log ask body)
    → GoOn log log_floor low ask body.at (lines_of log ask body) (position_of body)
goes_on log log_floor low ask body is free =
    let none : body.loss ≡ None = unended (opening_lines ask body.at body.rows ++ piece_lines log ask.selection body.at body.pieces) (position_of body) body.loss free in
    record {
      stretch = λ to onward within.
          let ts : List TransitionData = transitions log ask.selection (position_of body) to in
          let next = bodies.bodies_go_on log log_floor low ask body (Upto to) none is (onward, within, tt) in (
            record {
              body = with_piece body (Upto to);
              lawful = next.0;
              begins = refl;
              lines_are = ap (λ (l : List Line). lines_of log ask body ++ l) (sym (append-nil (map Told ts))) ∙ sym next.1;
              reached = sym (bodies.position-append body.at body.pieces (Upto to ∷ []));
            },
            joined (lines_of log ask body) (map Told ts) free (told ts),
          );
      mark = λ wanted within.
          let next = bodies.bodies_go_on log log_floor low ask body Mark none is (wanted, within, tt) in (
            record {
              body = with_piece body Mark;
              lawful = next.0;
              begins = refl;
              lines_are = sym next.1;
              reached = sym (bodies.position-append body.at body.pieces (Mark ∷ []));
            },
            joined (lines_of log ask body) (Bookmark (position_of body) ∷ []) free refl,
          );
      loss = λ floor lost.
          let next = bodies.bodies_end log log_floor low ask body floor none is lost in
          record { body = with_loss body floor; lawful = next.0; begins = refl; lines_are = sym next.1; reached = refl };
    }

pub tellings_go_on : TellingsGoOn
tellings_go_on log log_floor low ask at lines p tells free =
    let here = goes_on log log_floor low ask tells.body tells.lawful (subst AreOpen tells.lines_are free) in
    subst (λ a. GoOn log log_floor low ask a lines p) tells.begins
    (subst (λ l. GoOn log log_floor low ask tells.body.at l p) (sym tells.lines_are)
    (subst (λ q. GoOn log log_floor low ask tells.body.at (lines_of log ask tells.body) q) (sym tells.reached) here))

pub tellings_stay : TellingsStay
tellings_stay log more log_floor later_floor low ask at lines p rises tells =
    let kept = bodies.bodies_are_kept log more log_floor later_floor low ask tells.body rises tells.lawful in
    record { body = tells.body; lawful = kept.0; begins = tells.begins; lines_are = tells.lines_are ∙ sym kept.1; reached = tells.reached }

pub beginnings_stay : BeginningsStay
beginnings_stay log more log_floor later_floor low ask at lines rises begins =
    (begins.0, begins.1, tellings_stay log more log_floor later_floor low ask at (lines ++ begins.0) begins.1 rises begins.2)
