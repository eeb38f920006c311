-- What a caller makes of a list and of the turns of a watch.
use Rattle.std.proofs.Common.{◌≡◌, ℕ, ◌+◌, ◌≤◌, Bool, List, [], ◌∷◌, ◌++◌, Option, Some, refl, ap, sym, ◌∙◌, subst, length-append, arith}
use Rattle.std.specs.Prelude.{Result, Ok, Err, IfOk}
use Rattle.kube_meta.specs.Rows.{RowData}
use Rattle.rev_front.specs.Passes.{Pass, IsPass, Whole, end_from, last_of}
use Rattle.rev_log.specs.Changes.{RevisionData}
use Rattle.rev_log.specs.Logs.{Fits, end_of}
use Rattle.up_api.specs.Sections.{log_of}
use Rattle.up_store.specs.declared.writes.WriteAsk.{WriteAsk}
use Rattle.up_store.specs.declared.writes.Written.{Written}
use Rattle.up_store.specs.Replies.{IsAccepted}
use Rattle.up_store.specs.Writes.{write_of}
use Rattle.select_all.specs.declared.selection.Meaning.TheVariants.{MostRecent}
use Rattle.list_rules.specs.declared.ask.ListAsk.{ListAsk}
use Rattle.watch_rules.specs.declared.ask.WatchAsk.{WatchAsk}
use Rattle.watch_rules.specs.Bodies.{Line, TellsBody, AreOpen, opening_lines}
use Rattle.client_api.specs.declared.answers.ListNo.{ListNo}
use Rattle.client_api.specs.declared.answers.Took.{Took}
use Rattle.client_api.specs.declared.answers.Took.TheVariants.{Events, Quiet, Lost}
use Rattle.client_api.specs.Alone.{IsSoleRead, SoleRead}
use Rattle.client_api.specs.Answers.{ListedData, BegunData}
use Rattle.client_api.specs.Facts.{Facts, Watched, IsOnward}
use Rattle.client_api.specs.Fresh.{Meets}
use Rattle.client_api.specs.Lists.{IsListAnswer, IsListed}
use Rattle.client_api.specs.Starts.{IsWatchStart, begun_watch}
use Rattle.client_api.specs.Turns.{IsWatchTurn, IsTurnAnswer, watch_after, watch_left}
use Rattle.client_api.specs.Laws.{turn_lines, position_after, IsLasting}
use Rattle.client_api.proofs.LawLemmas.{loads_do_end, starts_do_tell, turns_do_tell}

-- a current list of a sole client is at the log's end
pub newest-at-end : (base : List RowData) (p q : Pass RevisionData) (ask : ListAsk) (answer : Result ListedData ListNo) → IsPass Fits p → IsOnward p q → ask.meaning ≡ MostRecent →
    IsListAnswer base p ask answer q → SoleRead p answer q → IfOk answer (λ listed. listed.rev ≡ end_from q.first q.seen)
newest-at-end base p q ask (Ok listed) lawful onward meant is sole =
    let meets : Meets p MostRecent listed.rev q = subst (λ m. Meets p m listed.rev q) meant is.fresh.meets in
    let last : last_of q ≡ end_from q.first q.seen = loads_do_end p q meets.0 sole.loads in
    omega (arith, last, meets.1, is.fresh.seen)
newest-at-end base p q ask (Err fault) lawful onward meant is sole = tt

-- an accepted write is the last revision that is seen
pub accepted_end : (base : List RowData) (mirror : Bool) (p q : Pass RevisionData) (ask : WriteAsk) (written : Written) → IsAccepted base mirror p ask written q → written.rev ≡ end_from q.first q.seen
accepted_end base mirror p q ask written is =
    let end : end_of (log_of base q) ≡ end_of is.before + 1 =
    ap end_of is.committed ∙ omega (arith, length-append is.before.revisions (write_of is.before ask ∷ [])) in
    is.written_is.number ∙ sym end

-- a current list after it has it
pub own-listed : (base : List RowData) (mirror : Bool) (p m q : Pass RevisionData) (write : WriteAsk) (ask : ListAsk) (written : Written) (listed : ListedData) → IsPass Fits m →
    ask.meaning ≡ MostRecent → IsAccepted base mirror p write written m → IsListed base m ask listed q → written.rev ≤ listed.rev
own-listed base mirror p m q write ask written listed lawful meant is list =
    let meets : Meets m MostRecent listed.rev q = subst (λ k. Meets m k listed.rev q) meant list.fresh.meets in
    omega (arith, accepted_end base mirror p m write written is, lawful.within, meets.0.1, meets.1)

-- and is at it, where nobody else holds the log
pub own-listed-alone : (base : List RowData) (mirror : Bool) (p m q : Pass RevisionData) (write : WriteAsk) (ask : ListAsk) (written : Written) (listed : ListedData) → IsPass Fits m → IsOnward m q →
    ask.meaning ≡ MostRecent → IsAccepted base mirror p write written m → IsListed base m ask listed q → IsSoleRead m q → listed.rev ≡ written.rev
own-listed-alone base mirror p m q write ask written listed lawful onward meant is list sole =
    newest-at-end base m q ask (Ok listed) lawful onward meant list sole
    ∙ ap (λ (w : Whole RevisionData). end_from w.first w.log) sole.same
    ∙ sym (accepted_end base mirror p m write written is)

-- the lines so far, of a body that goes on
pub record Told (base : List RowData) (window : ℕ) (ask : WatchAsk) (q : Pass RevisionData) (position : ℕ) : Type 0 where
  pub at : ℕ
  pub lines : List Line
  pub tells : TellsBody (log_of base q) q.floor window ask at lines position
  pub free : AreOpen lines

-- a watch that goes on: it stands at the position up to which its lines so far tell
pub record Goes (base : List RowData) (window : ℕ) (ask : WatchAsk) (f : Facts) (q : Pass RevisionData) (position : ℕ) : Type 0 where
  pub watching : f.watching ≡ Some (record { selection = ask.selection; position = position })
  pub window_is : f.window ≡ window
  pub told : Told base window ask q position

pub goes-first : (base : List RowData) (p q : Pass RevisionData) (ask : WatchAsk) (begun : BegunData) (old new : Facts) (at : ℕ) → IsWatchStart base p ask begun q →
    new ≡ record old { watching = begun_watch ask (Ok begun) } → begun.at ≡ at → Goes base old.window ask new q at
goes-first base p q ask begun old new at is facts same =
    let tells = starts_do_tell base old.window p q ask begun is in
    record {
      watching = ap (λ (f : Facts). f.watching) facts ∙ ap (λ n. Some (record { selection = ask.selection; position = n })) same;
      window_is = ap (λ (f : Facts). f.window) facts;
      told = subst (Told base old.window ask q) same (record { at = begun.at; lines = opening_lines ask begun.at begun.rows; tells = tells.0; free = tells.1 });
    }

module _ (base : List RowData) (window : ℕ) (ask : WatchAsk) (old : Facts) (p q : Pass RevisionData) (position : ℕ) where
  abbrev watched : Watched
  watched = record { selection = ask.selection; position = position }

  turn-of : (took : Took) → Goes base window ask old p position → IsTurnAnswer base old.window p old.watching (Ok took) q → IsWatchTurn base window p watched took q
  turn-of took goes is =
      subst (λ (z : ℕ × Option Watched). IsTurnAnswer base z.0 p z.1 (Ok took) q) {x = (old.window, old.watching)} {y = (window, Some watched)} (λ i. (goes.window_is i, goes.watching i)) is

  stands-after : (took : Took) → IsLasting took → watch_after took watched ≡ Some (record { selection = ask.selection; position = position_after took position })
  stands-after (Events from upto lines) lasts = refl
  stands-after (Quiet upto reached) lasts = refl
  stands-after (Lost at floor) lasts = absurd lasts

  pub goes-on : (took : Took) (new : Facts) (next : ℕ) → Goes base window ask old p position → IsOnward p q → IsTurnAnswer base old.window p old.watching (Ok took) q →
      new ≡ record old { watching = watch_left (Ok took) old.watching } → position_after took position ≡ next → IsLasting took → Goes base window ask new q next
  goes-on took new next goes onward is facts same lasts =
      let tells = turns_do_tell base window p q ask goes.told.at goes.told.lines position took onward.extends goes.told.tells goes.told.free (turn-of took goes is) in
      let moved : Goes base window ask new q (position_after took position) = record {
        watching = ap (λ (f : Facts). f.watching) facts ∙ ap (λ (w : Option Watched). watch_left (Ok took) w) goes.watching ∙ stands-after took lasts;
        window_is = ap (λ (f : Facts). f.window) facts ∙ goes.window_is;
        told = record { at = goes.told.at; lines = goes.told.lines ++ turn_lines took; tells = tells.0; free = tells.1 lasts };
      } in
      subst (Goes base window ask new q) same moved

  pub goes-last : (took : Took) (at floor : ℕ) → Goes base window ask old p position → IsOnward p q → IsTurnAnswer base old.window p old.watching (Ok took) q → took ≡ Lost at floor →
      (from : ℕ) × (lines : List Line) × TellsBody (log_of base q) q.floor window ask from lines position
  goes-last took at floor goes onward is lost =
      let tells = turns_do_tell base window p q ask goes.told.at goes.told.lines position took onward.extends goes.told.tells goes.told.free (turn-of took goes is) in (
        goes.told.at,
        goes.told.lines ++ turn_lines took,
        subst (TellsBody (log_of base q) q.floor window ask goes.told.at (goes.told.lines ++ turn_lines took)) (ap (λ (t : Took). position_after t position) lost) tells.0,
      )
