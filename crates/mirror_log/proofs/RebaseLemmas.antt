-- A mirror's log that begins anew.
use Rattle.std.proofs.Common.{◌≡◌, ℕ, suc, ◌+◌, ◌-◌, ◌^◌, ◌≤◌, List, [], ◌∷◌, length, fold, Ok, Err, is_some, refl, sym, ap, ◌∙◌, subst, append_assoc, arith, length-append, length-take}
use Rattle.std.specs.BTreeSet.{BTreeSet}
use Rattle.std.specs.Prelude.{Bool, Result}
use Rattle.std.proofs.lemmas.List.{append-nil}
use Rattle.kube_meta.specs.Rows.{RowData, row_with}
use Rattle.rev_front.specs.Passes.{Pass, IsPass, Extends, FitFrom}
use Rattle.rev_log.specs.Changes.{RevisionData}
use Rattle.rev_log.specs.Logs.{Log, IsLog, Fits, end_of, grown, upto}
use Rattle.rev_log.specs.States.{IsStateAt, row_at, row_next, row_in_base}
use Rattle.rev_log.proofs.GrowthLemmas.{upto-end}
use Rattle.select_all.specs.declared.selection.Selection.{Selection}
use Rattle.up_api.specs.Sections.{log_of, log_upto}
use Rattle.up_store.specs.Hearing.{AreAscending, AreHeard, filled}
use Rattle.up_store.proofs.HearLemmas.{ascending-end, filled-end}
use Rattle.mirror_log.specs.Bridges.{Bridges}
use Rattle.mirror_law.proofs.RowLemmas.{logs_go_on}
use Rattle.mirror_log.specs.Intakes.{IntakeData, IsAtEnd, IsClear, has}
use Rattle.mirror_log.specs.declared.refusal.RebaseNo.{RebaseNo}
use Rattle.mirror_log.specs.declared.refusal.RebaseNo.TheVariants.{Behind, OtherLog, Passed, Memory}
use Rattle.mirror_log.specs.Kept.{Holds}
use Rattle.mirror_log.specs.MirrorLogs.{MirrorLogData, Rests}
use Rattle.mirror_log.specs.Rebasing.{Rebases, IsStoreRefusal, HasAdded, CommitsAll}
use Rattle.mirror_log.proofs.PassLemmas.{added, added_to}
use Rattle.mirror_log.proofs.SparseLemmas.{filled_fits}
use Rattle.mirror_log.proofs.StepLemmas.{view, same_log, clear}

-- revisions that fit behind a log make a log of it
logs_go_on_all : (log : Log) (more : List RevisionData) → IsLog log → FitFrom Fits (end_of log) more → end_of log + length more ≤ 2 ^ 62 → IsLog (grown log more)
logs_go_on_all log [] is fit within = subst (λ (revisions : List RevisionData). IsLog (record log { revisions = revisions })) (sym (append-nil log.revisions)) is
logs_go_on_all log (r ∷ more) is fit within =
    let first : Fits (end_of log + 1) r = subst (λ (n : ℕ). Fits n r) (omega arith) (fit 0 r refl) in
    let next : IsLog (grown log (r ∷ [])) = logs_go_on log r is first.1 first.0 (omega (arith, within)) in
    let end : end_of (grown log (r ∷ [])) ≡ end_of log + 1 = omega (arith, length-append log.revisions (r ∷ [])) in
    let rest : FitFrom Fits (end_of (grown log (r ∷ []))) more = λ i found at. subst (λ (n : ℕ). Fits n found) (omega (arith, end)) (fit (suc i) found at) in
    subst (λ (revisions : List RevisionData). IsLog (record log { revisions = revisions })) (append_assoc log.revisions (r ∷ []) more)
    (logs_go_on_all (grown log (r ∷ [])) more next rest (omega (arith, end, within)))

-- ---- the rows at the end

module _ (base : List RowData) (mirror : Bool) (p q : Pass RevisionData) (i : IntakeData) (pass : IsPass Fits p) (on : Extends p q) (holds : Holds base mirror p i)
    (old : MirrorLogData) (is : view base p i ≡ old) where
  end_is : i.to ≡ end_of old.log
  end_is = holds.at.end ∙ ap (λ (m : MirrorLogData). end_of m.log) is

  -- a state of the store at the log's end is one of the log
  pub state_at_end : (rows : List RowData) → IsStateAt (log_of base q) i.selection.resource i.to rows → IsStateAt old.log old.selection.resource (end_of old.log) rows
  state_at_end rows state =
      let cut : Log = log_upto base q i.to in
      let short : end_of cut ≤ i.to = omega (arith, length-take (i.to - q.first) q.seen, on.log_is, holds.begun) in
      let all : upto cut i.to ≡ upto (log_of base q) i.to = upto-end cut i.to short in
      let here : IsStateAt cut i.selection.resource i.to rows = record {
        rising = state.rising;
        exact = λ key. state.exact key ∙ sym (ap (fold (row_next i.selection.resource key) (row_in_base base i.selection.resource key)) all);
      } in
      let log : cut ≡ old.log = same_log base mirror p q i on holds ∙ ap (λ (m : MirrorLogData). m.log) is in
      subst (λ (s : Selection). IsStateAt old.log s.resource (end_of old.log) rows) (ap (λ (m : MirrorLogData). m.selection) is)
      (subst (λ (n : ℕ). IsStateAt old.log i.selection.resource n rows) end_is (subst (λ (l : Log). IsStateAt l i.selection.resource i.to rows) log here))

  -- ---- revisions are added

  module _ (revisions : List RevisionData) (to : ℕ) (j : IntakeData) (heard : AreHeard base p i.to revisions to q) (floor : q.floor ≡ to)
      (up : AreAscending (end_of old.log) revisions to) (cleared : IsClear i to j) where
    up_here : AreAscending i.to revisions to
    up_here = subst (λ (n : ℕ). AreAscending n revisions to) (sym end_is) up

    long : i.to + length (filled i.to revisions to) ≡ to
    long = filled-end i.to revisions to up_here

    log_is : log_upto base q j.to ≡ grown old.log (filled (end_of old.log) revisions to)
    log_is =
        ap (log_upto base q) (cleared.to_is ∙ sym long)
        ∙ added base p q (filled i.to revisions to) i.to heard.before pass on holds.seen heard.shown (sym heard.follow) heard.committed
        ∙ ap (λ (m : MirrorLogData). grown m.log (filled i.to revisions to)) is
        ∙ ap (λ (n : ℕ). grown old.log (filled n revisions to)) end_is

    pub added_end : to ≡ end_of (grown old.log (filled (end_of old.log) revisions to))
    added_end = omega (arith, filled-end (end_of old.log) revisions to up, length-append old.log.revisions (filled (end_of old.log) revisions to))

    pub holds_added : to ≤ 2 ^ 62 → IsAtEnd old.selection.resource j (grown old.log (filled (end_of old.log) revisions to)) → Holds base mirror q j
    holds_added within at =
        let log : IsLog old.log = subst (λ (m : MirrorLogData). IsLog m.log) is holds.log in
        record {
          a_mirror = holds.a_mirror;
          begun = omega (arith, on.log_is, holds.begun, cleared.to_is, ascending-end i.to revisions to up_here);
          seen = omega (
            arith,
            cleared.to_is,
            long,
            added_to base p q (filled i.to revisions to) i.to heard.before pass on holds.seen heard.shown (sym heard.follow) heard.committed,
          );
          log = subst IsLog (sym log_is)
              (logs_go_on_all old.log (filled (end_of old.log) revisions to) log (filled_fits (end_of old.log) revisions to up) (omega (arith, filled-end (end_of old.log) revisions to up, within)));
          lawful = clear i j to holds.lawful cleared within;
          at = subst (λ (s : Selection). IsAtEnd s.resource j (log_upto base q j.to)) (sym (cleared.selection ∙ ap (λ (m : MirrorLogData). m.selection) is)) (subst (IsAtEnd old.selection.resource j) (sym log_is) at);
        }

    pub has_added : HasAdded old revisions to (view base q j)
    has_added = record {
      selection = cleared.selection ∙ ap (λ (m : MirrorLogData). m.selection) is;
      most_gap = cleared.most_gap ∙ ap (λ (m : MirrorLogData). m.most_gap) is;
      kept = cleared.kept;
      log = log_is;
      end = ap end_of log_is ∙ sym added_end;
      floor = floor;
    }

-- ---- the log begins anew

module _ (old mid new : MirrorLogData) (rows : List RowData) (base : ℕ) (still : Rests old mid) where
  -- the keys of the rows are those that stand once the revisions are added
  pub keys_stand : (state : List RowData) (revisions : List RevisionData) (keys : BTreeSet (List ℕ)) → IsStateAt old.log old.selection.resource (end_of old.log) state → Bridges old.selection.resource (end_of old.log) state base rows revisions
      → ((key : List ℕ) → has keys key ≡ is_some (row_with rows key))
      → (let log : Log = grown mid.log (filled (end_of mid.log) revisions base) in (key : List ℕ) → has keys key ≡ is_some (row_at log mid.selection.resource (end_of log) key))
  keys_stand state revisions keys is bridges know key =
      let all : List RevisionData = filled (end_of old.log) revisions base in
      let end : base ≡ end_of (grown old.log all) = omega (arith, filled-end (end_of old.log) revisions base bridges.rise, length-append old.log.revisions all) in
      know key
      ∙ ap (λ row. is_some row) ((bridges.leads old.log refl is).exact key ∙ ap (λ (n : ℕ). row_at (grown old.log all) old.selection.resource n key) end)
      ∙ ap (λ (l : Log). let log : Log = grown l (filled (end_of l) revisions base) in is_some (row_at log old.selection.resource (end_of log) key)) (sym still.log)
      ∙ ap (λ (s : Selection). let log : Log = grown mid.log (filled (end_of mid.log) revisions base) in is_some (row_at log s.resource (end_of log) key)) (sym still.selection)

  pub rests_on : Rests mid new → Rests old new
  rests_on then = record { selection = then.selection ∙ still.selection; most_gap = then.most_gap ∙ still.most_gap; log = then.log ∙ still.log; kept = then.kept ∙ still.kept }

  refused : (after : MirrorLogData) (why : RebaseNo) → Rests old after → IsStoreRefusal old why after → Rebases old rows base (Err why) after
  refused after (Behind to) stays why = absurd why
  refused after OtherLog stays why = absurd why
  refused after (Passed at) stays why = (stays, why)
  refused after Memory stays why = stays

  moved : (why : RebaseNo) → IsStoreRefusal mid why new → IsStoreRefusal old why new
  moved (Behind to) is = is
  moved OtherLog is = is
  moved (Passed at) is = (omega (arith, is.0, ap end_of still.log), is.1)
  moved Memory is = is

  pub rebases : (state : List RowData) (revisions : List RevisionData) (answer : Result ℕ RebaseNo) → IsStateAt old.log old.selection.resource (end_of old.log) state → Bridges old.selection.resource (end_of old.log) state base rows revisions
      → CommitsAll mid revisions base answer new → Rebases old rows base answer new
  rebases state revisions (Ok to) is bridges has =
      let log : new.log ≡ grown old.log (filled (end_of old.log) revisions base) =
      has.0.log ∙ ap (λ (l : Log). grown l (filled (end_of l) revisions base)) still.log in (
        record {
          selection = has.0.selection ∙ still.selection;
          most_gap = has.0.most_gap ∙ still.most_gap;
          kept = has.0.kept;
          more = filled (end_of old.log) revisions base;
          log = log;
          end = has.0.end;
          state = subst (λ (l : Log). IsStateAt l old.selection.resource base rows) (sym log) (bridges.leads old.log refl is);
          floor = has.0.floor;
        },
        has.1,
      )
  rebases state revisions (Err why) is bridges has = refused new why (rests_on has.0) (moved why has.1)
