-- A stream is judged to be lawful.
use Rattle.std.proofs.Common.{◌≡◌, ℕ, ◌≤◌, IsTrue, List, map, IfSome, refl, sym, ap, ◌∙◌, subst, arith}
use Rattle.kube_meta.specs.Rows.{RowData}
use Rattle.meta_view.specs.declared.form.Form.TheVariants.{Whole}
use Rattle.rev_front.specs.Passes.{Pass}
use Rattle.rev_log.specs.Changes.{RevisionData}
use Rattle.rev_log.specs.Logs.{Log, grown}
use Rattle.select_all.specs.declared.selection.Selection.{Selection}
use Rattle.select_all.specs.declared.selection.Meaning.{Meaning}
use Rattle.select_all.specs.declared.selection.Meaning.TheVariants.{MostRecent, Any, NotOlder, Exact}
use Rattle.up_api.specs.Sections.{log_of as known_log}
use Rattle.watch_record.specs.declared.records.Record.{Record}
use Rattle.watch_rules.specs.Bodies.{Line, IsOpening, TellsBody}
use Rattle.watch_rules.proofs.LineLemmas.{tellings_stay}
use Rattle.watch_rules.specs.Starts.{is_never_exact}
use Rattle.watch_rules.specs.declared.starts.Start.{Start}
use Rattle.watch_rules.specs.declared.starts.Start.TheVariants.{FromState, FromHere, FromRevision}
use Rattle.watch_rules.specs.declared.ask.WatchAsk.{WatchAsk}
use Rattle.watch_lines.specs.Texts.{line_text}
use Rattle.client_api.specs.Fresh.{IsFresh}
use Rattle.client_api.specs.Starts.{meaning_of}
use Rattle.sess_turns.specs.Turns.{watch_lines}
use Rattle.sess_turns.proofs.BodyLemmas.{turns_tell}
use Rattle.body_check.specs.declared.judging.Checked.{Checked}
use Rattle.body_check.specs.declared.judging.Checked.TheVariants.{Lawful, Unlawful}
use Rattle.select_all.specs.Meanings.{IsAtLeast}
use Rattle.body_check.specs.Judging.{record_log, IsAllowed, MayStart, IsToldBy, IsJudged}
use Rattle.laws.specs.LawfulStreams.{StreamsAreLawful}
use Rattle.laws.proofs.TurnLemmas.{first_stays}

-- ---- where a watch begins, a body may

new_enough : (p : Pass RevisionData) (opened : Pass RevisionData) (meaning : Meaning) (at : ℕ) → p.first ≤ p.shown → IsFresh p meaning at opened → IsTrue (is_never_exact (FromState meaning))
    → (p.first ≤ at) × IsAtLeast meaning at
new_enough p opened MostRecent at low fresh never = (omega (arith, fresh.meets.0.1, fresh.meets.1), tt)
new_enough p opened Any at low fresh never = (omega (arith, fresh.meets), tt)
new_enough p opened (NotOlder asked) at low fresh never = (omega (arith, fresh.meets.1), fresh.meets.0)
new_enough p opened (Exact asked) at low fresh never = absurd (cc)

allowed : (log : Log) (s : Selection) (p opened : Pass RevisionData) (start : Start) (at : ℕ) (rows : List RowData) → log.first ≡ p.first → p.first ≤ p.shown
    → IsTrue (is_never_exact start) → IfSome (meaning_of start) (λ meaning. IsFresh p meaning at opened) → IsOpening log s start at rows → IsAllowed log start at
allowed log s p opened (FromState meaning) at rows first low never fresh opening =
    let enough = new_enough p opened meaning at low fresh never in
    (omega (arith, first, enough.0), opening.1, enough.1)
allowed log s p opened (FromHere meaning) at rows first low never fresh opening =
    let enough = new_enough p opened meaning at low fresh never in
    (omega (arith, first, enough.0), opening.1, enough.1)
allowed log s p opened (FromRevision revision) at rows first low never fresh opening = opening.1

-- ---- the judgement

decides : (case : Record) (at p : ℕ) (judgement : Checked) → MayStart case at → IsToldBy case at case.lines.items p → IsJudged case judgement → (from : ℕ) × (to : ℕ) × (judgement ≡ Lawful from to)
decides case at p (Lawful from to) may told is = (from, to, refl)
decides case at p (Unlawful line) may told is = absurd (is.none at p may told)

pub streams_lawful : StreamsAreLawful
streams_lawful terms p opened q ask watch case judgement base pass later start turns records is =
    let position : ℕ = turns.last.position in
    let at : ℕ = watch.begun.at in
    let lines : List Line = watch_lines terms ask opened watch in
    let same_log : grown (known_log terms.base q) records.log_on.0 ≡ record_log case = λ i. record { first = sym records.first_is i; base = base i; revisions = records.log_on.1 i } in
    let ask_is : ask ≡ case.ask = sym records.ask_is in
    let known : TellsBody (known_log terms.base q) q.floor terms.window ask at lines position = turns_tell terms p opened q ask watch start turns in
    let later_on : TellsBody (grown (known_log terms.base q) records.log_on.0) case.floor terms.window ask at lines position =
    tellings_stay (known_log terms.base q) records.log_on.0 q.floor case.floor terms.window ask at lines position records.floor_on known in
    let floored : TellsBody (record_log case) case.floor terms.window ask at lines position = subst (λ (log : Log). TellsBody log case.floor terms.window ask at lines position) same_log later_on in
    let wide : TellsBody (record_log case) case.floor case.window ask at lines position = subst (λ (n : ℕ). TellsBody (record_log case) case.floor n ask at lines position) (sym records.window_is) floored in
    let tells : TellsBody (record_log case) case.floor case.window case.ask at lines position = subst (λ (a : WatchAsk). TellsBody (record_log case) case.floor case.window a at lines position) ask_is wide in
    let texts_are : case.lines.items ≡ map (line_text Whole case.ask.selection.resource) lines =
    records.lines_are ∙ ap (λ (a : WatchAsk). map (line_text Whole a.selection.resource) lines) ask_is in
    let first : case.first ≡ p.first = records.first_is ∙ first_stays terms opened q ask watch turns ∙ later.log_is in
    let fresh : IfSome (meaning_of case.ask.start) (λ meaning. IsFresh p meaning at opened) = subst (λ (a : WatchAsk). IfSome (meaning_of a.start) (λ meaning. IsFresh p meaning at opened)) ask_is start.fresh in
    let opening : IsOpening (record_log case) case.ask.selection case.ask.start at tells.body.rows =
    subst (λ (n : ℕ). IsOpening (record_log case) case.ask.selection case.ask.start n tells.body.rows) tells.begins tells.lawful.opening in
    let may : MayStart case at = allowed (record_log case) case.ask.selection p opened case.ask.start at tells.body.rows first (omega (arith, pass.within)) case.ask.never_exact fresh opening in
    decides case at position judgement may (record { lines = lines; tells = tells; texts_are = texts_are }) is
