-- What a session writes to a mirror's watch may be heard.
use Rattle.std.proofs.Common.{◌≡◌, ℕ, List, [], ◌∷◌, ◌++◌, sym, ap, subst, ◌∙◌, append_assoc}
use Rattle.line_stream.specs.declared.start.Start.{Start}
use Rattle.line_stream.specs.declared.start.Start.TheVariants.{State, Revision}
use Rattle.rev_log.specs.Laws.{FittingLogsAreLogs}
use Rattle.rev_log.specs.Logs.{Log}
use Rattle.select_all.specs.declared.selection.Selection.{Selection}
use Rattle.up_api.specs.Sections.{log_of}
use Rattle.watch_lines.specs.Laws.{LinesReadBack, TextsHaveNoLineFeed}
use Rattle.watch_rules.specs.declared.ask.WatchAsk.{WatchAsk}
use Rattle.watch_rules.specs.declared.starts.Start.{Start as WatchStart}
use Rattle.watch_rules.specs.declared.starts.Start.TheVariants.{FromRevision}
use Rattle.watch_rules.specs.Bodies.{Line, IsOpening, TellsBody, BeginsBody}
use Rattle.laws.specs.MirrorQueries.{IsMirrorsWatch, BeganAt}
use Rattle.laws.specs.ServedMirrors.{ServersAreMirrored}
use Rattle.laws.proofs.PeerLemmas.{logs_are_peers}
use Rattle.laws.proofs.QueryLemmas.{watches_are_taken}
use Rattle.laws.proofs.ReadLemmas.{watches_are_read}

-- the first of lines that begin a body begin it
first_begin : (log : Log) (log_floor low at : ℕ) (ask : WatchAsk) (lines before after : List Line) (line : Line) → lines ≡ before ++ line ∷ after
    → BeginsBody log log_floor low ask at lines → BeginsBody log log_floor low ask at (before ++ line ∷ [])
first_begin log log_floor low at ask lines before after line split begins =
    let joined : lines ++ begins.0 ≡ (before ++ line ∷ []) ++ (after ++ begins.0) =
    ap (λ (l : List Line). l ++ begins.0) split ∙ append_assoc before (line ∷ after) begins.0 ∙ sym (append_assoc before (line ∷ []) (after ++ begins.0)) in
    (after ++ begins.0, begins.1, subst (λ (l : List Line). TellsBody log log_floor low ask at l begins.1) joined begins.2)

-- a watch from a revision begins there
began : (log : Log) (log_floor low at : ℕ) (ask : WatchAsk) (lines : List Line) (s : Selection) (start : Start) → IsMirrorsWatch s start ask → BeginsBody log log_floor low ask at lines → BeganAt start at
began log log_floor low at ask lines s State is begins = tt
began log log_floor low at ask lines s (Revision revision) is begins =
    let tells : TellsBody log log_floor low ask at (lines ++ begins.0) begins.1 = begins.2 in
    let opening : IsOpening log ask.selection (FromRevision revision) tells.body.at tells.body.rows =
    subst (λ (start : WatchStart). IsOpening log ask.selection start tells.body.at tells.body.rows) is.starts.0 tells.lawful.opening in
    sym tells.begins ∙ opening.1

pub servers_are_mirrored : FittingLogsAreLogs → LinesReadBack → TextsHaveNoLineFeed → ServersAreMirrored
servers_are_mirrored logs back feeds terms p opened q ask watch ended room bytes more read reader s start none pass holds is starts turns may same stands =
    let body = watches_are_read back feeds terms p opened q ask watch ended room bytes more read reader starts turns may same stands in
    let at : ℕ = body.0 in
    let lines : List Line = body.1.lines in
    let begun : BeganAt start at = began (log_of terms.base q) q.floor terms.window at ask lines s start is body.1.begins in (
      at,
      lines,
      body.1.texts_are,
      begun,
      λ before after line split past. record {
        peer = logs_are_peers logs terms.base q s none pass holds;
        asked = watches_are_taken s start ask at before is begun past;
        begins = first_begin (log_of terms.base q) q.floor terms.window at ask lines before after line split body.1.begins;
      },
    )
