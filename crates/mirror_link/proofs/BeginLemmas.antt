-- How a mirror begins, and begins anew.
use Rattle.std.proofs.Common.{◌≡◌, ℕ, List, [], ◌++◌, Option, None, Ok, Err, ap, ◌∙◌, subst, inl}
use Rattle.line_stream.specs.Requests.{request_text}
use Rattle.line_stream.specs.declared.start.Start.TheVariants.{Revision}
use Rattle.kube_meta.specs.Rows.{RowData}
use Rattle.line_stream.specs.Heads.{AnswersHead, BeginsChunks, RefusesResponse, at_body}
use Rattle.line_stream.specs.Readers.{LinesData, most_line}
use Rattle.line_stream.specs.declared.refusal.LineNo.{LineNo}
use Rattle.mirror_law.specs.Following.{Follows}
use Rattle.mirror_law.specs.Mirrors.{opened_log}
use Rattle.mirror_law.proofs.FollowLemmas.{followings_begin}
use Rattle.mirror_link.specs.Beginning.{Begins, resume_request}
use Rattle.mirror_link.specs.Peers.{IsPeer, IsAskOf}
use Rattle.mirror_link.specs.Views.{MirrorData}
use Rattle.mirror_link.specs.Openings.{OpeningData, IsOpeningOf, opened_lines}
use Rattle.mirror_link.specs.OpeningRefusals.{reading_refusal}
use Rattle.mirror_link.specs.declared.link_refusal.LinkNo.{LinkNo}
use Rattle.rev_log.specs.Logs.{Log, end_of}
use Rattle.select_all.specs.declared.selection.Selection.{Selection}
use Rattle.select_all.specs.Streams.{TransitionData}
use Rattle.watch_rules.specs.declared.ask.WatchAsk.{WatchAsk}
use Rattle.watch_rules.specs.Bodies.{BeginsBody}
use Rattle.mirror_link.proofs.HearLemmas.{follows_as}

-- ---- the head of the stream

module _ (old new : LinesData) (taken : List ℕ) (left : Option (List ℕ)) (empty : old.at.kept ≡ []) (unbound : old.at.room ≡ None) (limit : old.at.most ≡ most_line) where
  -- a chunked body begins
  pub begins : (u : Unit {0}) → AnswersHead old (old.at.kept ++ taken) new left (Ok u) → Begins taken left (Ok u) new.at
  begins u (after, chunks, is) =
      (after, subst (λ (kept : List ℕ). BeginsChunks (kept ++ taken) after) empty chunks, ap (λ (r : LinesData). r.at) is ∙ ap (λ (room : Option ℕ). at_body room old.at.most after) unbound ∙ ap (λ (most : ℕ). at_body None most after) limit)

  -- none does
  pub begins_none : (fault : LineNo) (why : LinkNo) → why ≡ reading_refusal fault → AnswersHead old (old.at.kept ++ taken) new left (Err fault) → Begins taken left (Err why) new.at
  begins_none fault why why_is answers = inl (fault, why_is, subst (λ (kept : List ℕ). RefusesResponse (kept ++ taken) left fault) empty answers.0)

-- ---- what a mirror follows

-- a log that begins with an opening follows its lines
pub begun_follows : (opening : OpeningData) (s : Selection) (m : Log) (kept : List TransitionData) → IsOpeningOf opening → s ≡ opening.selection → m ≡ opened_log opening.base opening.rows → kept ≡ [] →
    (peer : Log) (ask : WatchAsk) (log_floor low : ℕ) → IsPeer peer s → IsAskOf s ask opening.base (opened_lines opening) →
    BeginsBody peer log_floor low ask opening.base (opened_lines opening) → Follows peer s opening.base opening.base (opened_lines opening) m kept
begun_follows opening s m kept lawful selection_is log_is kept_is peer ask log_floor low good asked begins =
    follows_as peer opening.selection opening.base opening.base (opened_lines opening) (opened_log opening.base opening.rows) [] s m kept selection_is log_is kept_is
    (followings_begin peer log_floor low opening.base opening.selection ask opening.rows good.log (asked.selection ∙ selection_is) lawful.pods lawful.old begins)

-- a log that begins with the parts of an opening begins with it
pub opened_is : (log : Log) (b base : ℕ) (items rows : List RowData) → log ≡ opened_log b items → b ≡ base → items ≡ rows → log ≡ opened_log base rows
opened_is log b base items rows is base_is rows_are = is ∙ ap (λ n. opened_log n items) base_is ∙ ap (opened_log base) rows_are

-- ---- the request

-- it is that of the mirror as contracts see it
pub request_is : (m : MirrorData) (ns : Option (List ℕ)) (from : ℕ) (label field : List ℕ) → ns ≡ m.selection.ns → from ≡ end_of m.log → label ≡ m.label → field ≡ m.field →
    request_text ns (Revision from) label field ≡ resume_request m
request_is m ns from label field ns_is from_is label_is field_is =
    ap (λ n. request_text n (Revision from) label field) ns_is ∙ ap (λ n. request_text m.selection.ns (Revision n) label field) from_is
    ∙ ap (λ n. request_text m.selection.ns (Revision (end_of m.log)) n field) label_is ∙ ap (λ n. request_text m.selection.ns (Revision (end_of m.log)) m.label n) field_is
