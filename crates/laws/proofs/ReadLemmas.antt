-- The stream of a watch, read.
use Rattle.std.proofs.Common.{◌≡◌, ◌≢◌, ℕ, Bool, true, false, List, [], ◌∷◌, ◌++◌, get_or, map, All, refl, sym, ap, ◌∙◌, subst, append_assoc, append-nil, arith}
use Rattle.std.specs.Prelude.{◌||◌}
use Rattle.std.specs.List.{AllByRecursion, flat_map, list_any}
use Rattle.std.proofs.lemmas.List.Elements.{All-from_recursion, All-map}
use Rattle.http_send.specs.Replies.{stream_head_text, chunk_text, stream_end_text}
use Rattle.kube_meta.specs.declared.resources.Resource.{Resource}
use Rattle.line_stream.specs.Readers.{most_line}
use Rattle.line_stream.specs.Standing.{IsLine as IsReadLine}
use Rattle.meta_view.specs.declared.form.Form.TheVariants.{Whole}
use Rattle.rev_log.specs.Logs.{Log}
use Rattle.sess_turns.specs.Streams.{frames_of, stream_text}
use Rattle.sess_turns.specs.Turns.{watch_lines}
use Rattle.sess_turns.proofs.BodyLemmas.{turns_are_bodies}
use Rattle.line_stream.specs.Streams.{whole_stream, AreRead}
use Rattle.line_stream.proofs.AgreeLemmas.{streams-read-back}
use Rattle.up_api.specs.Sections.{log_of}
use Rattle.watch_lines.specs.Feeds.{HasNoLineFeed, is_line_feed}
use Rattle.watch_lines.specs.Laws.{LinesReadBack, TextsHaveNoLineFeed, as_read}
use Rattle.watch_rules.specs.declared.ask.WatchAsk.{WatchAsk}
use Rattle.watch_rules.specs.Bodies.{Line, Body, BeginsBody, lines_of, position_of}
use Rattle.watch_lines.specs.Texts.{line_text}
use Rattle.laws.specs.MirroredStreams.{MayBeRead, WatchesAreRead, in_chunks}

-- ---- lines that may be read

-- no byte of a text is a line feed
within : (text : List ℕ) → HasNoLineFeed text → AllByRecursion (λ (b : ℕ). b ≢ 10) text
within [] none = tt
within (b ∷ text) none = (λ same. feed b text same none, within text (rest b text none))
  where
    feed : (b : ℕ) (text : List ℕ) → b ≡ 10 → HasNoLineFeed (b ∷ text) → ⊥
    feed b text same none = let first : HasNoLineFeed (10 ∷ text) = subst (λ (n : ℕ). HasNoLineFeed (n ∷ text)) same none in cc

    either : (a c : Bool) → (a || c) ≡ false → c ≡ false
    either true c none = absurd (cc)
    either false c none = none

    rest : (b : ℕ) (text : List ℕ) → HasNoLineFeed (b ∷ text) → HasNoLineFeed text
    rest b text none = either (is_line_feed b) (list_any is_line_feed text) none

readable : LinesReadBack → TextsHaveNoLineFeed → (resource : Resource) (line : Line) → MayBeRead resource line → IsReadLine most_line (line_text Whole resource line)
readable back feeds resource line may =
    let text : List ℕ = line_text Whole resource line in
    (All-from_recursion (λ (b : ℕ). b ≢ 10) text (within text (feeds resource text (as_read line) ((back resource line (as_read line) may.0).1 refl))), may.1)

all_readable : LinesReadBack → TextsHaveNoLineFeed → (resource : Resource) (lines : List Line) → All (MayBeRead resource) lines → All (IsReadLine most_line) (map (line_text Whole resource) lines)
all_readable back feeds resource lines may = All-map (IsReadLine most_line) (line_text Whole resource) lines (λ k line inside. readable back feeds resource (get_or lines k line) (may k line inside))

-- ---- what is written

frames : (resource : Resource) (lines : List Line) → frames_of in_chunks resource lines ≡ flat_map (λ text. chunk_text (text ++ 10 ∷ [])) (map (line_text Whole resource) lines)
frames resource [] = refl
frames resource (line ∷ lines) =
    ap (λ (rest : List ℕ). chunk_text (line_text Whole resource line ++ 10 ∷ []) ++ rest) (frames resource lines)

-- it is a whole stream, or a beginning of one
written : (resource : Resource) (lines : List Line) (ended : Bool) → (behind : List ℕ) × (stream_text in_chunks resource lines ended ++ behind ≡ whole_stream (map (line_text Whole resource) lines))
written resource lines true = (
  [],
  append-nil (stream_text in_chunks resource lines true) ∙ ap (λ (f : List ℕ). stream_head_text ++ (f ++ stream_end_text)) (frames resource lines)
      ∙ sym (append_assoc stream_head_text (flat_map (λ text. chunk_text (text ++ 10 ∷ [])) (map (line_text Whole resource) lines)) stream_end_text),
)
written resource lines false =
    (stream_end_text, ap (λ (f : List ℕ). (stream_head_text ++ f) ++ stream_end_text) (append-nil (frames_of in_chunks resource lines) ∙ frames resource lines))

-- what a beginning of it begins
begins_whole : (bytes more behind stream all : List ℕ) → bytes ++ more ≡ stream → stream ++ behind ≡ all → bytes ++ (more ++ behind) ≡ all
begins_whole bytes more behind stream all same whole = sym (append_assoc bytes more behind) ∙ ap (λ (l : List ℕ). l ++ behind) same ∙ whole

-- ---- what is read

-- the first of some texts are those of the first lines
first_lines : (T : Line → List ℕ) (lines : List Line) (read later : List (List ℕ)) → map T lines ≡ read ++ later → (begun : List Line) × (rest : List Line) × (lines ≡ begun ++ rest) × (read ≡ map T begun)
first_lines T lines [] later same = ([], lines, refl, refl)
first_lines T [] (text ∷ read) later same = absurd (cc)
first_lines T (line ∷ lines) (text ∷ read) later same =
    let here : text ≡ T line = cc in
    let rest : map T lines ≡ read ++ later = cc in
    let more = first_lines T lines read later rest in
    (line ∷ more.0, more.1, ap (λ (l : List Line). line ∷ l) {y = more.0 ++ more.1} more.2, both text (T line) read (map T more.0) here more.3)
  where
    both : (t u : List ℕ) (ts us : List (List ℕ)) → t ≡ u → ts ≡ us → t ∷ ts ≡ u ∷ us
    both t u ts us one rest = cc

same_lines : (all first : List Line) (log : Log) (ask : WatchAsk) (body : Body) → all ≡ first → all ≡ lines_of log ask body → first ≡ lines_of log ask body
same_lines all first log ask body one two = sym one ∙ two

pub watches_are_read : LinesReadBack → TextsHaveNoLineFeed → WatchesAreRead
watches_are_read back feeds terms p opened q ask watch ended room bytes more read reader start turns may same stands =
    let resource : Resource = ask.selection.resource in
    let lines : List Line = watch_lines terms ask opened watch in
    let log : Log = log_of terms.base q in
    let texts : List (List ℕ) = map (line_text Whole resource) lines in
    let whole = written resource lines ended in
    let joined : bytes ++ (more ++ whole.0) ≡ whole_stream texts = begins_whole bytes more whole.0 (stream_text in_chunks resource lines ended) (whole_stream texts) same whole.1 in
    let first : AreRead texts read reader = streams-read-back most_line texts read room most_line bytes (more ++ whole.0) reader (omega arith, all_readable back feeds resource lines may) stands joined in
    let begun = first_lines (line_text Whole resource) lines read first.later first.joined in
    let body = turns_are_bodies terms p opened q ask watch start turns in
    let begins : BeginsBody log q.floor terms.window ask body.0.at begun.0 =
    (begun.1, position_of body.0, record { body = body.0; lawful = body.1; begins = refl; lines_are = same_lines lines (begun.0 ++ begun.1) log ask body.0 begun.2 body.2; reached = refl }) in
    (body.0.at, record { lines = begun.0; texts_are = begun.3; begins = begins })
