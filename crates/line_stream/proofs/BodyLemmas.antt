-- How whole bodies are read.
use Rattle.std.proofs.Common.{◌≡◌, ℕ, ◌+◌, ◌-◌, ◌<◌, ◌≤◌, List, [], ◌∷◌, ◌++◌, None, Some, length, take, drop, refl, sym, ap, subst, ◌∙◌, arith, min, append_assoc, append-nil, eq-zero-or-pos, length-append, length-drop, length-take-le, take-append-drop, inl, inr}
use Rattle.std.specs.Prelude.{Option, Result, Ok, Err, ◌==◌}
use Rattle.std.specs.Result.{result_map_both}
use Rattle.std.proofs.lemmas.List.{nil_from_length}
use Rattle.edge_io.specs.Told.{prepended}
use Rattle.line_stream.specs.Answers.{Counts}
use Rattle.line_stream.specs.Bodies.{IsInCounted, IsInChunks, ReadsBody}
use Rattle.line_stream.specs.BodySteps.{FillsKept, Moved, reading_at, PassesFrame, IsWithinFrame, PassesChunk, StepsChunk, StopsChunk, StopsChunks, IsFront, ReadsChunks, ReadsCounted, StopsCounted, ReadsRest}
use Rattle.line_stream.specs.Chunks.{Carries, piece_bytes, IsOpenAt}
use Rattle.line_stream.specs.Framings.{BeginsFramed}
use Rattle.line_stream.specs.Looks.{LooksAtFrame}
use Rattle.line_stream.specs.Moves.{steps_left}
use Rattle.line_stream.specs.Steps.{GivesNone}
use Rattle.line_stream.proofs.FramingLemmas.{framed-append}
use Rattle.line_stream.proofs.IdleLemmas.{open-few}
use Rattle.line_stream.proofs.PieceLemmas.{carries-none, carries-one, carries-data, carries-append}
use Rattle.line_stream.proofs.ReaderLemmas.{frame-moves, inside_least, fill-nearer}
use Rattle.line_stream.specs.declared.chunks.Frame.{Frame}
use Rattle.line_stream.specs.declared.chunks.Frame.TheVariants as frame
use Rattle.line_stream.specs.declared.framing.Framing.{Framing}
use Rattle.line_stream.specs.declared.framing.Framing.TheVariants.{Counted, Chunked}
use Rattle.line_stream.specs.declared.place.Place.{Place}
use Rattle.line_stream.specs.declared.place.Place.TheVariants.{AtSize, Inside, Last, Over}
use Rattle.line_stream.specs.declared.refusal.LineNo.{LineNo}
use Rattle.line_stream.specs.declared.refusal.LineNo.TheVariants.{BadHead, Refused, BadChunk, Overlong, Unfinished, Spent, CutShort, ReadFault, Memory}

-- ---- data

pub moved : (kept content : List ℕ) (whole n : ℕ) (later more : List ℕ) → length content ≤ whole → n ≡ min (length kept) (whole - length content)
    → later ≡ drop n kept → more ≡ content ++ take n kept → Moved kept content whole later more
moved kept content whole n later more fits least l m =
    let within : n ≤ length kept = omega (arith, least) in
    let size : length (take n kept) ≡ n = length-take-le n kept within in
    let grown : length more ≡ length content + n = ap length m ∙ length-append content (take n kept) ∙ ap (λ (k : ℕ). length content + k) size in
    let left : length later ≡ length kept - n = ap length l ∙ length-drop n kept in record {
      bytes = take n kept;
      from = sym (take-append-drop n kept) ∙ ap (λ r. take n kept ++ r) (sym l);
      to = m;
      within = omega (arith, least, fits, grown);
      all = λ less. nil_from_length later (omega (arith, less, least, fits, grown, left));
    }

-- where there are bytes and they fit, some go
module _ (kept content : List ℕ) (whole : ℕ) (later more : List ℕ) (m : Moved kept content whole later more) where
  grows : length more ≡ length content + length m.bytes
  grows = ap length m.to ∙ length-append content m.bytes

  splits : length kept ≡ length m.bytes + length later
  splits = ap length m.from ∙ length-append m.bytes later

  pub some-moved : length content < whole → 0 < length kept → 0 < length m.bytes
  unfolding grows splits
  some-moved room some = elim (eq-zero-or-pos (length m.bytes)) [
    | inl none ↦ absurd (omega (arith, grows, splits, some, none, ap length (m.all (omega (arith, grows, none, room)))))
    | inr went ↦ went
  ]

  pub less-left : length content < whole → 0 < length kept → whole - length more < whole - length content
  less-left room some = omega (arith, some-moved room some, grows, room, m.within)

-- ---- a body that is counted

-- the front of a body is its data so far, and what is kept
abbrev IsSplit : List ℕ → List ℕ → List ℕ → Type 0
IsSplit bytes content kept = bytes ≡ content ++ kept

pub split-first : (kept content later more : List ℕ) (whole : ℕ) → content ≡ [] → Moved kept content whole later more → kept ++ [] ≡ more ++ later
split-first kept content later more whole none m =
    append-nil kept ∙ m.from ∙ ap (λ l. l ++ later) (sym (m.to ∙ ap (λ l. l ++ m.bytes) none))

pub split-none : (kept content later more : List ℕ) → content ≡ [] → later ≡ kept → more ≡ content → kept ++ [] ≡ more ++ later
split-none kept content later more none l m = append-nil kept ∙ sym l ∙ ap (λ c. c ++ later) (sym (m ∙ none))

pub split-more : (first taken came content kept filled : List ℕ) → first ++ taken ≡ content ++ kept → filled ≡ kept ++ came → first ++ (taken ++ came) ≡ content ++ filled
split-more first taken came content kept filled e f =
    sym (append_assoc first taken came) ∙ ap (λ l. l ++ came) e ∙ append_assoc content kept came ∙ ap (λ l. content ++ l) (sym f)

pub split-on : (bytes content kept later more : List ℕ) (whole : ℕ) → bytes ≡ content ++ kept → Moved kept content whole later more → bytes ≡ more ++ later
split-on bytes content kept later more whole e m =
    e ∙ ap (λ l. content ++ l) m.from ∙ sym (append_assoc content m.bytes later) ∙ ap (λ l. l ++ later) (sym m.to)

pub split-same : (bytes content kept later more : List ℕ) → bytes ≡ content ++ kept → later ≡ kept → more ≡ content → bytes ≡ more ++ later
split-same bytes content kept later more e l m = e ∙ ap (λ k. content ++ k) (sym l) ∙ ap (λ c. c ++ later) (sym m)

pub stops-counted : (size : ℕ) (content kept : List ℕ) (left : Option (List ℕ)) (before after : ℕ) (why : LineNo) → GivesNone left before after why
    → length content < size → kept ≡ [] → StopsCounted size content kept left why
stops-counted size content kept left before after BadHead x less none = absurd x
stops-counted size content kept left before after (Refused code) x less none = absurd x
stops-counted size content kept left before after BadChunk x less none = absurd x
stops-counted size content kept left before after Overlong x less none = absurd x
stops-counted size content kept left before after Unfinished x less none = absurd x
stops-counted size content kept left before after Spent x less none = absurd x
stops-counted size content kept left before after CutShort x less none = (less, none, x.0)
stops-counted size content kept left before after ReadFault x less none = (less, none)
stops-counted size content kept left before after Memory x less none = tt

-- ---- the counts

pub counts-none : (A : Type 0) (left : Option (List ℕ)) (first before after : ℕ) (why : LineNo) → GivesNone left before after why → before ≡ first → Counts {A = A} (Err why) first after
counts-none A left first before after BadHead x e = absurd x
counts-none A left first before after (Refused code) x e = absurd x
counts-none A left first before after BadChunk x e = absurd x
counts-none A left first before after Overlong x e = absurd x
counts-none A left first before after Unfinished x e = absurd x
counts-none A left first before after Spent x e = absurd x
counts-none A left first before after CutShort x e = x.1 ∙ e
counts-none A left first before after ReadFault x e = subst (λ (n : ℕ). Counts {A = A} (Err ReadFault) n after) e x
counts-none A left first before after Memory x e = x ∙ e

pub counts-as : (A B : Type 0) (first before after : ℕ) (why : LineNo) → Counts {A = A} (Err why) before after → before ≡ first → Counts {A = B} (Err why) first after
counts-as A B first before after BadHead x e = x ∙ e
counts-as A B first before after (Refused code) x e = x ∙ e
counts-as A B first before after BadChunk x e = x ∙ e
counts-as A B first before after Overlong x e = x ∙ e
counts-as A B first before after Unfinished x e = x ∙ e
counts-as A B first before after Spent x e = x ∙ e
counts-as A B first before after CutShort x e = x ∙ e
counts-as A B first before after ReadFault x e = subst (λ (n : ℕ). Counts {A = B} (Err ReadFault) n after) e x
counts-as A B first before after Memory x e = x ∙ e

-- ---- a body in chunks

pub frame-within : (place : Place) (kept : List ℕ) (f : Frame) → LooksAtFrame place kept f → IsWithinFrame kept f
frame-within place kept (frame.Passed len to) look =
    omega (arith, look.len_is, ap length look.stands, length-append (piece_bytes look.piece) (drop len kept))
frame-within place kept frame.Open look = tt
frame-within place kept frame.Refused look = tt

pub frame-steps : (limit : ℕ) (place : Place) (kept content : List ℕ) (f : Frame) (answer : Result (Option Place) LineNo) (later : List ℕ)
    → LooksAtFrame place kept f → PassesFrame kept f answer later → StepsChunk limit place kept content answer later content
frame-steps limit place kept content (frame.Passed len to) answer later look pass =
    let moves = frame-moves (reading_at limit place kept content) len to look in
    let passes : PassesChunk limit place kept content to later content = record {
      framed = piece_bytes look.piece;
      taken = [];
      bytes = look.stands ∙ ap (λ l. piece_bytes look.piece ++ l) (sym pass.1);
      carries = subst (λ c. Carries place (piece_bytes look.piece) c to) look.no_data (carries-one place to look.piece look.follows);
      grown = sym (append-nil content);
      short = λ h. h;
      nearer = subst (λ k. steps_left (reading_at limit to k content) < steps_left (reading_at limit place kept content)) (sym pass.1) moves.nearer;
    } in
    subst (λ a. StepsChunk limit place kept content a later content) (sym pass.0) passes
frame-steps limit place kept content frame.Open answer later look pass =
    let rests : StepsChunk limit place kept content (Ok None) later content = (pass.1, refl, look) in
    subst (λ a. StepsChunk limit place kept content a later content) (sym pass.0) rests
frame-steps limit place kept content frame.Refused answer later look pass =
    let rests : StepsChunk limit place kept content (Err BadChunk) later content = (pass.1, refl, look) in
    subst (λ a. StepsChunk limit place kept content a later content) (sym pass.0) rests

pub data-passes : (limit size here now : ℕ) (kept content later more : List ℕ) → here ≡ length content → now ≡ length more → 0 < size → here + size ≤ limit → 0 < length kept
    → Moved kept content (here + size) later more → PassesChunk limit (Inside size) kept content (Inside (here + size - now)) later more
data-passes limit size here now kept content later more here_is now_is some fits stands m =
    let left : ℕ = here + size - now in
    let grown : length more ≡ length content + length m.bytes = ap length m.to ∙ length-append content m.bytes in
    let parts : length kept ≡ length m.bytes + length later = ap length m.from ∙ length-append m.bytes later in
    let went : 0 < length m.bytes = some-moved kept content (here + size) later more m (omega (arith, some, here_is)) stands in
    let split : length m.bytes + left ≡ size = omega (arith, grown, m.within, here_is, now_is) in
    let least = inside_least left (left == 0) refl in
    let before = inside_least size (size == 0) refl in record {
      framed = m.bytes;
      taken = m.bytes;
      bytes = m.from;
      carries = subst (λ (n : ℕ). Carries (Inside n) m.bytes m.bytes (Inside left)) split (carries-data m.bytes left);
      grown = m.to;
      short = λ h. omega (arith, m.within, fits);
      nearer = omega (arith, went, fits, m.within, grown, parts, here_is, least.1, before.0);
    }

pub front-first : (kept content : List ℕ) → content ≡ [] → IsFront (kept ++ []) content kept AtSize
front-first kept content none = record {
  framed = [];
  joined = append-nil kept;
  carries = subst (λ c. Carries AtSize [] c AtSize) (sym none) (carries-none AtSize);
}

pub front-on : (limit : ℕ) (bytes content kept later more : List ℕ) (place to : Place) → IsFront bytes content kept place → PassesChunk limit place kept content to later more
    → IsFront bytes more later to
front-on limit bytes content kept later more place to x y = record {
  framed = x.framed ++ y.framed;
  joined = x.joined ∙ ap (λ l. x.framed ++ l) y.bytes ∙ sym (append_assoc x.framed y.framed later);
  carries = subst (λ c. Carries AtSize (x.framed ++ y.framed) c to) (sym y.grown) (carries-append AtSize place to x.framed y.framed content y.taken x.carries y.carries);
}

-- each byte that is read brings the end of the body nearer
pub fill-brings : (limit : ℕ) (place : Place) (kept content came filled more : List ℕ) → IsOpenAt place kept → 0 < length came → filled ≡ kept ++ came → more ≡ content
    → steps_left (reading_at limit place filled more) < steps_left (reading_at limit place kept content)
fill-brings limit place kept content came filled more opens some f m =
    let before : ℕ = steps_left (reading_at limit place kept content) in
    subst (λ k. steps_left (reading_at limit place k more) < before) (sym f)
    (subst (λ d. steps_left (reading_at limit place (kept ++ came) d) < before) (sym m)
    (fill-nearer (reading_at limit place kept content) came (open-few place kept opens) some))

-- more bytes were taken
pub front-more : (first taken came content kept filled : List ℕ) (place : Place) → IsFront (first ++ taken) content kept place → filled ≡ kept ++ came
    → IsFront (first ++ (taken ++ came)) content filled place
front-more first taken came content kept filled place x f = record {
  framed = x.framed;
  joined = split-more first taken came x.framed kept filled x.joined f;
  carries = x.carries;
}

pub front-same : (bytes content kept later more : List ℕ) (place : Place) → IsFront bytes content kept place → later ≡ kept → more ≡ content → IsFront bytes more later place
front-same bytes content kept later more place x l m = record {
  framed = x.framed;
  joined = x.joined ∙ ap (λ k. x.framed ++ k) (sym l);
  carries = subst (λ c. Carries AtSize x.framed c place) (sym m) x.carries;
}

pub stops-chunk : (limit : ℕ) (place : Place) (kept content later more : List ℕ) (left : Option (List ℕ)) (why : LineNo) → later ≡ kept → more ≡ content
    → StopsChunk limit place kept content why → StopsChunks limit place later more left why
stops-chunk limit place kept content later more left BadHead l m x = absurd x
stops-chunk limit place kept content later more left (Refused code) l m x = absurd x
stops-chunk limit place kept content later more left BadChunk l m x = subst (λ k. StopsChunks limit place k more left BadChunk) (sym l) x
stops-chunk limit place kept content later more left Overlong l m x =
    (x.0, x.1, subst (λ (c : List ℕ). limit < length c + x.0) (sym m) x.2)
stops-chunk limit place kept content later more left Unfinished l m x = absurd x
stops-chunk limit place kept content later more left Spent l m x = absurd x
stops-chunk limit place kept content later more left CutShort l m x = absurd x
stops-chunk limit place kept content later more left ReadFault l m x = absurd x
stops-chunk limit place kept content later more left Memory l m x = tt

pub counts-chunk : (A : Type 0) (limit : ℕ) (place : Place) (kept content : List ℕ) (before after : ℕ) (why : LineNo) → StopsChunk limit place kept content why → after ≡ before
    → Counts {A = A} (Err why) before after
counts-chunk A limit place kept content before after BadHead x e = absurd x
counts-chunk A limit place kept content before after (Refused code) x e = absurd x
counts-chunk A limit place kept content before after BadChunk x e = e
counts-chunk A limit place kept content before after Overlong x e = e
counts-chunk A limit place kept content before after Unfinished x e = absurd x
counts-chunk A limit place kept content before after Spent x e = absurd x
counts-chunk A limit place kept content before after CutShort x e = absurd x
counts-chunk A limit place kept content before after ReadFault x e = absurd x
counts-chunk A limit place kept content before after Memory x e = e

-- the source has no more
pub stops-open : (limit : ℕ) (place : Place) (kept content : List ℕ) (left : Option (List ℕ)) (before after : ℕ) (why : LineNo) → GivesNone left before after why
    → StepsChunk limit place kept content (Ok None) kept content → StopsChunks limit place kept content left why
stops-open limit place kept content left before after BadHead x opens = absurd x
stops-open limit place kept content left before after (Refused code) x opens = absurd x
stops-open limit place kept content left before after BadChunk x opens = absurd x
stops-open limit place kept content left before after Overlong x opens = absurd x
stops-open limit place kept content left before after Unfinished x opens = absurd x
stops-open limit place kept content left before after Spent x opens = absurd x
stops-open limit place kept content left before after CutShort x opens = (opens.2, x.0)
stops-open limit place kept content left before after ReadFault x opens = opens.2
stops-open limit place kept content left before after Memory x opens = tt

-- ---- either

pub rest-counted : (limit size : ℕ) (bytes content kept : List ℕ) (left : Option (List ℕ)) (answer : Result (Unit {0}) LineNo) → size ≤ limit
    → ReadsCounted size bytes content kept left answer → ReadsRest limit (Counted size) bytes content kept left answer
rest-counted limit size bytes content kept left (Ok u) fits x = (x, fits)
rest-counted limit size bytes content kept left (Err why) fits x = inr x

-- ---- a reply

module _ (limit : ℕ) (bytes body content kept : List ℕ) (left : Option (List ℕ)) where
  counted-read : (size : ℕ) → BeginsFramed bytes (Counted size) body → body ≡ content ++ kept → IsInCounted bytes size content kept
  counted-read size begins e = record { body = body; begins = begins; joined = e }

  chunks-read : (place : Place) → BeginsFramed bytes Chunked body → IsFront body content kept place → IsInChunks bytes content kept place
  chunks-read place begins x = record { body = body; begins = begins; framed = x.framed; joined = x.joined; carries = x.carries }

  counted_stops : (size : ℕ) (why : LineNo) → IsInCounted bytes size content kept → StopsCounted size content kept left why → ReadsBody limit bytes kept left (Err why)
  counted_stops size BadHead x stops = absurd stops
  counted_stops size (Refused code) x stops = absurd stops
  counted_stops size BadChunk x stops = absurd stops
  counted_stops size Overlong x stops = absurd stops
  counted_stops size Unfinished x stops = absurd stops
  counted_stops size Spent x stops = absurd stops
  counted_stops size CutShort x stops = inr (inl (size, content, x, stops.0, stops.1), stops.2)
  counted_stops size ReadFault x stops = inr (inl (size, content, x, stops.0, stops.1))
  counted_stops size Memory x stops = inr tt

  chunks_stop : (place : Place) (why : LineNo) → IsInChunks bytes content kept place → StopsChunks limit place kept content left why → ReadsBody limit bytes kept left (Err why)
  chunks_stop place BadHead x stops = absurd stops
  chunks_stop place (Refused code) x stops = absurd stops
  chunks_stop place BadChunk x stops = inr (place, content, x, stops)
  chunks_stop place Overlong x stops = inr (inr (stops.0, content, subst (IsInChunks bytes content kept) stops.1 x, stops.2))
  chunks_stop place Unfinished x stops = absurd stops
  chunks_stop place Spent x stops = absurd stops
  chunks_stop place CutShort x stops = inr (inr (place, content, x, stops.0), stops.1)
  chunks_stop place ReadFault x stops = inr (inr (place, content, x, stops))
  chunks_stop place Memory x stops = inr tt

  pub body-read : (framing : Framing) (u : Unit {0}) → BeginsFramed bytes framing body → ReadsRest limit framing body content kept left (Ok u) → ReadsBody limit bytes kept left (Ok content)
  unfolding counted-read chunks-read
  body-read (Counted size) u begins x =
      (inl (subst (λ (n : ℕ). IsInCounted bytes n content kept) (sym x.0.1) (counted-read size begins x.0.0)), omega (arith, x.0.1, x.1))
  body-read Chunked u begins x = (inr (chunks-read Over begins x.0), x.1)

  pub body-stops : (framing : Framing) (why : LineNo) → BeginsFramed bytes framing body → ReadsRest limit framing body content kept left (Err why) → ReadsBody limit bytes kept left (Err why)
  unfolding counted-read chunks-read counted_stops chunks_stop
  body-stops (Counted size) why begins (inl x) =
      subst (λ w. ReadsBody limit bytes kept left (Err w)) (sym x.0)
      (inr (inl (size, record { body = body; begins = begins; joined = sym x.2 }, x.1)))
  body-stops (Counted size) why begins (inr x) = counted_stops size why (counted-read size begins x.0) x.1
  body-stops Chunked why begins x = chunks_stop x.0 why (chunks-read x.0 begins x.1) x.2

-- the head and the body one behind the other
module _ (limit start : ℕ) (first taken came bytes body content kept : List ℕ) (left : Option (List ℕ)) (framing : Framing)
    (bytes_are : bytes ≡ first ++ taken) (body_is : body ≡ drop start bytes) (begins : BeginsFramed bytes framing (drop start bytes)) where
  all : first ++ (taken ++ came) ≡ bytes ++ came
  all = sym (append_assoc first taken came) ∙ ap (λ l. l ++ came) (sym bytes_are)

  begun : BeginsFramed (bytes ++ came) framing (body ++ came)
  begun = framed-append bytes body came framing (subst (BeginsFramed bytes framing) (sym body_is) begins)

  pub reply-read : (u : Unit {0}) → ReadsRest limit framing (body ++ came) content kept left (Ok u) → ReadsBody limit (first ++ (taken ++ came)) kept left (Ok content)
  reply-read u x = subst (λ b. ReadsBody limit b kept left (Ok content)) (sym all) (body-read limit (bytes ++ came) (body ++ came) content kept left framing u begun x)

  pub reply-stops : (why : LineNo) → ReadsRest limit framing (body ++ came) content kept left (Err why) → ReadsBody limit (first ++ (taken ++ came)) kept left (Err why)
  reply-stops why x = subst (λ b. ReadsBody limit b kept left (Err why)) (sym all) (body-stops limit (bytes ++ came) (body ++ came) content kept left framing why begun x)
