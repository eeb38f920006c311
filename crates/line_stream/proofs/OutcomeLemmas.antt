-- The reading of a line has one outcome.
use Rattle.std.proofs.Common.{◌≡◌, ◌==◌, ℕ, zero, suc, ◌+◌, ◌-◌, ◌<◌, ◌≤◌, Bool, false, cond, List, [], ◌∷◌, ◌++◌, None, Some, length, map, take, drop, refl, sym, ap, subst, ◌∙◌, arith, append_assoc, append-nil, length-append, take-append-drop, add-one, eq-zero-or-pos, inl, inr}
use Rattle.std.specs.Prelude.{◌≢◌, Option}
use Rattle.std.specs.List.{flat_map}
use Rattle.std.proofs.lemmas.Bool.Decides.{nat_tests}
use Rattle.std.proofs.lemmas.List.{take_all, take-append-le, drop_at}
use Rattle.std.proofs.lemmas.List.Elements.{All-head, All-same, All-drop}
use Rattle.std.proofs.lemmas.List.Concat.{flat_map-append}
use Rattle.std.proofs.Math.Seq.{take-append-add}
use Rattle.httparse.specs.Grammar.{ChunkLine, IsChunkLine, print_chunk_line, HasNoChunkLine}
use Rattle.line_stream.specs.Chunks.{ChunkPiece, sized, byte, ended, piece_bytes, piece_data, Follows, Leads, most_size, IsRefusedAt, NeverHasEnd}
use Rattle.line_stream.specs.Readers.{ReaderData, Spends, FitsRoom, GoesOn, EndsLine, IsOverlong}
use Rattle.line_stream.proofs.PieceLemmas.{pieces-agree}
use Rattle.line_stream.proofs.ReaderLemmas.{goes-more}
use Rattle.line_stream.proofs.IdleLemmas.{IsAhead, goings-agree, at-feed, feed-none}
use Rattle.line_stream.specs.Outcomes.{Outcome, whole, over, refused, HasOutcome, OutcomesAgree}
use Rattle.line_stream.proofs.AgreeLemmas.{nothing_over}
use Rattle.line_stream.specs.declared.place.Place.{Place}
use Rattle.line_stream.specs.declared.place.Place.TheVariants.{AtSize, Inside, Last, Over}
use Rattle.line_stream.specs.declared.refusal.LineNo.TheVariants.{BadHead, Refused, BadChunk, Overlong, Unfinished, Spent, CutShort, ReadFault, Memory}

-- ---- which outcome it may be, by where a reader stands

by_first : List ℕ → Outcome
by_first [] = refused Overlong
by_first (b ∷ bytes) = cond (b == 10) whole (refused Overlong)

by_place : Place → List ℕ → List ℕ → Outcome
by_place AtSize part kept = refused BadChunk
by_place (Inside zero) part kept = refused BadChunk
by_place (Inside (suc n)) part kept = by_first kept
by_place Last part kept = refused BadChunk
by_place Over [] kept = over
by_place Over (b ∷ part) kept = refused Unfinished

by_room : Option ℕ → Place → List ℕ → List ℕ → Outcome
by_room None place part kept = by_place place part kept
by_room (Some zero) place part kept = refused Spent
by_room (Some (suc n)) place part kept = by_place place part kept

outcome_of : ReaderData → Outcome
outcome_of r = by_room r.room r.place r.part r.kept

has_room : (room : Option ℕ) (place : Place) (part kept : List ℕ) → (room ≡ Some 0 → ⊥) → by_room room place part kept ≡ by_place place part kept
unfolding by_room
has_room None place part kept some = refl
has_room (Some zero) place part kept some = absurd (some refl)
has_room (Some (suc n)) place part kept some = refl

no_room : (room : Option ℕ) (place : Place) (part kept : List ℕ) → room ≡ Some 0 → by_room room place part kept ≡ refused Spent
unfolding by_room
no_room room place part kept none = ap (λ r. by_room r place part kept) none

no_ten : (b : ℕ) → (b ≡ 10 → ⊥) → (b == 10) ≡ false
no_ten b e = grind (arith, nat_tests)

inside_is : (place : Place) (part kept : List ℕ) (left : ℕ) → place ≡ Inside (suc left) → by_place place part kept ≡ by_first kept
unfolding by_place
inside_is place part kept left e = ap (λ p. by_place p part kept) e

one_more : (left : ℕ) → 1 + left ≡ suc left
one_more left = omega arith

-- a line feed comes as data
feed_is : (r : ReaderData) (new : ReaderData) → EndsLine r new → outcome_of r ≡ whole
unfolding outcome_of by_first
feed_is r new x =
    has_room r.room r.place r.part r.kept (none r.room x.room)
    ∙ inside_is r.place r.part r.kept x.left (x.inside ∙ ap Inside (one_more x.left)) ∙ ap by_first x.feed
  where
    none : (room : Option ℕ) → Spends room 1 new.room → room ≡ Some 0 → ⊥
    none None s e = cc
    none (Some n) s e = omega (arith, s.1, zero_of n e)
      where
        zero_of : (n : ℕ) → Some n ≡ Some 0 → n ≡ 0
        zero_of n e = cc

-- another byte comes as data
other_is : (r : ReaderData) (left b : ℕ) (rest : List ℕ) → (r.room ≡ Some 0 → ⊥) → r.place ≡ Inside (suc left) → r.kept ≡ b ∷ rest → (b ≡ 10 → ⊥) → outcome_of r ≡ refused Overlong
unfolding outcome_of by_first
other_is r left b rest some e k other =
    has_room r.room r.place r.part r.kept some ∙ inside_is r.place r.part r.kept left e ∙ ap by_first k
    ∙ ap (λ (t : Bool). cond t whole (refused Overlong)) (no_ten b other)

refused_is : (place : Place) (part kept bytes : List ℕ) → IsRefusedAt place bytes → by_place place part kept ≡ refused BadChunk
unfolding by_place
refused_is AtSize part kept bytes x = refl
refused_is (Inside zero) part kept bytes x = refl
refused_is (Inside (suc n)) part kept bytes x = absurd (omega (arith, x.0))
refused_is Last part kept bytes x = refl
refused_is Over part kept bytes x = absurd x

over_is : (place : Place) (part kept : List ℕ) → place ≡ Over → part ≡ [] → by_place place part kept ≡ over
unfolding by_place
over_is place part kept e none = ap (λ p. by_place p part kept) e ∙ ap (λ p. by_place Over p kept) none

unfinished_is : (place : Place) (part kept : List ℕ) → place ≡ Over → 0 < length part → by_place place part kept ≡ refused Unfinished
unfolding by_place
unfinished_is place [] kept e some = absurd (omega (arith, some))
unfinished_is place (b ∷ part) kept e some = ap (λ p. by_place p (b ∷ part) kept) e

overlong_is : (r : ReaderData) → length r.part ≤ r.most → (r.room ≡ Some 0 → ⊥) → IsOverlong r → outcome_of r ≡ refused Overlong
overlong_is r short some x = by_content x.content refl
  where
    by_content : (content : List ℕ) → x.content ≡ content → outcome_of r ≡ refused Overlong
    by_content [] e = absurd (omega (arith, x.long, short, ap length e))
    by_content (b ∷ content) e = by_size x.size refl
      where
        by_size : (size : ℕ) → x.size ≡ size → outcome_of r ≡ refused Overlong
        by_size zero s = absurd (omega (arith, x.fits, s, ap length e))
        by_size (suc left) s =
            other_is r left b (content ++ x.after) some (x.place ∙ ap Inside s) (x.at_hand ∙ ap (λ l. l ++ x.after) e)
            (All-head (λ (v : ℕ). v ≢ 10) b content (All-same (λ (v : ℕ). v ≢ 10) (b ∷ content) x.content (sym e) x.within))

outcome_is : (r : ReaderData) (o : Outcome) → length r.part ≤ r.most → HasOutcome r o → o ≡ outcome_of r
unfolding outcome_of
outcome_is r whole short x = sym (feed_is r x.0.0 x.0.1)
outcome_is r over short x = sym (has_room r.room r.place r.part r.kept x.0 ∙ over_is r.place r.part r.kept x.1 x.2)
outcome_is r (refused BadHead) short x = absurd x
outcome_is r (refused (Refused code)) short x = absurd x
outcome_is r (refused BadChunk) short x = sym (has_room r.room r.place r.part r.kept x.0 ∙ refused_is r.place r.part r.kept r.kept x.1)
outcome_is r (refused Overlong) short x = sym (overlong_is r short x.0 x.1)
outcome_is r (refused Unfinished) short x = sym (has_room r.room r.place r.part r.kept x.0 ∙ unfinished_is r.place r.part r.kept x.1 x.2)
outcome_is r (refused Spent) short x = sym (no_room r.room r.place r.part r.kept x)
outcome_is r (refused CutShort) short x = absurd x
outcome_is r (refused ReadFault) short x = absurd x
outcome_is r (refused Memory) short x = absurd x

-- ---- one stands ahead of the other

-- nothing was passed between them
same_reader : (old first second : ReaderData) (bytes : List ℕ) (x : GoesOn old bytes first) (y : GoesOn old bytes second) (a : IsAhead first second x.content y.content)
    → a.more ≡ [] → first ≡ second
same_reader old first second bytes x y a none =
    let same : y.content ≡ x.content = a.rest ∙ ap (λ m. x.content ++ flat_map piece_data m) none ∙ append-nil x.content in
    let place : first.place ≡ second.place = subst (λ m. Leads first.place m second.place) none a.leads in
    let kept : first.kept ≡ second.kept = a.bytes ∙ ap (λ m. flat_map piece_bytes m ++ second.kept) none in
    let part : first.part ≡ second.part = x.part ∙ ap (λ c. old.part ++ c) (sym same) ∙ sym y.part in
    let room : first.room ≡ second.room = spends_one old.room first.room second.room (length x.content) x.passes.room (subst (λ c. Spends old.room (length c) second.room) same y.passes.room) in
    let most : first.most ≡ second.most = x.passes.most ∙ sym y.passes.most in
    λ i. record { kept = kept i; place = place i; part = part i; room = room i; most = most i }
  where
    spends_one : (room a b : Option ℕ) (n : ℕ) → Spends room n a → Spends room n b → a ≡ b
    spends_one None a b n x y = x ∙ sym y
    spends_one (Some r) a b n x y =
        let one : x.0 ≡ y.0 = omega (arith, x.1, y.1) in x.2 ∙ ap Some one ∙ sym y.2

-- where a place is refused, no piece stands
no_size : (bytes rest : List ℕ) → IsRefusedAt AtSize bytes → (l : ChunkLine) → IsChunkLine l → length (print_chunk_line l) ≤ most_size
    → bytes ≡ print_chunk_line l ++ rest → ⊥
no_size bytes rest (inl never) l is short e =
    never (drop most_size bytes) l rest (is, take-append-drop most_size bytes ∙ e)
no_size bytes rest (inr none) l is short e =
    none.1 l (take (most_size - length (print_chunk_line l)) rest) (
      is,
      ap (take most_size) e
          ∙ ap (λ (n : ℕ). take n (print_chunk_line l ++ rest)) {x = most_size} {y = length (print_chunk_line l) + (most_size - length (print_chunk_line l))} (omega (arith, short))
          ∙ take-append-add (print_chunk_line l) rest (most_size - length (print_chunk_line l)),
    )

refused_none : (place : Place) (bytes : List ℕ) (piece : ChunkPiece) (to : Place) (rest : List ℕ) → IsRefusedAt place bytes → Follows place piece to → bytes ≡ piece_bytes piece ++ rest → ⊥
refused_none AtSize bytes (sized l) to rest x f e = no_size bytes rest x l f.0 f.1 e
refused_none AtSize bytes (byte b) to rest x f e = f
refused_none AtSize bytes ended to rest x f e = f
refused_none (Inside n) bytes (sized l) to rest x f e = f
refused_none (Inside n) bytes (byte b) to rest x f e = omega (arith, x.0, f.1)
refused_none (Inside n) bytes ended to rest x f e = x.1 [] rest (append-nil bytes ∙ e)
refused_none Last bytes (sized l) to rest x f e = f
refused_none Last bytes (byte b) to rest x f e = f
refused_none Last bytes ended to rest x f e = x [] rest (append-nil bytes ∙ e)
refused_none Over bytes piece to rest x f e = x

refused_stays : (place : Place) (bytes : List ℕ) (pieces : List ChunkPiece) (to : Place) (rest : List ℕ) → IsRefusedAt place bytes → Leads place pieces to → bytes ≡ flat_map piece_bytes pieces ++ rest → pieces ≡ []
refused_stays place bytes [] to rest x leads e = refl
refused_stays place bytes (piece ∷ pieces) to rest x leads e =
    absurd (refused_none place bytes piece leads.0 (flat_map piece_bytes pieces ++ rest) x leads.1 (e ∙ append_assoc (piece_bytes piece) (flat_map piece_bytes pieces) rest))

-- ---- within a line that is too long

bytes_of_data : (content : List ℕ) → flat_map piece_bytes (map byte content) ≡ content
bytes_of_data [] = refl
bytes_of_data (b ∷ content) = ap (λ l. b ∷ l) (bytes_of_data content)

data_of_data : (content : List ℕ) → flat_map piece_data (map byte content) ≡ content
data_of_data [] = refl
data_of_data (b ∷ content) = ap (λ l. b ∷ l) (data_of_data content)

data_leads : (content : List ℕ) (left : ℕ) → Leads (Inside (length content + left)) (map byte content) (Inside left)
data_leads [] left = ap Inside {x = length {A = ℕ} [] + left} {y = left} (omega arith)
data_leads (b ∷ content) left = (Inside (length content + left), (length content + left, omega arith, refl), data_leads content left)

head_piece : List ChunkPiece → ChunkPiece
head_piece [] = ended
head_piece (piece ∷ pieces) = piece

tail_pieces : List ChunkPiece → List ChunkPiece
tail_pieces [] = []
tail_pieces (piece ∷ pieces) = pieces

-- a piece among these is a byte of the data
byte_there : (content : List ℕ) (before : List ChunkPiece) (piece : ChunkPiece) (after : List ChunkPiece) → map byte content ≡ before ++ piece ∷ after
    → (b : ℕ) × (piece ≡ byte b) × (content ≡ flat_map piece_data before ++ b ∷ flat_map piece_data after)
unfolding head_piece tail_pieces
byte_there [] [] piece after e = absurd (omega (arith, ap length e))
byte_there [] (first ∷ before) piece after e = absurd (omega (arith, ap length e))
byte_there (b ∷ content) [] piece after e =
    (b, sym (ap head_piece e), ap (λ l. b ∷ l) (sym (data_of_data content) ∙ ap (λ l. flat_map piece_data (tail_pieces l)) e))
byte_there (b ∷ content) (first ∷ before) piece after e =
    let later = byte_there content before piece after (ap tail_pieces e) in (
      later.0,
      later.1,
      ap (λ l. b ∷ l) later.2 ∙ ap (λ p. piece_data p ++ (flat_map piece_data before ++ later.0 ∷ flat_map piece_data after)) {x = byte b} {y = first} (ap head_piece e)
          ∙ sym (append_assoc (piece_data first) (flat_map piece_data before) (later.0 ∷ flat_map piece_data after)),
    )

byte_inside : (place : Place) (b : ℕ) (to : Place) → Follows place (byte b) to → (left : ℕ) × (place ≡ Inside (suc left))
byte_inside AtSize b to x = absurd x
byte_inside (Inside n) b to x = (x.0, ap Inside (x.1 ∙ add-one x.0))
byte_inside Last b to x = absurd x
byte_inside Over b to x = absurd x

room_left : (old first second : Option ℕ) (n m d : ℕ) → Spends old n first → Spends old m second → FitsRoom first d → m < n + d → (first ≡ Some 0 → ⊥) → second ≡ Some 0 → ⊥
room_left None first second n m d x y fits less some e = some_none (sym y ∙ e)
  where
    some_none : ◌≡◌ {A = Option ℕ} None (Some 0) → ⊥
    some_none e = cc
room_left (Some r) first second n m d x y fits less some e =
    let left : x.0 ≡ y.0 + (m - n) = omega (arith, x.1, y.1, none, subst (λ f. FitsRoom f d) x.2 fits, less) in
    omega (arith, x.1, y.1, none, subst (λ f. FitsRoom f d) x.2 fits, less)
  where
    zero_of : (n : ℕ) → Some n ≡ Some 0 → n ≡ 0
    zero_of n e = cc

    none : y.0 ≡ 0
    none = zero_of y.0 (sym y.2 ∙ e)

-- whoever goes on within a line that is too long stands within it
still_overlong : (old first second : ReaderData) (bytes : List ℕ) (x : GoesOn old bytes first) (y : GoesOn old bytes second) (a : IsAhead first second x.content y.content)
    → (first.room ≡ Some 0 → ⊥) → IsOverlong first → length second.part ≤ second.most → outcome_of second ≡ refused Overlong
still_overlong old first second bytes x y a some o short =
    elim (pieces-agree first.place a.more (map byte o.content) second.place (Inside rest) second.kept o.after a.leads leads same) [
      | inl b ↦ within b.more b.joined b.leads b.bytes
      | inr b ↦ absurd (beyond b.more b.joined)
    ]
  where
    rest : ℕ
    rest = o.size - length o.content

    leads : Leads first.place (map byte o.content) (Inside rest)
    leads =
        subst (λ p. Leads p (map byte o.content) (Inside rest)) {x = Inside (length o.content + rest)} {y = first.place}
        (ap Inside {x = length o.content + rest} {y = o.size} (omega (arith, o.fits)) ∙ sym o.place) (data_leads o.content rest)

    same : flat_map piece_bytes a.more ++ second.kept ≡ flat_map piece_bytes (map byte o.content) ++ o.after
    same = sym a.bytes ∙ o.at_hand ∙ ap (λ l. l ++ o.after) (sym (bytes_of_data o.content))

    first_size : length first.part ≡ length old.part + length x.content
    first_size = ap length x.part ∙ length-append old.part x.content

    second_size : length second.part ≡ length old.part + (length x.content + length (flat_map piece_data a.more))
    second_size = omega (arith, ap length y.part ∙ length-append old.part y.content, ap length a.rest ∙ length-append x.content (flat_map piece_data a.more))

    beyond : (more : List ChunkPiece) → a.more ≡ map byte o.content ++ more → ⊥
    beyond more e =
        omega (
          arith,
          o.long,
          short,
          x.passes.most,
          y.passes.most,
          first_size,
          second_size,
          ap (λ m. length (flat_map piece_data m)) e ∙ ap length (flat_map-append piece_data (map byte o.content) more)
              ∙ length-append (flat_map piece_data (map byte o.content)) (flat_map piece_data more),
          ap length (data_of_data o.content),
        )

    within : (more : List ChunkPiece) → map byte o.content ≡ a.more ++ more → Leads second.place more (Inside rest) → second.kept ≡ flat_map piece_bytes more ++ o.after → outcome_of second ≡ refused Overlong
    within [] e leads bytes = absurd (beyond [] (sym (append-nil a.more) ∙ sym e ∙ sym (append-nil (map byte o.content))))
    within (piece ∷ more) e leads bytes =
        let there = byte_there o.content a.more piece more e in
        let inside = byte_inside second.place there.0 leads.0 (subst (λ p. Follows second.place p leads.0) there.1 leads.1) in
        let P : ℕ → Type 0 = λ v. v ≢ 10 in
        let front = flat_map piece_data a.more in
        let behind : drop (length front) o.content ≡ there.0 ∷ flat_map piece_data more = ap (drop (length front)) there.2 ∙ drop_at front (there.0 ∷ flat_map piece_data more) (length front) refl in
        other_is second inside.0 there.0 (flat_map piece_bytes more ++ o.after)
        (room_left old.room first.room second.room (length x.content) (length y.content) (length o.content) x.passes.room y.passes.room o.room
        (omega (arith, ap length a.rest ∙ length-append x.content front, ap length there.2 ∙ length-append front (there.0 ∷ flat_map piece_data more))) some)
        inside.1
        (bytes ∙ append_assoc (piece_bytes piece) (flat_map piece_bytes more) o.after ∙ ap (λ p. piece_bytes p ++ (flat_map piece_bytes more ++ o.after)) there.1)
        (All-head P there.0 (flat_map piece_data more) (All-same P (there.0 ∷ flat_map piece_data more) (drop (length front) o.content) (sym behind) (All-drop P (length front) o.content o.within)))

-- ---- the law

-- bytes that follow change no outcome
outcome_stays : (r : ReaderData) (more : List ℕ) (o : Outcome) → HasOutcome r o → HasOutcome (record r { kept = r.kept ++ more }) o
outcome_stays r more whole x = (
  (
    record (x.0.0) { kept = x.0.0.kept ++ more },
    record { left = x.0.1.left; feed = ap (λ l. l ++ more) x.0.1.feed; inside = x.0.1.inside; place = x.0.1.place; room = x.0.1.room; most = x.0.1.most; part = x.0.1.part },
  ),
  x.1,
)
outcome_stays r more over x = x
outcome_stays r more (refused BadHead) x = x
outcome_stays r more (refused (Refused code)) x = x
outcome_stays r more (refused BadChunk) x = (x.0, at_place r.place x.1)
  where
    never_end : (bytes : List ℕ) → NeverHasEnd bytes → NeverHasEnd (bytes ++ more)
    never_end bytes n m after e = n (more ++ m) after (sym (append_assoc bytes more m) ∙ e)

    take_over : (bytes : List ℕ) → take most_size (bytes ++ more) ≡ take most_size bytes ++ take (most_size - length bytes) more
    take_over bytes =
        elim (eq-zero-or-pos (most_size - length bytes)) [
          | inl z ↦
              take-append-le most_size bytes more (omega (arith, z)) ∙ sym (append-nil (take most_size bytes))
              ∙ ap (λ (k : ℕ). take most_size bytes ++ take k more) {x = 0} {y = most_size - length bytes} (sym z)
          | inr some ↦
              ap (λ (k : ℕ). take k (bytes ++ more)) {x = most_size} {y = length bytes + (most_size - length bytes)} (omega (arith, some))
              ∙ take-append-add bytes more (most_size - length bytes) ∙ ap (λ l. l ++ take (most_size - length bytes) more) (sym (take_all most_size bytes (omega (arith, some))))
        ]

    at_size : (bytes : List ℕ) → IsRefusedAt AtSize bytes → IsRefusedAt AtSize (bytes ++ more)
    at_size bytes (inl n) =
        inl (λ m l rest reads. n (take (most_size - length bytes) more ++ m) l rest
        (reads.0, sym (append_assoc (take most_size bytes) (take (most_size - length bytes) more) m) ∙ ap (λ b. b ++ m) (sym (take_over bytes)) ∙ reads.1))
    at_size bytes (inr n) = inr (omega (arith, n.0, length-append bytes more), subst HasNoChunkLine (sym (take-append-le most_size bytes more n.0)) n.1)

    at_place : (place : Place) → IsRefusedAt place r.kept → IsRefusedAt place (r.kept ++ more)
    at_place AtSize n = at_size r.kept n
    at_place (Inside k) n = (n.0, never_end r.kept n.1)
    at_place Last n = never_end r.kept n
    at_place Over n = n
outcome_stays r more (refused Overlong) x =
    let o = x.1 in (
      x.0,
      record {
        content = o.content;
        after = o.after ++ more;
        size = o.size;
        at_hand = ap (λ l. l ++ more) o.at_hand ∙ append_assoc o.content o.after more;
        place = o.place;
        fits = o.fits;
        room = o.room;
        within = o.within;
        long = o.long;
      },
    )
outcome_stays r more (refused Unfinished) x = x
outcome_stays r more (refused Spent) x = x
outcome_stays r more (refused CutShort) x = x
outcome_stays r more (refused ReadFault) x = x
outcome_stays r more (refused Memory) x = x

-- where one stands ahead of the other
module _ (old first second : ReaderData) (bytes : List ℕ) (short : length old.part ≤ old.most) (x : GoesOn old bytes first) (y : GoesOn old bytes second)
    (a : IsAhead first second x.content y.content) where
  first_short : length first.part ≤ first.most
  first_short = subst (λ (m : ℕ). length first.part ≤ m) (sym x.passes.most) (x.short short)

  second_short : length second.part ≤ second.most
  second_short = subst (λ (m : ℕ). length second.part ≤ m) (sym y.passes.most) (y.short short)

  same_outcome : (o p : Outcome) → HasOutcome first o → HasOutcome second p → a.more ≡ [] → o ≡ p
  same_outcome o p h k none =
      outcome_is first o first_short h ∙ ap outcome_of (same_reader old first second bytes x y a none) ∙ sym (outcome_is second p second_short k)

  over_none : (place : Place) → place ≡ Over → (pieces : List ChunkPiece) (to : Place) → Leads place pieces to → pieces ≡ []
  over_none place e pieces to leads = nothing_over pieces to (subst (λ q. Leads q pieces to) e leads)

  ahead_agrees : (o p : Outcome) → HasOutcome first o → HasOutcome second p → o ≡ p
  unfolding same_outcome over_none outcome_of
  ahead_agrees whole p h k =
      same_outcome whole p h k (feed-none first.place first.kept a.more second.place second.kept y.content x.content (at-feed first h.0.0 h.0.1) a.leads a.bytes y.within a.rest)
  ahead_agrees over p h k = same_outcome over p h k (over_none first.place h.1 a.more second.place a.leads)
  ahead_agrees (refused BadHead) p h k = absurd h
  ahead_agrees (refused (Refused code)) p h k = absurd h
  ahead_agrees (refused BadChunk) p h k = same_outcome (refused BadChunk) p h k (refused_stays first.place first.kept a.more second.place second.kept h.1 a.leads a.bytes)
  ahead_agrees (refused Overlong) p h k =
      sym (still_overlong old first second bytes x y a h.0 h.1 second_short) ∙ sym (outcome_is second p second_short k)
  ahead_agrees (refused Unfinished) p h k = same_outcome (refused Unfinished) p h k (over_none first.place h.1 a.more second.place a.leads)
  ahead_agrees (refused Spent) p h k =
      sym (no_room second.room second.place second.part second.kept
      (none_left old.room first.room second.room (length x.content) (length y.content) x.passes.room y.passes.room (omega (arith, ap length a.rest, length-append x.content (flat_map piece_data a.more))) h))
      ∙ sym (outcome_is second p second_short k)
    where
      none_left : (room one two : Option ℕ) (n m : ℕ) → Spends room n one → Spends room m two → n ≤ m → one ≡ Some 0 → two ≡ Some 0
      none_left None one two n m s t less e = absurd (some_none (sym s ∙ e))
        where
          some_none : ◌≡◌ {A = Option ℕ} None (Some 0) → ⊥
          some_none e = cc
      none_left (Some r) one two n m s t less e =
          let none : s.0 ≡ 0 = zero_of s.0 (sym s.2 ∙ e) in
          t.2 ∙ ap Some {x = t.0} {y = 0} (omega (arith, s.1, t.1, none, less))
        where
          zero_of : (n : ℕ) → Some n ≡ Some 0 → n ≡ 0
          zero_of n e = cc
  ahead_agrees (refused CutShort) p h k = absurd h
  ahead_agrees (refused ReadFault) p h k = absurd h
  ahead_agrees (refused Memory) p h k = absurd h

pub outcomes-agree : OutcomesAgree
outcomes-agree bytes more old first second o p short x h y k =
    let longer : ReaderData = record first { kept = first.kept ++ more } in
    let z = goes-more old first bytes more x in
    let stays = outcome_stays first more o h in
    elim (goings-agree old longer second (bytes ++ more) z y) [
      | inl a ↦ ahead_agrees old longer second (bytes ++ more) short z y a o p stays k
      | inr a ↦ sym (ahead_agrees old second longer (bytes ++ more) short y z a p o k stays)
    ]
