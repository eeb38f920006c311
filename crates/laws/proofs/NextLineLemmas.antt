-- Where a reader stands before a line that others read of the same bytes, it isn't stuck.
use Rattle.std.proofs.Common.{◌≡◌, ◌≢◌, ℕ, ◌+◌, ◌-◌, ◌≤◌, inl, inr, List, [], ◌∷◌, ◌++◌, length, drop, refl, sym, ap, subst, ◌∙◌, arith, append_assoc, append-nil, length-append}
use Rattle.std.specs.Prelude.{Option, Some}
use Rattle.std.specs.List.{flat_map}
use Rattle.std.proofs.lemmas.List.{append_cancel_left, drop_at}
use Rattle.std.proofs.lemmas.List.Concat.{flat_map-append}
use Rattle.std.proofs.lemmas.List.Elements.{All-head, All-tail, All-same, All-drop}
use Rattle.httparse.proofs.GrammarLemmas.{response_prefix_free}
use Rattle.line_stream.specs.Answers.{Faults}
use Rattle.line_stream.specs.Chunks.{ChunkPiece, sized, byte, ended, piece_bytes, piece_data, Follows, Leads}
use Rattle.line_stream.specs.Outcomes.{whole, over, refused, HasOutcome, OutcomesAgree}
use Rattle.line_stream.specs.Readers.{ReaderData, IsWithinLine, Spends, GoesOn, EndsLine, ReadsText, HoldsLine, IsReaderRefused}
use Rattle.line_stream.specs.Standing.{IsLine, lines_bytes, Stands}
use Rattle.line_stream.specs.declared.place.Place.{Place}
use Rattle.line_stream.specs.declared.place.Place.TheVariants as place
use Rattle.line_stream.specs.declared.refusal.LineNo.{LineNo}
use Rattle.line_stream.specs.declared.refusal.LineNo.TheVariants.{BadHead, Refused, BadChunk, Overlong, Unfinished, Spent, CutShort, ReadFault, Memory}
use Rattle.line_stream.proofs.IdleLemmas.{within-none, open-holds-none}
use Rattle.line_stream.proofs.PieceLemmas.{IsBehind, pieces-agree}
use Rattle.line_stream.proofs.ReaderLemmas.{goes-none}

abbrev first_of : List ℕ → ℕ
first_of [] = 0
first_of (b ∷ bytes) = b

abbrev rest_of : List ℕ → List ℕ
rest_of [] = []
rest_of (b ∷ bytes) = bytes

-- ---- the line feed among pieces

-- behind data without a line feed it is a byte of its own
split_feed : (pieces : List ChunkPiece) (u w : List ℕ) → flat_map piece_data pieces ≡ u ++ 10 ∷ w
    → (front : List ChunkPiece) × (back : List ChunkPiece) × (pieces ≡ front ++ byte 10 ∷ back) × (flat_map piece_data front ≡ u)
split_feed [] [] w e = absurd (omega (arith, ap length e))
split_feed [] (c ∷ u) w e = absurd (omega (arith, ap length e))
split_feed (sized l ∷ pieces) u w e =
    let later = split_feed pieces u w e in (sized l ∷ later.0, later.1, ap (λ p. sized l ∷ p) later.2, later.3)
split_feed (ended ∷ pieces) u w e =
    let later = split_feed pieces u w e in (ended ∷ later.0, later.1, ap (λ p. ended ∷ p) later.2, later.3)
split_feed (byte b ∷ pieces) [] w e = ([], pieces, ap (λ (v : ℕ). byte v ∷ pieces) (ap first_of e), refl)
split_feed (byte b ∷ pieces) (c ∷ u) w e =
    let later = split_feed pieces u w (ap rest_of e) in
    (byte b ∷ later.0, later.1, ap (λ p. byte b ∷ p) later.2, ap (λ l. b ∷ l) later.3 ∙ ap (λ (v : ℕ). v ∷ u) (ap first_of e))

leads_at : (from to : Place) (front : List ChunkPiece) (piece : ChunkPiece) (back : List ChunkPiece) → Leads from (front ++ piece ∷ back) to
    → (at : Place) × (behind : Place) × Leads from front at × Follows at piece behind
leads_at from to [] piece back x = (from, x.0, refl, x.1)
leads_at from to (p ∷ front) piece back x =
    let later = leads_at x.0 to front piece back x.2 in (later.0, later.1, (x.0, x.1, later.2), later.3)

inside_of : (at behind : Place) → Follows at (byte 10) behind → (left : ℕ) × (at ≡ place.Inside (1 + left))
inside_of place.AtSize behind x = absurd x
inside_of (place.Inside n) behind x = (x.0, ap place.Inside {x = n} {y = 1 + x.0} (omega (arith, x.1)))
inside_of place.Last behind x = absurd x
inside_of place.Over behind x = absurd x

-- a part of a line that goes on to its line feed
part_of : (part t d rest : List ℕ) → IsWithinLine part → t ++ 10 ∷ rest ≡ part ++ d → (u : List ℕ) × (t ≡ part ++ u) × (d ≡ u ++ 10 ∷ rest)
part_of [] t d rest within e = (t, refl, sym e)
part_of (c ∷ part) [] d rest within e = absurd (All-head (λ (v : ℕ). v ≢ 10) c part within (sym (ap first_of e)))
part_of (c ∷ part) (b ∷ t) d rest within e =
    let later = part_of part t d rest (All-tail (λ (v : ℕ). v ≢ 10) c part within) (ap rest_of e) in
    (later.0, ap (λ (v : ℕ). v ∷ t) (ap first_of e) ∙ ap (λ l. c ∷ l) later.1, later.2)

some_is : (a b : ℕ) → ◌≡◌ {A = Option ℕ} (Some a) (Some b) → a ≡ b
some_is a b e = cc

-- ---- one reader stands before a line that another has read

module _ (limit most : ℕ) (bytes more : List ℕ) (all texts later : List (List ℕ)) (t : List ℕ) (ahead reader : ReaderData)
    (x : Stands (Some limit) most bytes all ahead) (y : Stands (Some limit) most (bytes ++ more) texts reader) (split : all ≡ texts ++ t ∷ later) where
  qs : List ChunkPiece
  qs = x.passes.carries.pieces

  ps : List ChunkPiece
  ps = y.passes.carries.pieces

  rest : List ℕ
  rest = lines_bytes later ++ ahead.part

  same_bytes : flat_map piece_bytes y.passes.carries.pieces ++ reader.kept ≡ flat_map piece_bytes x.passes.carries.pieces ++ (ahead.kept ++ more)
  same_bytes =
      ap (λ l. l ++ reader.kept) (sym y.passes.carries.bytes_are) ∙ sym y.passes.bytes_are
      ∙ sym (response_prefix_free bytes more x.begins.0 y.begins.0 x.body y.body x.begins.1.reads y.begins.1.reads).1
      ∙ ap (λ l. l ++ more) x.passes.bytes_are ∙ append_assoc x.passes.framed ahead.kept more ∙ ap (λ l. l ++ (ahead.kept ++ more)) x.passes.carries.bytes_are

  -- the data that was read, as the lines before this one, and it
  whole_data : x.content ≡ lines_bytes texts ++ (t ++ 10 ∷ (lines_bytes later ++ ahead.part))
  whole_data =
      x.holds.joined ∙ ap (λ a. lines_bytes a ++ ahead.part) split ∙ ap (λ b. b ++ ahead.part) (flat_map-append (λ line. line ++ 10 ∷ []) texts (t ∷ later))
      ∙ append_assoc (lines_bytes texts) ((t ++ 10 ∷ []) ++ lines_bytes later) ahead.part
      ∙ ap (λ b. lines_bytes texts ++ b) (append_assoc (t ++ 10 ∷ []) (lines_bytes later) ahead.part ∙ append_assoc t (10 ∷ []) (lines_bytes later ++ ahead.part))

  -- so the other isn't behind it
  not_behind : IsBehind x.passes.carries.pieces ahead.place (ahead.kept ++ more) y.passes.carries.pieces reader.place reader.kept → ⊥
  not_behind b =
      let d = flat_map piece_data b.more in
      let longer : y.content ≡ x.content ++ d =
      y.passes.carries.content_are ∙ ap (flat_map piece_data) b.joined ∙ flat_map-append piece_data x.passes.carries.pieces b.more ∙ ap (λ l. l ++ d) (sym x.passes.carries.content_are) in
      within-none reader.part t ((lines_bytes later ++ ahead.part) ++ d) y.holds.part_is.0
      (append_cancel_left (lines_bytes texts) reader.part ((t ++ 10 ∷ (lines_bytes later ++ ahead.part)) ++ d)
      (sym y.holds.joined ∙ longer ∙ ap (λ l. l ++ d) whole_data ∙ append_assoc (lines_bytes texts) (t ++ 10 ∷ (lines_bytes later ++ ahead.part)) d)
      ∙ append_assoc t (10 ∷ (lines_bytes later ++ ahead.part)) d)

  line_is : IsLine most t
  line_is =
      let behind : drop (length texts) all ≡ t ∷ later = ap (drop (length texts)) split ∙ drop_at texts (t ∷ later) (length texts) refl in
      All-head (IsLine most) t later (All-same (IsLine most) (t ∷ later) (drop (length texts) all) (sym behind) (All-drop (IsLine most) (length texts) all x.holds.lines_are))

  -- it stands before the line, which is at hand
  module _ (b : IsBehind y.passes.carries.pieces reader.place reader.kept x.passes.carries.pieces ahead.place (ahead.kept ++ more)) where
    d : List ℕ
    d = flat_map piece_data b.more

    data_on : x.content ≡ y.content ++ flat_map piece_data b.more
    data_on =
        x.passes.carries.content_are ∙ ap (flat_map piece_data) b.joined ∙ flat_map-append piece_data y.passes.carries.pieces b.more
        ∙ ap (λ l. l ++ flat_map piece_data b.more) (sym y.passes.carries.content_are)

    going : (u : List ℕ) × (t ≡ reader.part ++ u) × (flat_map piece_data b.more ≡ u ++ 10 ∷ (lines_bytes later ++ ahead.part))
    going = part_of reader.part t (flat_map piece_data b.more) (lines_bytes later ++ ahead.part) y.holds.part_is.0
        (append_cancel_left (lines_bytes texts) (t ++ 10 ∷ (lines_bytes later ++ ahead.part)) (reader.part ++ flat_map piece_data b.more)
        (sym whole_data ∙ data_on ∙ ap (λ l. l ++ flat_map piece_data b.more) y.holds.joined ∙ append_assoc (lines_bytes texts) reader.part (flat_map piece_data b.more)))

    holds_line : HoldsLine reader
    holds_line =
        let u : List ℕ = going.0 in
        let within : IsWithinLine u =
        All-same (λ (v : ℕ). v ≢ 10) u (drop (length reader.part) t) (sym (ap (drop (length reader.part)) going.1 ∙ drop_at reader.part u (length reader.part) refl))
        (All-drop (λ (v : ℕ). v ≢ 10) (length reader.part) t line_is.0) in
        let cut = split_feed b.more u (lines_bytes later ++ ahead.part) going.2 in
        let front : List ChunkPiece = cut.0 in
        let back : List ChunkPiece = cut.1 in
        let lead = leads_at reader.place ahead.place front (byte 10) back (subst (λ m. Leads reader.place m ahead.place) cut.2 b.leads) in
        let inside = inside_of lead.0 lead.1 lead.3 in
        let after : List ℕ = flat_map piece_bytes back ++ (ahead.kept ++ more) in
        let spent = x.passes.room in
        let room = y.passes.room in
        let left : ℕ = room.0 in
        let enough : length u + 1 ≤ left =
        omega (arith, spent.1, room.1, ap length data_on ∙ length-append y.content (flat_map piece_data b.more), ap length going.2 ∙ length-append u (10 ∷ (lines_bytes later ++ ahead.part))) in
        let before : ReaderData = record { kept = 10 ∷ after; place = place.Inside (1 + inside.0); part = reader.part ++ u; room = Some (left - length u); most = reader.most } in
        let behind : ReaderData = record { kept = after; place = place.Inside inside.0; part = []; room = Some (left - length u - 1); most = reader.most } in
        let framed : reader.kept ≡ flat_map piece_bytes front ++ 10 ∷ after =
        b.bytes ∙ ap (λ m. flat_map piece_bytes m ++ (ahead.kept ++ more)) cut.2 ∙ ap (λ l. l ++ (ahead.kept ++ more)) (flat_map-append piece_bytes front (byte 10 ∷ back))
        ∙ append_assoc (flat_map piece_bytes front) (10 ∷ flat_map piece_bytes back) (ahead.kept ++ more) in
        let short : length (reader.part ++ u) ≤ reader.most =
        subst (λ (l : List ℕ). length l ≤ reader.most) going.1 (subst (λ (m : ℕ). length t ≤ m) (sym y.passes.most) line_is.1) in
        let spends : Spends reader.room (length u) (Some (left - length u)) =
        subst (λ (r : Option ℕ). Spends r (length u) (Some (left - length u))) (sym room.2) (left - length u, omega (arith, enough), refl) in
        let goes : GoesOn reader reader.kept before = record {
          content = u;
          passes = record {
            framed = flat_map piece_bytes front;
            bytes_are = framed;
            carries = record { pieces = front; leads = subst (λ p. Leads reader.place front p) inside.1 lead.2; bytes_are = refl; content_are = sym cut.3 };
            room = spends;
            most = refl;
          };
          within = within;
          part = refl;
          short = λ h. short;
        } in
        let ends : EndsLine before behind = record {
          left = inside.0;
          feed = refl;
          inside = refl;
          place = refl;
          room = (left - length u - 1, omega (arith, enough), refl);
          most = refl;
          part = refl;
        } in
        (reader.part ++ u, behind, record { before = before; goes = goes; text_is = refl; short = short; ends = ends })

  pub next_line : HoldsLine reader
  next_line = elim (pieces-agree place.AtSize y.passes.carries.pieces x.passes.carries.pieces reader.place ahead.place reader.kept (ahead.kept ++ more) y.passes.carries.leads x.passes.carries.leads same_bytes) [
    | inl b ↦ holds_line b
    | inr b ↦ absurd (not_behind b)
  ]

-- ---- who stands before a line isn't stuck

module _ (agree : OutcomesAgree) (reader : ReaderData) (short : length reader.part ≤ reader.most) (holds : HoldsLine reader) where
  reads : ReadsText reader reader.kept holds.0 holds.1
  reads = holds.2

  short_before : length holds.2.before.part ≤ holds.2.before.most
  short_before = subst (λ (m : ℕ). length holds.2.before.part ≤ m) (sym holds.2.goes.passes.most) (subst (λ (l : List ℕ). length l ≤ reader.most) holds.2.text_is holds.2.short)

  goes_before : GoesOn reader (reader.kept ++ []) holds.2.before
  goes_before = subst (λ (l : List ℕ). GoesOn reader l holds.2.before) (sym (append-nil reader.kept)) holds.2.goes

  pub not_over : HasOutcome reader over → ⊥
  not_over is =
      let same : over ≡ whole = agree reader.kept [] reader reader holds.2.before over whole short (goes-none reader) is goes_before ((holds.1, holds.2.ends), short_before) in cc

  not_refused : (why : LineNo) → IsReaderRefused reader why → ⊥
  not_refused why is =
      let same : refused why ≡ whole = agree reader.kept [] reader reader holds.2.before (refused why) whole short (goes-none reader) is goes_before ((holds.1, holds.2.ends), short_before) in cc

  pub not_stuck : (left : Option (List ℕ)) (why : LineNo) → Faults reader left why → why ≡ Memory
  not_stuck left BadHead is = absurd is
  not_stuck left (Refused code) is = absurd is
  not_stuck left BadChunk is = absurd (not_refused BadChunk is)
  not_stuck left Overlong is = absurd (not_refused Overlong is)
  not_stuck left Unfinished is = absurd (not_refused Unfinished is)
  not_stuck left Spent is = absurd (not_refused Spent is)
  not_stuck left CutShort is = absurd (open-holds-none reader reader (goes-none reader) is.0.1 holds)
  not_stuck left ReadFault is = absurd (open-holds-none reader reader (goes-none reader) is.1 holds)
  not_stuck left Memory is = refl
