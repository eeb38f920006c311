-- How readers go on.
use Rattle.std.proofs.Common.{◌≡◌, ◌==◌, ℕ, ◌+◌, ◌<◌, ◌≤◌, Bool, true, false, cond, List, [], ◌++◌, None, Some, length, take, drop, refl, sym, ap, subst, ◌∙◌, arith, append_assoc, append-nil, length-append, length-drop, length-take-le, take-append-drop}
use Rattle.std.specs.Prelude.{Option, ◌≢◌}
use Rattle.std.proofs.lemmas.List.Elements.{All-nil, All-append}
use Rattle.httparse.specs.Grammar.{chunk_size}
use Rattle.line_stream.specs.Chunks.{ChunkPiece, sized, byte, ended, piece_bytes, piece_data, Follows, Carries, most_size}
use Rattle.line_stream.specs.Readers.{ReaderData, Spends, Passes, GoesOn, ReadsText}
use Rattle.line_stream.specs.Looks.{IsFrame, IsData, IsFeed}
use Rattle.line_stream.specs.Moves.{framing_left, steps_left, Moves}
use Rattle.line_stream.proofs.PieceLemmas.{carries-none, carries-append, carries-one, carries-data}
use Rattle.line_stream.specs.declared.place.Place.{Place}
use Rattle.line_stream.specs.declared.place.Place.TheVariants.{AtSize, Inside, Last, Over}

-- ---- room

pub spends-none : (room : Option ℕ) → Spends room 0 room
spends-none None = refl
spends-none (Some r) = (r, omega arith, refl)

pub spends-append : (a b c : Option ℕ) (n m : ℕ) → Spends a n b → Spends b m c → Spends a (n + m) c
spends-append None None c n m x y = y
spends-append None (Some r) c n m x y = cc
spends-append (Some r) None c n m x y = cc
spends-append (Some r) (Some s) c n m x y =
    let same : s ≡ x.0 = some_same s x.0 x.2 in
    (y.0, omega (arith, x.1, y.1, same), y.2)
  where
    some_same : (s t : ℕ) → Some s ≡ Some t → s ≡ t
    some_same s t e = cc

-- ---- one behind the other

pub passes-none : (reader : ReaderData) → Passes reader reader.kept [] reader
passes-none reader = record { framed = []; bytes_are = refl; carries = carries-none reader.place; room = spends-none reader.room; most = refl }

pub passes-append : (old mid new : ReaderData) (bytes c d : List ℕ) → Passes old bytes c mid → Passes mid mid.kept d new → Passes old bytes (c ++ d) new
passes-append old mid new bytes c d x y = record {
  framed = x.framed ++ y.framed;
  bytes_are = x.bytes_are ∙ ap (λ l. x.framed ++ l) y.bytes_are ∙ sym (append_assoc x.framed y.framed new.kept);
  carries = carries-append old.place mid.place new.place x.framed y.framed c d x.carries y.carries;
  room = subst (λ n. Spends old.room n new.room) (sym (length-append c d)) (spends-append old.room mid.room new.room (length c) (length d) x.room y.room);
  most = y.most ∙ x.most;
}

pub goes-none : (reader : ReaderData) → GoesOn reader reader.kept reader
goes-none reader = record {
  content = [];
  passes = passes-none reader;
  within = All-nil (λ (b : ℕ). b ≢ 10);
  part = sym (append-nil reader.part);
  short = λ h. h;
}

pub goes-on : (old mid new : ReaderData) (bytes : List ℕ) → GoesOn old bytes mid → GoesOn mid mid.kept new → GoesOn old bytes new
goes-on old mid new bytes x y = record {
  content = x.content ++ y.content;
  passes = passes-append old mid new bytes x.content y.content x.passes y.passes;
  within = All-append (λ (b : ℕ). b ≢ 10) x.content y.content x.within y.within;
  part = y.part ∙ ap (λ l. l ++ y.content) x.part ∙ append_assoc old.part x.content y.content;
  short = λ h. subst (λ (m : ℕ). length new.part ≤ m) x.passes.most
      (y.short (subst (λ (m : ℕ). length mid.part ≤ m) (sym x.passes.most) (x.short h)));
}

-- more bytes were taken
pub goes-more : (old mid : ReaderData) (bytes came : List ℕ) → GoesOn old bytes mid → GoesOn old (bytes ++ came) (record mid { kept = mid.kept ++ came })
goes-more old mid bytes came x = record {
  content = x.content;
  passes = record {
    framed = x.passes.framed;
    bytes_are = ap (λ l. l ++ came) x.passes.bytes_are ∙ append_assoc x.passes.framed mid.kept came;
    carries = x.passes.carries;
    room = x.passes.room;
    most = x.passes.most;
  };
  within = x.within;
  part = x.part;
  short = x.short;
}

pub reads-on : (old mid new : ReaderData) (bytes text : List ℕ) → GoesOn old bytes mid → ReadsText mid mid.kept text new → ReadsText old bytes text new
reads-on old mid new bytes text x y = record {
  before = y.before;
  goes = goes-on old mid y.before bytes x y.goes;
  text_is = y.text_is;
  short = subst (λ (m : ℕ). length text ≤ m) x.passes.most y.short;
  ends = y.ends;
}

-- ---- steps

framing_behind : (n : ℕ) (b : Bool) → (n == 0) ≡ b → framing_left (cond b Last (Inside n)) ≡ 3
framing_behind n true e = refl
framing_behind n false e = ap (λ t. cond t 71 3) e

pub inside_least : (n : ℕ) (b : Bool) → (n == 0) ≡ b → (3 ≤ cond b 71 3) × (cond b 71 3 ≤ 71)
inside_least n true e = (omega arith, omega arith)
inside_least n false e = (omega arith, omega arith)

-- a piece without data brings a byte of data nearer
frame_nearer : (place : Place) (piece : ChunkPiece) (to : Place) → Follows place piece to → piece_data piece ≡ [] → framing_left to + length (piece_bytes piece) < framing_left place
frame_nearer AtSize (sized l) to x none =
    omega (arith, x.1, ap framing_left x.2 ∙ framing_behind (chunk_size l) (chunk_size l == 0) refl)
frame_nearer AtSize (byte b) to x none = absurd x
frame_nearer AtSize ended to x none = absurd x
frame_nearer (Inside n) (sized l) to x none = absurd x
frame_nearer (Inside n) (byte b) to x none = absurd (omega (arith, ap length none))
frame_nearer (Inside n) ended to x none =
    omega (arith, ap framing_left x.1, ap (λ (m : ℕ). framing_left (Inside m)) {x = n} {y = 0} x.0)
frame_nearer Last (sized l) to x none = absurd x
frame_nearer Last (byte b) to x none = absurd x
frame_nearer Last ended to x none = omega (arith, ap framing_left x)
frame_nearer Over piece to x none = absurd x

pub frame-moves : (reader : ReaderData) (len : ℕ) (to : Place) → IsFrame reader.place reader.kept len to → Moves reader (record reader { kept = drop len reader.kept; place = to })
frame-moves reader len to f =
    let near = frame_nearer reader.place f.piece to f.follows f.no_data in
    let one = carries-one reader.place to f.piece f.follows in record {
      goes = record {
        content = [];
        passes = record {
          framed = piece_bytes f.piece;
          bytes_are = f.stands;
          carries = subst (λ c. Carries reader.place (piece_bytes f.piece) c to) f.no_data one;
          room = spends-none reader.room;
          most = refl;
        };
        within = All-nil (λ (b : ℕ). b ≢ 10);
        part = sym (append-nil reader.part);
        short = λ h. h;
      };
      nearer = omega (arith, near, f.len_is, ap length f.stands, length-append (piece_bytes f.piece) (drop len reader.kept), length-drop len reader.kept);
    }

pub data-moves : (reader : ReaderData) (len left : ℕ) (room : Option ℕ) → IsData reader len left → Spends reader.room len room
    → Moves reader (record { kept = drop len reader.kept; place = Inside left; part = reader.part ++ take len reader.kept; room = room; most = reader.most })
data-moves reader len left room d spends =
    let content = take len reader.kept in
    let size : length content ≡ len = length-take-le len reader.kept d.stands in
    let least = inside_least left (left == 0) refl in
    let before = inside_least (len + left) (len + left == 0) refl in record {
      goes = record {
        content = content;
        passes = record {
          framed = content;
          bytes_are = sym (take-append-drop len reader.kept);
          carries = subst (λ p. Carries p content content (Inside left)) (sym (d.place ∙ ap (λ (n : ℕ). Inside (n + left)) {x = len} {y = length content} (sym size))) (carries-data content left);
          room = subst (λ n. Spends reader.room n room) (sym size) spends;
          most = refl;
        };
        within = d.within;
        part = refl;
        short = λ h. omega (arith, d.short, size, length-append reader.part content);
      };
      nearer = omega (arith, d.some, d.short, d.stands, size, least.1, before.0, ap framing_left d.place, length-append reader.part content, length-drop len reader.kept);
    }

pub feed-reads : (reader : ReaderData) (left : ℕ) (room : Option ℕ) → IsFeed reader left → Spends reader.room 1 room
    → ReadsText reader reader.kept reader.part (record { kept = drop 1 reader.kept; place = Inside left; part = []; room = room; most = reader.most })
feed-reads reader left room f spends = record {
  before = reader;
  goes = goes-none reader;
  text_is = refl;
  short = f.short;
  ends = record { left = left; feed = f.stands; inside = f.place; place = refl; room = spends; most = refl; part = refl };
}

-- ---- the same of a reader's fields

module _ (old inner : ReaderData) (e : inner ≡ old) where
  pub pass-moves : {kept : List ℕ} (len : ℕ) (to : Place) → kept ≡ drop len inner.kept → IsFrame old.place old.kept len to
      → Moves old (record { kept = kept; place = to; part = inner.part; room = inner.room; most = inner.most })
  pass-moves {kept} len to k f =
      let s : old ≡ inner = sym e in
      let rest : drop len old.kept ≡ kept = ap (λ r. drop len r.kept) s ∙ sym k in
      subst (Moves old) (λ i. record { kept = rest i; place = to; part = (s i).part; room = (s i).room; most = (s i).most }) (frame-moves old len to f)

  pub take-moves : {kept part : List ℕ} {room : Option ℕ} (len left : ℕ) → kept ≡ drop len inner.kept → part ≡ inner.part ++ take len inner.kept
      → Spends inner.room len room → IsData old len left → Moves old (record { kept = kept; place = Inside left; part = part; room = room; most = inner.most })
  take-moves {kept} {part} {room} len left k p spends d =
      let s : old ≡ inner = sym e in
      let rest : drop len old.kept ≡ kept = ap (λ r. drop len r.kept) s ∙ sym k in
      let more : old.part ++ take len old.kept ≡ part = ap (λ r. r.part ++ take len r.kept) s ∙ sym p in
      subst (Moves old) (λ i. record { kept = rest i; place = Inside left; part = more i; room = room; most = (s i).most })
      (data-moves old len left room d (subst (λ r. Spends r.room len room) e spends))

  pub end-reads : {kept part text : List ℕ} {room : Option ℕ} (left : ℕ) → kept ≡ drop 1 inner.kept → part ≡ [] → text ≡ inner.part
      → Spends inner.room 1 room → IsFeed old left → ReadsText old old.kept text (record { kept = kept; place = Inside left; part = part; room = room; most = inner.most })
  end-reads {kept} {part} {text} {room} left k p t spends f =
      let s : old ≡ inner = sym e in
      let rest : drop 1 old.kept ≡ kept = ap (λ r. drop 1 r.kept) s ∙ sym k in
      let none : [] ≡ part = sym p in
      let line : old.part ≡ text = ap (λ r. r.part) s ∙ sym t in
      subst (λ x. ReadsText old old.kept x (record { kept = kept; place = Inside left; part = part; room = room; most = inner.most })) line
      (subst (ReadsText old old.kept old.part) (λ i. record { kept = rest i; place = Inside left; part = none i; room = room; most = (s i).most })
      (feed-reads old left room f (subst (λ r. Spends r.room 1 room) e spends)))

-- each byte that is read brings the end of a line nearer
pub fill-nearer : (reader : ReaderData) (came : List ℕ) → length reader.kept < most_size → 0 < length came → steps_left (record reader { kept = reader.kept ++ came }) < steps_left reader
fill-nearer reader came few some = omega (arith, few, some, length-append reader.kept came)
