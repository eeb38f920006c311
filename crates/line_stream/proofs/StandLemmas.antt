-- Who stands in some bytes.
use Rattle.std.proofs.Common.{◌≡◌, ℕ, ◌+◌, ◌≤◌, List, [], ◌∷◌, ◌++◌, length, refl, sym, ap, subst, ◌∙◌, arith, append_assoc, append-nil}
use Rattle.std.specs.Prelude.{◌≢◌, Option}
use Rattle.std.proofs.lemmas.List.Elements.{All-nil, All-push, All-append}
use Rattle.std.proofs.lemmas.List.Concat.{flat_map-append}
use Rattle.httparse.proofs.GrammarLemmas.{ReadsResponse-append}
use Rattle.line_stream.specs.Chunks.{Carries}
use Rattle.line_stream.specs.Heads.{BeginsChunks, at_body}
use Rattle.line_stream.specs.Readers.{ReaderData, IsWithinLine, Passes, EndsLine}
use Rattle.line_stream.specs.Standing.{IsLine, lines_bytes, HoldsLines}
use Rattle.line_stream.specs.Laws.{BodiesBegin, LinesGoOn, PartsGoOn}
use Rattle.line_stream.proofs.PieceLemmas.{carries-data, carries-none}
use Rattle.line_stream.proofs.ReaderLemmas.{passes-append, spends-none}
use Rattle.line_stream.specs.declared.place.Place.TheVariants.{Inside}

-- bytes that follow belong to the body
begins-append : (bytes after taken : List ℕ) → BeginsChunks bytes after → BeginsChunks (bytes ++ taken) (after ++ taken)
begins-append bytes after taken x =
    (x.0, record { reads = ReadsResponse-append bytes x.0 after taken x.1.reads; short = x.1.short; few_fields = x.1.few_fields }, x.2, x.3)

-- a way over some bytes is one over more, which are kept
passes-more : (room : Option ℕ) (most : ℕ) (body content taken : List ℕ) (mid : ReaderData) → Passes (at_body room most body) body content mid
    → Passes (at_body room most (body ++ taken)) (body ++ taken) content (record mid { kept = mid.kept ++ taken })
passes-more room most body content taken mid x = record {
  framed = x.framed;
  bytes_are = ap (λ l. l ++ taken) x.bytes_are ∙ append_assoc x.framed mid.kept taken;
  carries = x.carries;
  room = x.room;
  most = x.most;
}

-- what a reader keeps doesn't matter where its way begins
from-kept : (old new : ReaderData) (kept bytes content : List ℕ) → Passes old bytes content new → Passes (record old { kept = kept }) bytes content new
from-kept old new kept bytes content x = record { framed = x.framed; bytes_are = x.bytes_are; carries = x.carries; room = x.room; most = x.most }

-- the way goes on
onward : (room : Option ℕ) (most : ℕ) (body first second taken : List ℕ) (old new : ReaderData) → Passes (at_body room most body) body first old → Passes old (old.kept ++ taken) second new
    → Passes (at_body room most (body ++ taken)) (body ++ taken) (first ++ second) new
onward room most body first second taken old new x y =
    passes-append (at_body room most (body ++ taken)) (record old { kept = old.kept ++ taken }) new (body ++ taken) first second
    (passes-more room most body first taken old x) (from-kept old new (old.kept ++ taken) (old.kept ++ taken) second y)

-- the way over a line feed
feed-passes : (old new : ReaderData) → EndsLine old new → Passes old old.kept (10 ∷ []) new
feed-passes old new x = record {
  framed = 10 ∷ [];
  bytes_are = x.feed;
  carries = subst (λ p. Carries p (10 ∷ []) (10 ∷ []) new.place) (sym x.inside)
      (subst (λ p. Carries (Inside (1 + x.left)) (10 ∷ []) (10 ∷ []) p) (sym x.place) (carries-data (10 ∷ []) x.left));
  room = x.room;
  most = x.most;
}

-- ---- lines

part-longer : (most : ℕ) (content more part new : List ℕ) (lines : List (List ℕ)) → HoldsLines most content lines part → IsWithinLine more → new ≡ part ++ more → (length part ≤ most → length new ≤ most)
    → HoldsLines most (content ++ more) lines new
part-longer most content more part new lines x w e short = record {
  joined = ap (λ l. l ++ more) x.joined ∙ append_assoc (lines_bytes lines) part more ∙ ap (λ l. lines_bytes lines ++ l) (sym e);
  lines_are = x.lines_are;
  part_is = (subst IsWithinLine (sym e) (All-append (λ (b : ℕ). b ≢ 10) part more x.part_is.0 w), short x.part_is.1);
}

line-ended : (most : ℕ) (content part new : List ℕ) (lines : List (List ℕ)) → HoldsLines most content lines part → new ≡ [] → HoldsLines most (content ++ 10 ∷ []) (lines ++ part ∷ []) new
line-ended most content part new lines x e = record {
  joined =
      ap (λ l. l ++ 10 ∷ []) x.joined ∙ append_assoc (lines_bytes lines) part (10 ∷ [])
      ∙ ap (λ l. lines_bytes lines ++ l) (sym (append-nil (part ++ 10 ∷ [])))
      ∙ sym (flat_map-append (λ line. line ++ 10 ∷ []) lines (part ∷ []))
      ∙ sym (append-nil (lines_bytes (lines ++ part ∷ []))) ∙ ap (λ l. lines_bytes (lines ++ part ∷ []) ++ l) (sym e);
  lines_are = All-push (IsLine most) lines part x.lines_are x.part_is;
  part_is = subst (IsLine most) (sym e) (All-nil (λ (b : ℕ). b ≢ 10), omega arith);
}

-- ---- the laws

pub bodies-begin : BodiesBegin
bodies-begin room most bytes after x = record {
  body = after;
  begins = x;
  content = [];
  passes = record { framed = []; bytes_are = refl; carries = carries-none (at_body room most after).place; room = spends-none room; most = refl };
  holds = record { joined = refl; lines_are = All-nil (IsLine most); part_is = (All-nil (λ (b : ℕ). b ≢ 10), omega arith) };
}

pub parts-go-on : PartsGoOn
parts-go-on room most bytes taken lines old new x y = record {
  body = x.body ++ taken;
  begins = begins-append bytes x.body taken x.begins;
  content = x.content ++ y.content;
  passes = onward room most x.body x.content y.content taken old new x.passes y.passes;
  holds = part-longer most x.content y.content old.part new.part lines x.holds y.within y.part
      (subst (λ (m : ℕ). length old.part ≤ m → length new.part ≤ m) x.passes.most y.short);
}

pub lines-go-on : LinesGoOn
lines-go-on room most bytes taken text lines old new x y =
    let z = parts-go-on room most bytes taken lines old y.before x y.goes in record {
      body = z.body;
      begins = z.begins;
      content = z.content ++ 10 ∷ [];
      passes = passes-append (at_body room most z.body) y.before new z.body z.content (10 ∷ []) z.passes (feed-passes y.before new y.ends);
      holds = subst (λ t. HoldsLines most (z.content ++ 10 ∷ []) (lines ++ t ∷ []) new.part) (sym y.text_is) (line-ended most z.content y.before.part new.part lines z.holds y.ends.part);
    }
