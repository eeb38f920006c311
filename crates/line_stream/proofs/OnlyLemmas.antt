-- A line is read in one way.
use Rattle.std.proofs.Common.{◌≡◌, ℕ, ◌+◌, List, [], ◌∷◌, ◌++◌, None, Some, length, sym, ap, subst, ◌∙◌, arith, append-nil, inl, inr}
use Rattle.std.specs.Prelude.{Option}
use Rattle.std.specs.List.{flat_map}
use Rattle.line_stream.specs.Chunks.{piece_bytes, piece_data, Leads}
use Rattle.line_stream.specs.Readers.{ReaderData, Spends, GoesOn, EndsLine}
use Rattle.line_stream.specs.Laws.{LinesAreDetermined}
use Rattle.line_stream.proofs.ReaderLemmas.{goes-more}
use Rattle.line_stream.proofs.IdleLemmas.{IsAhead, goings-agree, AtFeed, at-feed, feed-none}
use Rattle.line_stream.specs.declared.place.Place.{Place}
use Rattle.line_stream.specs.declared.place.Place.TheVariants.{AtSize, Inside, Last, Over}

spends-one : (room a b : Option ℕ) (n : ℕ) → Spends room n a → Spends room n b → a ≡ b
spends-one None a b n x y = x ∙ sym y
spends-one (Some r) a b n x y =
    let same : x.0 ≡ y.0 = omega (arith, x.1, y.1) in x.2 ∙ ap Some same ∙ sym y.2

-- two readers that stand before the line feed of their line, over the same bytes, stand at one place
record IsSame (first second : ReaderData) : Type 0 where
  place : first.place ≡ second.place
  kept : first.kept ≡ second.kept
  part : first.part ≡ second.part
  room : first.room ≡ second.room
  most : first.most ≡ second.most

none_ahead : (old first second : ReaderData) (bytes : List ℕ) (x : GoesOn old bytes first) (y : GoesOn old bytes second) → IsAhead first second x.content y.content
    → AtFeed first.place first.kept → IsSame first second
none_ahead old first second bytes x y a feed =
    let none = feed-none first.place first.kept a.more second.place second.kept y.content x.content feed a.leads a.bytes y.within a.rest in
    let same : y.content ≡ x.content = a.rest ∙ ap (λ m. x.content ++ flat_map piece_data m) none ∙ append-nil x.content in record {
      place = subst (λ m. Leads first.place m second.place) none a.leads;
      kept = a.bytes ∙ ap (λ m. flat_map piece_bytes m ++ second.kept) none;
      part = x.part ∙ ap (λ c. old.part ++ c) (sym same) ∙ sym y.part;
      room = spends-one old.room first.room second.room (length x.content) x.passes.room (subst (λ c. Spends old.room (length c) second.room) same y.passes.room);
      most = x.passes.most ∙ sym y.passes.most;
    }

mirrored : (first second : ReaderData) → IsSame first second → IsSame second first
mirrored first second x = record { place = sym x.place; kept = sym x.kept; part = sym x.part; room = sym x.room; most = sym x.most }

same_before : (old first second : ReaderData) (bytes : List ℕ) → GoesOn old bytes first → GoesOn old bytes second → AtFeed first.place first.kept → AtFeed second.place second.kept
    → IsSame first second
same_before old first second bytes x y a b =
    elim (goings-agree old first second bytes x y) [
      | inl ahead ↦ none_ahead old first second bytes x y ahead a
      | inr ahead ↦ mirrored second first (none_ahead old second first bytes y x ahead b)
    ]

inside_equal : (m n : ℕ) → Inside (1 + m) ≡ Inside (1 + n) → m ≡ n
inside_equal m n e = omega (arith, ap size_of e)
  where
    size_of : Place → ℕ
    size_of AtSize = 0
    size_of (Inside n) = n
    size_of Last = 0
    size_of Over = 0

tail_of : List ℕ → List ℕ
tail_of [] = []
tail_of (b ∷ bytes) = bytes

same-after : (first second new later : ReaderData) (more : List ℕ) → EndsLine first new → EndsLine second later → IsSame (record first { kept = first.kept ++ more }) second
    → later ≡ record new { kept = new.kept ++ more }
unfolding tail_of
same-after first second new later more x y same =
    let left = inside_equal y.left x.left (sym y.inside ∙ sym same.place ∙ x.inside) in
    let place : later.place ≡ new.place = y.place ∙ ap Inside left ∙ sym x.place in
    let kept : later.kept ≡ new.kept ++ more = ap tail_of (sym y.feed ∙ sym same.kept ∙ ap (λ l. l ++ more) x.feed) in
    let part : later.part ≡ new.part = y.part ∙ sym x.part in
    let room : later.room ≡ new.room = spends-one second.room later.room new.room 1 y.room (subst (λ r. Spends r 1 new.room) same.room x.room) in
    let most : later.most ≡ new.most = y.most ∙ sym same.most ∙ sym x.most in
    λ i. record { kept = kept i; place = place i; part = part i; room = room i; most = most i }

pub lines-are-determined : LinesAreDetermined
lines-are-determined bytes more text other old new later x y =
    let first = x.before in
    let with_more : ReaderData = record first { kept = first.kept ++ more } in
    let feed = at-feed first new x.ends in
    let same = same_before old with_more y.before (bytes ++ more) (goes-more old first bytes more x.goes) y.goes
    (feed.0, feed.1 ++ more, feed.2, ap (λ l. l ++ more) feed.3) (at-feed y.before later y.ends) in
    (y.text_is ∙ sym same.part ∙ sym x.text_is, same-after first y.before new later more x.ends y.ends same)
