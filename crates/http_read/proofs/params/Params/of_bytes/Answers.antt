use Rattle.std.proofs.Common.{◌++◌, map, ap, sym, ◌∙◌, append_assoc, string_bytes}
use Rattle.std.proofs.lemmas.Str.{IsUtf8-string_bytes}
use Rattle.http_read.specs.Queries.{pair_text}
use Rattle.http_read.specs.Places.{pair_at}
use Rattle.http_read.proofs.PlaceLemmas.{pair-more}
use Rattle.form_urlencoded.specs.Form.{raw_pairs}
use Rattle.http_read.proofs.params.Params.of_bytes.Goals as goal

pub loop-name-preserved : goal.loop-name-preserved
loop-name-preserved c =
    let so_far = map (pair_at (string_bytes c.loop-name.text)) c.loop-name.places.items in
    let rest = map pair_text (raw_pairs c.in-Some.others.now) in
    let more =
    pair-more (string_bytes c.loop-name.text) _ _ _ _ c.loop-name.places.items _ _ c.in_ok-push_piece.ensures.text c.in_ok-push_piece-2.ensures.text c.in_ok-push.ensures.items
    (c.len-at.ensures ∙ c.loop-name.text.bytes.ok.0) (c.len-middle.ensures ∙ c.push_piece.new.out.bytes.ok.0) (c.len.ensures ∙ c.push_piece-in-Some.new.out.bytes.ok.0)
    (IsUtf8-string_bytes c.loop-name.text) c.in_ok-push_piece.ensures.utf8 c.in_ok-push_piece-2.ensures.utf8 c.loop-name.invariant.places in
    record {
      plain = λ sure. (c.in-Some.ensures.plain (c.loop-name.invariant.plain sure)).2;
      places = more.0;
      pairs = c.loop-name.invariant.pairs ∙ ap (λ l. so_far ++ map pair_text l) c.in-Some.ensures.first
          ∙ sym (append_assoc so_far _ rest) ∙ ap (λ l. l ++ rest) (sym more.1);
    }
