use Rattle.std.proofs.Common.{◌≡◌, ◌++◌, ◌∷◌, [], ◌<◌, Bool, true, false, length, refl, sym, ap, ◌∙◌, append_assoc, arith, ℕ, zero, suc}
use Rattle.std.specs.Prelude.{map, ◌==◌}
use Rattle.std.proofs.lemmas.Bool.{eqb-false}
use Rattle.std.proofs.lemmas.List.{map-append}
use Rattle.watch_record.specs.Lines.{is_feed, first_line}
use Rattle.watch_record.specs.Between.{all_lines}
use Rattle.watch_record.proofs.PartLemmas.{lines-next, lines-shorter, some-left}
use Rattle.watch_record.proofs.between_parts.lines_of.Goals as goal

pub lines-preserved : goal.lines-preserved
lines-preserved c =
    let rest = c.lines.rest.now in
    let before = map (λ line. line.now) c.lines.lines.items in
    let some : 0 < length rest = some-left (length rest) c.is_empty.result c.is_empty.ensures c.lines-test.true in
    let next : all_lines rest ≡ c.line_of.result.0.now ∷ all_lines c.line_of.result.1.now = rw (c.line_of.ensures.line, c.line_of.ensures.rest) (lines-next rest some) in
    rw (c.in_ok-push.ensures.items, map-append) (c.lines.invariant ∙ ap (λ l. before ++ l) next ∙ sym (append_assoc before (c.line_of.result.0.now ∷ []) (all_lines c.line_of.result.1.now)))

pub lines-smaller : goal.lines-smaller
lines-smaller c =
    let rest = c.lines.rest.now in
    let some : 0 < length rest = some-left (length rest) c.is_empty.result c.is_empty.ensures c.lines-test.true in
    let fewer : length c.line_of.result.1.now < length rest = rw c.line_of.ensures.rest (lines-shorter rest some) in
    fewer
