use Rattle.std.proofs.Common.{◌≡◌, ◌<◌, ◌-◌, ◌+◌, length, arith, sym, ◌∙◌}
use Rattle.std.specs.Prelude.{Some, slice_get}
use Rattle.watch_record.proofs.PartLemmas.{last-empty, last-some, last-none, none-left, some-left, empty-past}
use Rattle.watch_record.proofs.between_parts.without_end.Goals.{in-Some, in-None}
use Rattle.watch_record.proofs.between_parts.without_end.Goals as goal

pub returns-then-ends_empty : goal.returns-then-ends_empty
returns-then-ends_empty c = elim c.match-last.branch [
  | in-Some w ↦
      let texts = c.args.texts.now in
      let none : length w.in-Some.last.now.now ≡ 0 = none-left (length w.in-Some.last.now.now) w.is_empty-ends_empty.result w.is_empty-ends_empty.ensures (sym w.ends_empty-is ∙ c.if-ends_empty.true) in
      let some : 0 < length texts = w.in-Some.ensures.item.3.0 in
      last-empty texts (length texts - 1) w.in-Some.last.now (omega (arith, some)) w.in-Some.ensures.value none
  | in-None w ↦ absurd (let h = w.ends_empty-is in let k = c.if-ends_empty.true in cc)
]

pub returns-else-ends_empty : goal.returns-else-ends_empty
returns-else-ends_empty c = elim c.match-last.branch [
  | in-Some w ↦
      let texts = c.args.texts.now in
      let more : 0 < length w.in-Some.last.now.now = some-left (length w.in-Some.last.now.now) w.is_empty-ends_empty.result w.is_empty-ends_empty.ensures (sym w.ends_empty-is ∙ c.if-ends_empty.false) in
      let some : 0 < length texts = w.in-Some.ensures.item.3.0 in
      last-some texts (length texts - 1) w.in-Some.last.now (omega (arith, some)) w.in-Some.ensures.value more
  | in-None w ↦ last-none c.args.texts.now (empty-past c.args.texts.now w.in-None.ensures.value)
]
