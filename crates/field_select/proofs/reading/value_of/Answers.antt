use Rattle.std.proofs.Common.{◌≡◌, ◌<◌, ◌++◌, ◌∷◌, [], refl, ◌∙◌, string_bytes}
use Rattle.std.proofs.lemmas.Str.{encode_ascii}
use Rattle.field_select.proofs.Runs.{escaped_is_ascii}
use Rattle.field_select.proofs.Loops.{turn_ends, turn_equal, turn_bad, turn_more, turn_shorter, escapes_is}
use Rattle.field_select.proofs.reading.value_of.Goals as goal

pub returns-then-takes : goal.returns-then-takes
returns-then-takes c =
    let l = c.loop-value in
    let rest = c.take_run.new.self.rest.now in
    let wrong = turn_equal l.reader.end (string_bytes l.value) l.reader.rest.now _ l.invariant.so_far rest c.takes.new.self.rest.now c.take_run.ensures.left c.if-not-takes.ensures.answer c.takes.ensures.left c.if-takes.ensures.answer in
    (c.takes-then-not-takes.ensures.end ∙ c.takes.ensures.end ∙ c.take_run.ensures.end ∙ l.invariant.same_end, rw (c.place-at.ensures, c.take_run.ensures.end) wrong)

pub returns-then-not-takes : goal.returns-then-not-takes
returns-then-not-takes c =
    let l = c.loop-value in
    let done = turn_ends l.reader.end (string_bytes l.value) l.reader.rest.now _ l.invariant.so_far c.take_run.result.now c.take_run.new.self.rest.now c.takes.new.self.rest.now c.takes-then-not-takes.new.self.rest.now
    c.take_run.ensures.taken c.take_run.ensures.left c.if-not-takes.ensures.answer c.takes.ensures.left c.if-takes.ensures.answer c.takes-then-not-takes.ensures.left in
    (c.takes-then-not-takes.ensures.end ∙ c.takes.ensures.end ∙ c.take_run.ensures.end ∙ l.invariant.same_end, rw (c.from_string.ensures, c.in_ok-push_str.ensures.bytes) done)

pub loop-value-smaller : goal.loop-value-smaller
loop-value-smaller c =
    turn_shorter c.loop-value.reader.rest.now c.take_run.new.self.rest.now c.takes.new.self.rest.now c.escaped.new.self.rest.now c.in-Some.byte c.take_run.ensures.left c.if-not-takes.ensures.answer c.takes.ensures.left c.in-Some.ensures.found

pub loop-value-preserved : goal.loop-value-preserved
loop-value-preserved c =
    let l = c.loop-value in
    let part = c.take_run.result.now in
    let byte = c.in-Some.byte in
    let more = turn_more l.reader.end (string_bytes l.value) l.reader.rest.now _ l.invariant.so_far part c.take_run.new.self.rest.now c.takes.new.self.rest.now c.escaped.new.self.rest.now byte
    c.take_run.ensures.taken c.take_run.ensures.left c.if-not-takes.ensures.answer c.takes.ensures.left c.in-Some.ensures.found in
    let ascii : byte < 128 = escaped_is_ascii byte (escapes_is c.takes.new.self.rest.now byte c.escaped.new.self.rest.now c.in-Some.ensures.found).1 in
    let made : string_bytes c.push.new.self ≡ (string_bytes l.value ++ part) ++ byte ∷ [] = c.in_ok-push-in-Some.ensures.bytes ∙ rw (c.in_ok-push_str.ensures.bytes, encode_ascii byte ascii) refl in
    let same = c.escaped.ensures.end ∙ c.takes.ensures.end ∙ c.take_run.ensures.end in
    record { same_end = same ∙ l.invariant.same_end; so_far = rw (made, same) more }

pub returns-in-None : goal.returns-in-None
returns-in-None c =
    let l = c.loop-value in
    let wrong = turn_bad l.reader.end (string_bytes l.value) l.reader.rest.now _ l.invariant.so_far c.take_run.new.self.rest.now c.takes.new.self.rest.now c.escaped.new.self.rest.now c.take_run.ensures.left c.if-not-takes.ensures.answer c.takes.ensures.left c.in-None.ensures.found in
    (c.escaped.ensures.end ∙ c.takes.ensures.end ∙ c.take_run.ensures.end ∙ l.invariant.same_end, rw (c.place-at.ensures, c.take_run.ensures.end) wrong)
