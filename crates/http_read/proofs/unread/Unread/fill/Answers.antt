use Rattle.std.proofs.Common.{◌∙◌, ap, take, drop, length, ◌≡◌, ◌≤◌, ◌<◌, ◌-◌, ◌+◌, ◌++◌, arith, length-take, length-drop, length-take-le}
use Rattle.std.proofs.lemmas.List.{with_items_is}
use borrow.Rule.Slice.PartMut.{put_mid, post_of, same_len_mid}
use Rattle.http_read.proofs.WindowLemmas.{window-fill, window-kept}
use Rattle.http_read.proofs.unread.Unread.fill.Goals as goal

pub returns-in-Ok-read-clause-taken : goal.returns-in-Ok-read-clause-taken
returns-in-Ok-read-clause-taken g c =
    let room = c.in-Ok.ensures in
    let s = c.in-Ok.place.0 in
    let e = c.in-Ok.place.1 in
    let buffer = c.deref_mut.result.now in
    let new = c.read.new.buf in
    let ordered : s ≤ e = omega (arith, room.length_kept) in
    let behind : e < length buffer = omega (arith, room.room, ap length c.deref_mut.ensures.value) in
    let value : take (e - s) (drop s buffer) ≡ c.args.self.now =
    ap (λ l. take (e - s) (drop s l)) c.deref_mut.ensures.value ∙ room.same ∙ c.self.view_is in
    let written = with_items_is c.make_room.new.buffer (put_mid e (length buffer - e) buffer new) (omega (arith, same_len_mid e (length buffer - e) buffer new c.read.auto.buf, ap length c.deref_mut.ensures.value)) in (
      take c.in-Ok-read.n new,
      length-take-le c.in-Ok-read.n new c.in-Ok-read.ensures.within,
      ap (λ l. take (e + c.in-Ok-read.n - s) (drop s l)) written
          ∙ window-fill buffer new _ s e c.in-Ok-read.n ordered (omega arith) c.in-Ok-read.ensures.within ∙ ap (λ l. l ++ take c.in-Ok-read.n new) value,
      c.in-Ok-read.ensures.taken,
      λ none. c.in-Ok-read.ensures.end none (omega (arith, behind, c.read.auto.buf, length-take (length buffer - e) (drop e buffer), length-drop e buffer)),
    )

pub returns-in-Err-read-clause-kept : goal.returns-in-Err-read-clause-kept
returns-in-Err-read-clause-kept g c =
    let room = c.in-Ok.ensures in
    let s = c.in-Ok.place.0 in
    let e = c.in-Ok.place.1 in
    let buffer = c.deref_mut.result.now in
    let new = c.read.new.buf in
    let ordered : s ≤ e = omega (arith, room.length_kept) in
    let behind : e < length buffer = omega (arith, room.room, ap length c.deref_mut.ensures.value) in
    let value : take (e - s) (drop s buffer) ≡ c.args.self.now =
    ap (λ l. take (e - s) (drop s l)) c.deref_mut.ensures.value ∙ room.same ∙ c.self.view_is in
    let written = with_items_is c.make_room.new.buffer (put_mid e (length buffer - e) buffer new) (omega (arith, same_len_mid e (length buffer - e) buffer new c.read.auto.buf, ap length c.deref_mut.ensures.value)) in (
      ap (λ l. take (e - s) (drop s l)) written ∙ window-kept buffer (new ++ post_of e (length buffer - e) buffer) s e ordered (omega arith) ∙ value,
      c.in-Err-read.ensures.kept,
    )
