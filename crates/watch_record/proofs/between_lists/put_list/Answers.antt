use Rattle.std.proofs.Common.{◌≡◌, ◌∙◌, ap, sym}
use Rattle.std.specs.Prelude.{nat_lt, List}
use Rattle.std.specs.List.{position_or_len}
use Rattle.watch_record.specs.Between.{LaterData}
use Rattle.watch_record.proofs.LaterLemmas.{put-placed}
use Rattle.watch_record.proofs.between_lists.put_list.Goals as goal

pub returns : goal.returns
returns c =
    let here : c.list.inside.at ≡ c.args.list.at = ap (λ (l : LaterData). l.at) c.list.view_is in
    c.in_ok-insert.ensures.items
    ∙ put-placed c.args.list c.args.later.now.items c.place_in-at.result (c.place_in-at.ensures.place ∙ ap (λ at. position_or_len (λ (other : LaterData). nat_lt at other.at) c.as_slice.result.now) here
    ∙ ap (λ (l : List LaterData). position_or_len (λ other. nat_lt c.args.list.at other.at) l) c.as_slice.ensures.value)
