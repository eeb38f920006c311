use Rattle.mirror_link.proofs.FollowLemmas.{lawful_fault}
use Rattle.mirror_link.proofs.laws.lawful_lines_are_heard.Goals as goal

pub returns : goal.returns
returns c peer ask log_floor low b from lines line m text found mirror is reads good asked follows begins =
    lawful_fault peer ask log_floor low b from lines m.selection m.log m.kept text line found
    (record { reads = c.lines_read_back.ensures; pods = mirror.pods; some = mirror.some; is = is; good = good; asked = asked; follows = follows; begins = begins }) reads m.most_gap m.told
