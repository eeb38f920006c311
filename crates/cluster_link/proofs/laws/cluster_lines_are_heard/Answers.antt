use Rattle.cluster_link.specs.Mirroring.{mirror_log}
use Rattle.cluster_link.proofs.LawLemmas.{faultless}
use Rattle.cluster_link.proofs.laws.cluster_lines_are_heard.Goals as goal

pub returns : goal.returns
returns c peer ask log_floor low b from lines line m text found mirror tells reads cluster asked follows begins =
    faultless peer ask log_floor low b from lines (mirror_log m) text mirror.any_gap line found
    (record { one = c.texts_tell_one_line.ensures; tells = tells; cluster = cluster; asked = asked; follows = follows; begins = begins }) reads
