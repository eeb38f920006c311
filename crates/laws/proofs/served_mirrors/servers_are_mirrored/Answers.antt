use Rattle.laws.proofs.ServerLemmas.{servers_are_mirrored}
use Rattle.laws.proofs.served_mirrors.servers_are_mirrored.Goals as goal

pub returns : goal.returns
returns c = servers_are_mirrored c.fitting_logs_are_logs.ensures c.lines_read_back.ensures c.texts_have_no_line_feed.ensures
