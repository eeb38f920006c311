use Rattle.std.proofs.Common.{lit<}
use Rattle.std.proofs.lemmas.Str.Pattern.{split_once_first}
use Rattle.watch_record.proofs.LineLemmas.{next-found}
use Rattle.watch_record.proofs.parts.next_line.Goals as goal

pub returns : goal.returns
returns c =
    let text = c.args.text.now in
    next-found text c.split_once.result (split_once_first 10 text c.split_once.result c.split_once.ensures.cases (lit< tt))
