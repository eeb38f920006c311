use Rattle.std.proofs.Common.{◌∙◌, ap, drop}
use Rattle.http_read.proofs.WindowLemmas.{window-consume, window-length}
use Rattle.http_read.proofs.unread.Unread.consume.Goals as goal

pub returns-else-self : goal.returns-else-self
returns-else-self c =
    let b = c.self.inside in
    window-consume b.buffer.items b.start b.end c.args.n
    (window-length _ _ _ _ c.self.view_is c.self.invariant.1 c.requires)
    ∙ ap (drop c.args.n) c.self.view_is
