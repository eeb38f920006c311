use Rattle.std.proofs.Common.{◌≡◌, true}
use Rattle.watch_lines.proofs.LineLemmas.{none-told, other-told}
use Rattle.watch_lines.proofs.lines.told.Goals as goal

pub returns-in_default : goal.returns-in_default
returns-in_default c = none-told c.args.resource c.args.text.now c.args.shown.now c.args.kind c.requires (rw c.in_default.is at c.in_ok-obj.ensures)

pub returns-else-tells : goal.returns-else-tells
returns-else-tells c =
    other-told c.args.resource c.args.text.now c.args.shown.now c.args.kind c.in-Some.obj c.in-Some.rev c.requires (rw c.in-Some.is at c.in_ok-obj.ensures)
    (λ e. let yes : c.tells.result ≡ true = c.tells.ensures.1 e in cc)
