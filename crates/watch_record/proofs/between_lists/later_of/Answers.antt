use Rattle.std.proofs.Common.{[], ◌≡◌, ◌+◌, sym, arith, get_or}
use Rattle.std.proofs.lemmas.Result.{err_from_is_err_and}
use Rattle.watch_record.proofs.LaterLemmas.{later-begin, later-more, later-all, later-bad}
use Rattle.watch_record.proofs.PartLemmas.{told}
use Rattle.watch_record.proofs.between_lists.later_of.Goals as goal

pub loop-n-init : goal.loop-n-init
loop-n-init c = rw c.new-later.ensures.items (later-begin c.args.resource c.args.from (told c.args.texts.now))

pub loop-n-preserved : goal.loop-n-preserved
loop-n-preserved c =
    let list = c.in_ok-list.ensures in
    rw c.in_ok-put_list.ensures (later-more c.args.resource c.args.from c.args.texts.now c.loop-n.n _ c.loop-n.later.items c.in_ok-list.list
    c.loop-n-test.true list.is list.place list.read c.loop-n.invariant)

pub returns-in_err-list-clause-refused : goal.returns-in_err-list-clause-refused
returns-in_err-list-clause-refused c =
    let p = err_from_is_err_and c.from_residual.result c.from_residual.ensures.1 in
    rw (p.1, p.2) (λ no_memory.
    let refused = c.in_err-list.ensures.refused no_memory in
    (c.loop-n.n + 1, refused.0, later-bad c.args.resource c.args.from c.args.texts.now c.loop-n.n _ c.loop-n.later.items c.loop-n-test.true refused.1 c.loop-n.invariant))

pub returns-clause-read : goal.returns-clause-read
returns-clause-read c = later-all c.args.resource c.args.from c.args.texts.now c.loop-n.n c.loop-n.later.items c.loop-n-test.false c.loop-n.invariant
