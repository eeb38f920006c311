use Rattle.std.proofs.Common.{◌≡◌, length, ap, arith}
use Rattle.watch_record.specs.Between.{BetweenData}
use Rattle.watchcache.proofs.unknown.judge_unknown.Goals as goal

pub returns : goal.returns
returns c =
    let view = ap (λ (b : BetweenData). length b.later) c.case.view_is in
    let lists : c.len.result ≡ length c.in_ok-case.case.later = omega (arith, c.len.ensures, c.case.inside.later.ok.0, view) in
    λ no_memory. (c.in_ok-case.case, c.in_ok-case.ensures.read, lists, c.in_ok-check_lists.ensures)
