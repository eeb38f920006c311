use Rattle.std.proofs.Common.{arith}
use Rattle.select_all.specs.Listings.{listing}
use Rattle.cached_client.proofs.WalkLemmas.{first_pushed}
use Rattle.cached_client.proofs.walks.first.Goals as goal

pub returns-then-len-limit : goal.returns-then-len-limit
returns-then-len-limit c =
    let full = first_pushed (λ s. s.value) c.args.limit c.loop-shown.kept.items c.push.new.self.items c.in_ok-try_clone.field-0 c.in-Some.shown.now.value
    (listing c.args.selection.now c.loop-shown.rows) (listing c.args.selection.now c.next_selected.new.rows) _ c.loop-shown.invariant.listing c.in-Some.ensures.next
    c.in_ok-try_clone.ensures c.in_ok-push.ensures.items (omega (arith, c.len.ensures, c.if-len-limit.true)) in
    record { first = full.0; left = full.1; within = λ are. c.in-Some.ensures.within (c.loop-shown.invariant.within are) }
