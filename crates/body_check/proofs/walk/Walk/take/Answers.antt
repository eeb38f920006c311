use Rattle.std.proofs.Common.{◌≡◌, Some, refl, ap, subst}
use Rattle.rev_log.specs.Rows.{Follows}
use Rattle.select_all.specs.Listings.{row_told}
use Rattle.body_check.proofs.TellLemmas.{counted_first, counted_more}
use Rattle.body_check.proofs.walk.Walk.take.Goals as goal

pub returns : goal.returns
returns c =
    record {
      held = c.pass.ensures.held;
      rows = subst (λ rows. Follows rows c.apply.new.rows (λ key row. row_told key row (record { kind = c.args.kind; obj = c.args.obj; rev = c.args.rev }))) c.pass.ensures.rows c.in_ok-apply.ensures;
      to = refl;
      count = c.count_at-count.result;
      last = ap (λ key. Some (record { key = key; count = c.count_at-count.result })) c.in_ok-key.ensures.cases;
      first = counted_first c.args.self.now.last c.args.rev c.args.self.now.to c.count_at-count.result c.count_at-count.ensures;
      more = counted_more c.args.self.now.last c.args.rev c.args.self.now.to c.count_at-count.result c.count_at-count.ensures;
    }
