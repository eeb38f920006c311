-- What the bisection finds is the place.
use Rattle.std.proofs.Common.{arith, rules, of_calls}
use Rattle.std.specs.Prelude.{nat_le}
use Rattle.std.proofs.lemmas.List.Sorted.{IsPartitionPoint-from_clause, IsPartitionedBy-leb}
use Rattle.up_store.proofs.KeptLemmas.{ordered, place}
use Rattle.up_store.proofs.kept.Kept.place_of.Goals as goal

pub returns-clause-place : goal.returns-clause-place
returns-clause-place c = λ log floor keeps above within.
    let parted = IsPartitionedBy-leb (λ r. r.rev) c.args.self.now.revisions.items c.args.at (ordered log floor c.args.self.now keeps) in
    let point = IsPartitionPoint-from_clause (λ r. nat_le r.rev c.args.at) _ _ c.partition_point.ensures.partitioned parted (λ a r q k. search (rules, of_calls)) in
    place log floor c.args.self.now keeps c.args.at c.partition_point.result above within (omega (arith, c.partition_point.ensures.bound, c.args.self.now.revisions.ok.0)) point
