-- The point up to which the ticks have passed counts them.
use Rattle.std.proofs.Common.{leb, rules, sym}
use Rattle.std.proofs.lemmas.List.Sorted.{IsPartitionPoint-from_clause, IsPartitionedBy-leb}
use Rattle.waff_check.proofs.TickLaws.{count-point}
use Rattle.waff_check.proofs.ticks.passed_by.Goals as goal

pub returns : goal.returns
returns c =
    let ticks = c.args.ticks.now in
    let tick = c.args.tick in
    let parted = IsPartitionedBy-leb (λ x. x) ticks tick c.requires in
    let point = IsPartitionPoint-from_clause (λ x. leb x tick) ticks _ c.partition_point.ensures.partitioned parted (λ a r q k. search rules) in
    record {
      count = sym (count-point (λ x. leb x tick) ticks _ c.partition_point.ensures.bound point);
      within = c.partition_point.ensures.bound;
    }
