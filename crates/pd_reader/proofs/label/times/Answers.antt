use Rattle.std.proofs.Common.{◌≡◌, ◌≤◌, ◌-◌, ltb, leb, true, false, rules}
use Rattle.std.specs.List.Sorted.{IsPartitionPoint}
use Rattle.std.proofs.lemmas.List.Sorted.{IsPartitionPoint-from_clause, IsPartitionedBy-leb, IsPartitionedBy-ltb}
use Rattle.list_lemmas.specs.Times.{times_in}
use Rattle.pd_reader.proofs.Counts.{times-searches}
use Rattle.pd_reader.proofs.label.times.Goals as goal

counted : (c : goal.After-partition_point-up_to) → (c.partition_point-below.result ≤ c.partition_point-up_to.result) × (c.partition_point-up_to.result - c.partition_point-below.result ≡ times_in c.args.labels.now c.args.label)
counted c =
    let low : IsPartitionPoint (λ n. ltb n c.args.label ≡ true) (λ n. ltb n c.args.label ≡ false) c.args.labels.now c.partition_point-below.result
    = IsPartitionPoint-from_clause (λ n. ltb n c.args.label) c.args.labels.now c.partition_point-below.result c.partition_point-below.ensures.partitioned (IsPartitionedBy-ltb (λ n. n) c.args.labels.now c.args.label c.requires) (λ a r q k. search rules) in
    let high : IsPartitionPoint (λ n. leb n c.args.label ≡ true) (λ n. leb n c.args.label ≡ false) c.args.labels.now c.partition_point-up_to.result
    = IsPartitionPoint-from_clause (λ n. leb n c.args.label) c.args.labels.now c.partition_point-up_to.result c.partition_point-up_to.ensures.partitioned (IsPartitionedBy-leb (λ n. n) c.args.labels.now c.args.label c.requires) (λ a r q k. search rules) in
    times-searches c.args.label c.args.labels.now c.partition_point-below.result c.partition_point-up_to.result c.partition_point-below.ensures.bound c.partition_point-up_to.ensures.bound low high

pub overflow_sub-result : goal.overflow_sub-result
overflow_sub-result c = (counted c).0

pub returns : goal.returns
returns c = (counted c).1
