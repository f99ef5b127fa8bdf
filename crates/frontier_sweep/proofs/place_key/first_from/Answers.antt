use Rattle.std.proofs.Common.{◌≡◌, ltb, true, false, rules, arith}
use Rattle.std.specs.List.Sorted.{IsPartitionPoint}
use Rattle.std.proofs.lemmas.Bool.Decides.{nat_tests}
use Rattle.std.proofs.lemmas.List.Sorted.{IsPartitionPoint-from_clause, IsPartitionedBy-ltb}
use Rattle.frontier_sweep.proofs.place_key.first_from.Goals as goal

found : (c : goal.After-partition_point) → IsPartitionPoint (λ n. ltb n c.args.key ≡ true) (λ n. ltb n c.args.key ≡ false) c.args.index.now c.partition_point.result
found c = IsPartitionPoint-from_clause (λ n. ltb n c.args.key) c.args.index.now c.partition_point.result c.partition_point.ensures.partitioned (IsPartitionedBy-ltb (λ n. n) c.args.index.now c.args.key c.requires) (λ a r q k. search rules)

pub returns-clause-before : goal.returns-clause-before
returns-clause-before c k small =
    let bound = c.partition_point.ensures.bound in
    let below = (found c).0 k 0 (omega (arith, small, bound)) small in
    grind (arith, nat_tests, below)

pub returns-clause-behind : goal.returns-clause-behind
returns-clause-behind c k more within =
    let above = (found c).1 k 0 more within in
    grind (arith, nat_tests, above)
