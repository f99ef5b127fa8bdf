use Rattle.std.proofs.Common.{length, ap, arith}
use Rattle.arc_pairing.proofs.SeamLists.{few_filtered}
use Rattle.frontier_sweep.specs.Places.{is_new}
use Rattle.frontier_sweep.proofs.places.new_names.Goals as goal

pub push-requires : goal.push-requires
push-requires c =
    let few = few_filtered (is_new c.args.names.now c.args.ends.now) c.args.ends.now c.loop-end.end-index (omega arith) in
    let e = ap length c.loop-end.invariant in
    (omega arith, omega (arith, few, e))
