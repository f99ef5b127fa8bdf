use Rattle.std.proofs.Common.{◌==◌, length, ap, arith}
use Rattle.list_lemmas.specs.Times.{times_in}
use Rattle.arc_pairing.proofs.SeamLists.{few_filtered}
use Rattle.arc_pairing.proofs.seam.single_names.Goals as goal

pub push-requires : goal.push-requires
push-requires c =
    let few = few_filtered (λ x. times_in c.args.all.now x == 1) c.args.all.now c.loop-name.name-index (omega arith) in
    let e = ap length c.loop-name.invariant in
    (omega arith, omega (arith, few, e))
