use Rattle.std.proofs.Common.{◌<◌, ◌^◌, ◌%◌, sym, subst, ◌∙◌, arith}
use Rattle.std.proofs.lemmas.List.{length-set}
use Rattle.frontier_sweep.proofs.Remainders.{residue_of_power, filled_more}
use Rattle.frontier_sweep.proofs.powers.LoopPowers.of.Goals as goal

pub loop-k-preserved : goal.loop-k-preserved
loop-k-preserved c =
    let m = c.args.ring.now in
    let k = c.loop-k.k in
    let powers = c.loop-k.powers in (
      length-set powers k c.pow.result ∙ c.loop-k.invariant.0,
      filled_more (λ k. c.args.delta ^ k % m) powers k c.pow.result (subst (λ l. k < l) (sym c.loop-k.invariant.0) c.loop-k-test.true) (c.pow.ensures.power ∙ residue_of_power m c.args.delta k) c.loop-k.invariant.1,
    )

pub invariant_of-result : goal.invariant_of-result
invariant_of-result c = (c.requires, λ k small. (c.loop-k.invariant.1) k (let e = c.loop-k-test.false in omega (arith, e, small)))
