use Rattle.std.proofs.Common.{◌^◌, ◌*◌, ◌%◌, ap, ◌∙◌}
use Rattle.frontier_sweep.specs.LoopPowers.{LoopPowers}
use Rattle.frontier_sweep.proofs.Remainders.{product_of_remainders}
use Rattle.frontier_sweep.proofs.powers.LoopPowers.with_free_loops.Goals as goal

pub returns : goal.returns
returns c =
    let inside = c.self.inside in
    product_of_remainders inside.ring inside.delta c.args.coefficient c.args.free c.from.result c.pow.result c.mul.result c.from.ensures c.pow.ensures.power c.mul.ensures.product
    ∙ ap (λ (powers : LoopPowers). c.args.coefficient * powers.delta ^ c.args.free % powers.modulus) c.self.view_is
