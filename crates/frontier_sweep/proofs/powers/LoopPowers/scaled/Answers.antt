use Rattle.std.proofs.Common.{◌^◌, ◌*◌, ◌%◌, slice_index, sym, ap, ◌∙◌}
use Rattle.frontier_sweep.specs.LoopPowers.{LoopPowers}
use Rattle.frontier_sweep.proofs.Remainders.{scaled_once, scaled_products}
use Rattle.frontier_sweep.proofs.powers.LoopPowers.scaled.Goals as goal

pub returns-clause-value : goal.returns-clause-value
returns-clause-value c =
    let inside = c.self.inside in
    scaled_products inside.ring c.args.coefficient c.args.weight (slice_index inside.powers c.args.loops) c.mul-2.result c.mul-3.result (inside.delta ^ c.args.loops) ((c.self.invariant.1) c.args.loops c.requires.few) c.mul-2.ensures.product c.mul-3.ensures.product
    ∙ ap (λ (powers : LoopPowers). c.args.coefficient * (c.args.weight * powers.delta ^ c.args.loops) % powers.modulus) c.self.view_is

pub returns-then-loops-eq0-clause-value : goal.returns-then-loops-eq0-clause-value
returns-then-loops-eq0-clause-value c =
    let inside = c.self.inside in
    scaled_once inside.ring c.args.coefficient c.args.weight inside.delta c.mul.result c.mul.ensures.product
    ∙ ap (λ loops. c.args.coefficient * (c.args.weight * inside.delta ^ loops) % inside.ring) (sym c.if-loops-eq0.true)
    ∙ ap (λ (powers : LoopPowers). c.args.coefficient * (c.args.weight * powers.delta ^ c.args.loops) % powers.modulus) c.self.view_is
