use Rattle.std.proofs.Common.{slice_index, refl, sym, ap, ◌∙◌, arith}
use Rattle.root_quantum.specs.QuantumNumbers.{loop_value}
use Rattle.temperley_lieb.specs.Elements.{element_of}
use Rattle.wenzl_table.proofs.Steps.{first_colour, colour_more}
use Rattle.wenzl_table.proofs.building.element_of_colour.Goals as goal

pub loop-k-init : goal.loop-k-init
loop-k-init c =
    let p = c.args.params.now in
    record {
      element = (c.in_ok-element.ensures {u = tt}).value ∙ ap (element_of 1) (sym (first_colour p.modulus (loop_value p) (slice_index c.args.inverses.now)));
      below = (c.in_ok-element.ensures {u = tt}).below;
    }

pub loop-k-preserved : goal.loop-k-preserved
loop-k-preserved c =
    let p = c.args.params.now in
    let k = c.loop-k.k in
    record {
      element =
          colour_more p.modulus (loop_value p) k (slice_index c.args.inverses.now k) (slice_index c.args.inverses.now) c.loop-k.element c.in_ok-element-2.element (omega arith) refl c.loop-k.invariant.element
          (c.in_ok-element-2.ensures {u = tt}).value;
      below = (c.in_ok-element-2.ensures {u = tt}).below;
    }
