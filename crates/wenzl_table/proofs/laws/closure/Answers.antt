use Rattle.std.proofs.Common.{sym, ◌∙◌}
use Rattle.root_quantum.specs.QuantumNumbers.{loop_value}
use Rattle.strand_algebra.proofs.ProjectorLaws.{closure_value}
use Rattle.wenzl_table.proofs.Steps.{few_strands, delta_is}
use Rattle.root_quantum.proofs.QuantumSteps.{modulus_positive}
use Rattle.wenzl_table.proofs.laws.closure.Goals as goal

pub returns : goal.returns
returns c =
    let f = c.args.projector.now in
    let p = f.params in
    let n = f.colour in
    let e = c.element-element.ensures in
    closure_value p.modulus (loop_value p) n f.element.terms (modulus_positive p) (few_strands p n e.colour) e.projector.terms ∙ sym (delta_is p n)
