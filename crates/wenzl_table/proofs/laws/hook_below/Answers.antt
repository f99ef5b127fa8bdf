use Rattle.root_quantum.specs.QuantumNumbers.{loop_value}
use Rattle.strand_algebra.proofs.ProjectorLaws.{projector_on_hook}
use Rattle.wenzl_table.proofs.Steps.{few_strands}
use Rattle.root_quantum.proofs.QuantumSteps.{modulus_positive}
use Rattle.wenzl_table.proofs.laws.hook_below.Goals as goal

pub returns : goal.returns
returns c =
    let f = c.args.projector.now in
    let p = f.params in
    let n = f.colour in
    let e = c.element-element.ensures in
    λ i a b. projector_on_hook p.modulus (loop_value p) n i f.element.terms (modulus_positive p) (few_strands p n e.colour) a b e.projector.terms
