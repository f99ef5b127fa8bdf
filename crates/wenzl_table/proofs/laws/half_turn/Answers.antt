use Rattle.root_quantum.specs.QuantumNumbers.{loop_value}
use Rattle.strand_algebra.proofs.ProjectorLaws.{half_turn}
use Rattle.wenzl_table.proofs.Steps.{few_strands}
use Rattle.root_quantum.proofs.QuantumSteps.{modulus_positive}
use Rattle.wenzl_table.proofs.laws.half_turn.Goals as goal

pub returns : goal.returns
returns c =
    let f = c.args.projector.now in
    let p = f.params in
    let n = f.colour in
    let e = c.element-element.ensures in
    λ q h. half_turn p.modulus (loop_value p) n f.element.terms q (modulus_positive p) (few_strands p n e.colour) e.projector.terms h
