use Rattle.std.proofs.Common.{◌≡◌, slice_index}
use Rattle.root_quantum.specs.QuantumNumbers.{loop_value}
use Rattle.strand_algebra.specs.Projectors.{projector}
use Rattle.temperley_lieb.specs.Elements.{AreBelow, element_of}
use Rattle.wenzl_table.proofs.building.element_of_colour.Given as goal

abbrev pub invariant-loop-k : goal.invariant-loop-k
invariant-loop-k l = record {
  element : l.element ≡ element_of l.k (projector l.params.modulus (loop_value l.params) (slice_index l.inverses) l.k);
  below : AreBelow l.params.modulus l.element;
}
