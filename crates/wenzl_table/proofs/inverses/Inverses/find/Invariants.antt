use Rattle.std.proofs.Common.{ℕ, ◌≡◌, ◌<◌, length, slice_index}
use Rattle.root_quantum.specs.QuantumNumbers.{loop_value}
use Rattle.strand_algebra.specs.Projectors.{AreInverses}
use Rattle.wenzl_table.specs.Inverses.{AreCoprime}
use Rattle.wenzl_table.proofs.inverses.Inverses.find.Given as goal

abbrev pub invariant-loop-index : goal.invariant-loop-index
invariant-loop-index l = record {
  long : length l.by_index ≡ 8;
  inverses : AreInverses l.params.modulus (loop_value l.params) (slice_index l.by_index) l.index;
  below : (k : ℕ) → 0 < k → k < l.index → slice_index l.by_index k < l.params.modulus;
  coprime : AreCoprime l.params l.index;
}
