use Rattle.std.proofs.Common.{◌≡◌}
use Rattle.inertia_laws.specs.Elimination.{start, steps}
use Rattle.inertia_laws.specs.Agreement.{AgreeAll}
use Rattle.inertia_laws.proofs.FirstStep.{FitBelow}
use Rattle.inertia_cert.specs.SymmetricMatrices.{entry}
use Rattle.inertia_cert.specs.Eliminations.{size_of, state}
use Rattle.inertia_cert.proofs.certificate.eliminate.Given as goal

abbrev pub invariant-loop-place : goal.invariant-loop-place
invariant-loop-place l = record {
  sized : size_of l.now ≡ l.matrix.size;
  reached : AgreeAll l.matrix.size (state l.now) (steps l.matrix.size l.place (start (entry l.matrix)));
  fit : FitBelow l.matrix.size (entry l.matrix) l.place;
}
