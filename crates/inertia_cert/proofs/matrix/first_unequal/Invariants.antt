use Rattle.inertia_cert.specs.SymmetricMatrices.{square, AreRowsEqual}
use Rattle.inertia_cert.proofs.matrix.first_unequal.Given as goal

abbrev pub invariant-loop-row : goal.invariant-loop-row
invariant-loop-row l = AreRowsEqual (square l.size l.entries) l.row
