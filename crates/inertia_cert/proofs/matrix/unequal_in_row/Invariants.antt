use Rattle.inertia_cert.specs.SymmetricMatrices.{square, IsRowEqual}
use Rattle.inertia_cert.proofs.matrix.unequal_in_row.Given as goal

abbrev pub invariant-loop-column : goal.invariant-loop-column
invariant-loop-column l = IsRowEqual (square l.size l.entries) l.row l.column
