use Rattle.inertia_cert.specs.SymmetricMatrices.{entry}
use Rattle.inertia_cert.specs.Grids.{at, listed_at}
use Rattle.inertia_cert.specs.Columns.{AreImages}
use Rattle.inertia_cert.proofs.products.write_image.Given as goal

-- the entries so far
abbrev pub invariant-loop-row : goal.invariant-loop-row
invariant-loop-row l = AreImages l.matrix.size (entry l.matrix) (at l.p) l.column l.row (listed_at l.image_column)
