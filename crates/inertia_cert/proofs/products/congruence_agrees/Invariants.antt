use Rattle.std.proofs.Common.{◌≡◌, ℕ, ◌<◌, ◌↔◌, true, IsTrue}
use Rattle.inertia_laws.specs.Range.{every}
use Rattle.inertia_laws.specs.Checking.{congruence_entry, diagonal_matrix}
use Rattle.inertia_cert.specs.SymmetricMatrices.{entry}
use Rattle.inertia_cert.specs.Grids.{at}
use Rattle.inertia_cert.specs.Columns.{column_fits}
use Rattle.inertia_cert.proofs.products.congruence_agrees.Given as goal

-- the columns so far
abbrev pub invariant-loop-column : goal.invariant-loop-column
invariant-loop-column l = record {
  fit : every l.column (column_fits l.matrix.size (entry l.matrix) (at l.p)) ≡ true;
  same : IsTrue l.same ↔ ((j : ℕ) → j < l.column → (i : ℕ) → i < l.matrix.size → congruence_entry l.matrix.size (entry l.matrix) (at l.p) i j ≡ diagonal_matrix (λ i. at l.diagonal i i) i j);
}
