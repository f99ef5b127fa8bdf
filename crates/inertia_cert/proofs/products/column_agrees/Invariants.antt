use Rattle.std.proofs.Common.{◌≡◌, ℕ, ◌<◌, ◌↔◌, true, IsTrue}
use Rattle.inertia_laws.specs.Range.{every}
use Rattle.inertia_laws.specs.Checking.{congruence_entry, congruence_fits, diagonal_matrix}
use Rattle.inertia_cert.specs.SymmetricMatrices.{entry}
use Rattle.inertia_cert.specs.Grids.{at}
use Rattle.inertia_cert.proofs.products.column_agrees.Given as goal

-- the rows so far
abbrev pub invariant-loop-row : goal.invariant-loop-row
invariant-loop-row l = record {
  fit : every l.row (λ i. congruence_fits l.matrix.size (entry l.matrix) (at l.p) i l.column) ≡ true;
  same : IsTrue l.same ↔ ((i : ℕ) → i < l.row → congruence_entry l.matrix.size (entry l.matrix) (at l.p) i l.column ≡ diagonal_matrix (λ i. at l.diagonal i i) i l.column);
}
