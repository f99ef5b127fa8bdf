use Rattle.std.proofs.Common.{◌≡◌, ℕ, ◌<◌, false, not, if◌then◌else◌}
use Rattle.inertia_laws.specs.Matrices.{is_zero}
use Rattle.inertia_cert.specs.Grids.{at}
use Rattle.inertia_cert.proofs.places.first_not_zero.Given as goal

abbrev pub invariant-loop-place : goal.invariant-loop-place
invariant-loop-place l = (j : ℕ) → l.after < j → j < l.place → not (is_zero (at l.matrix (if l.on_diagonal then j else l.after) j).num) ≡ false
