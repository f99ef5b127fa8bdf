use Rattle.std.proofs.Common.{◌≡◌, true}
use Rattle.inertia_laws.specs.Elimination.{gathered}
use Rattle.inertia_laws.specs.Range.{every, gather_place_fits}
use Rattle.inertia_cert.specs.Values.{value}
use Rattle.inertia_cert.specs.Grids.{at}
use Rattle.inertia_cert.proofs.parts.gathered.Given as goal

abbrev pub invariant-loop-place : goal.invariant-loop-place
invariant-loop-place l = record {
  sum : value l.sum ≡ gathered l.pivot (at l.matrix) (at l.grid) l.column l.place;
  fit : every l.place (gather_place_fits l.pivot (at l.matrix) (at l.grid) l.column) ≡ true;
}
