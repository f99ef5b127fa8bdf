use Rattle.std.proofs.Common.{◌≡◌, map}
use Rattle.std.specs.List.{range_with_len}
use Rattle.inertia_cert.specs.SymmetricMatrices.{AllFit}
use Rattle.planar_check.proofs.linking.entries.Given as goal
use Rattle.planar_check.specs.Tables.{entry_from}

-- the entries at the places so far
abbrev pub invariant-loop-place : goal.invariant-loop-place
invariant-loop-place l = record {
  are : l.entries.items ≡ map (entry_from l.framings l.sums) (range_with_len 0 l.place);
  fit : AllFit l.entries.items;
}
