use Rattle.std.proofs.Common.{◌≡◌, take}
use Rattle.tetra_sum.specs.Sums.{all_labels}
use Rattle.tetra_sum.proofs.labels.tetrahedron_labels.Given as goal

-- the labels of the tetrahedra so far
abbrev pub invariant-loop-tetrahedron : goal.invariant-loop-tetrahedron
invariant-loop-tetrahedron l = l.labels.items ≡ all_labels (take l.tetrahedron-index l.tetrahedra)
