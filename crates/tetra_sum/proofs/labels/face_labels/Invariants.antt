use Rattle.std.proofs.Common.{◌≡◌, take}
use Rattle.tetra_sum.specs.Sums.{all_labels}
use Rattle.tetra_sum.proofs.labels.face_labels.Given as goal

-- the labels of the faces so far
abbrev pub invariant-loop-face : goal.invariant-loop-face
invariant-loop-face l = l.labels.items ≡ all_labels (take l.face-index l.faces)
