use Rattle.std.proofs.Common.{◌≡◌, take}
use Rattle.tetra_reader.specs.Tetras.{faces_of}
use Rattle.tetra_reader.proofs.tetra.faces_of.Given as goal

-- the faces among the items so far
abbrev pub invariant-loop-item : goal.invariant-loop-item
invariant-loop-item l = l.faces.items ≡ faces_of (take l.item-index l.items)
