use Rattle.std.proofs.Common.{◌≡◌, take}
use Rattle.tetra_reader.specs.Tetras.{tetrahedra_of}
use Rattle.tetra_reader.proofs.tetra.tetrahedra_of.Given as goal

-- the tetrahedra among the items so far
abbrev pub invariant-loop-item : goal.invariant-loop-item
invariant-loop-item l = l.tetrahedra.items ≡ tetrahedra_of (take l.item-index l.items)
