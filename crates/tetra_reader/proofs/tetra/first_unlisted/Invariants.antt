use Rattle.std.proofs.Common.{◌≡◌, ◌+◌, drop, option_map}
use Rattle.tetra_reader.specs.Tetras.{first_unlisted}
use Rattle.tetra_reader.proofs.tetra.first_unlisted.Given as goal

-- each tetrahedron so far has its faces
abbrev pub invariant-loop-i : goal.invariant-loop-i
invariant-loop-i l = first_unlisted l.faces l.tetrahedra ≡ option_map (λ k. l.i + k) (first_unlisted l.faces (drop l.i l.tetrahedra))
