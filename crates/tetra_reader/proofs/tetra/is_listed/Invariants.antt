use Rattle.std.proofs.Common.{◌≡◌, drop}
use Rattle.tetra_reader.specs.Tetras.{is_listed}
use Rattle.tetra_reader.proofs.tetra.is_listed.Given as goal

-- none of the faces so far is the one
abbrev pub invariant-loop-face : goal.invariant-loop-face
invariant-loop-face l = is_listed l.faces l.a l.b l.c ≡ is_listed (drop l.face-index l.faces) l.a l.b l.c
