use Rattle.std.proofs.Common.{◌≡◌, drop}
use Rattle.tetra_sum.specs.Colourings.{are_allowed}
use Rattle.tetra_sum.proofs.colours.are_allowed.Given as goal

-- each face so far allows the colours
abbrev pub invariant-loop-face : goal.invariant-loop-face
invariant-loop-face l = are_allowed l.r l.labels l.colours l.faces ≡ are_allowed l.r l.labels l.colours (drop l.face-index l.faces)
