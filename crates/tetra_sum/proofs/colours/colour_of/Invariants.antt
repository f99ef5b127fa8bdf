use Rattle.std.proofs.Common.{◌≡◌, drop}
use Rattle.tetra_sum.specs.Colourings.{colour_of}
use Rattle.tetra_sum.proofs.colours.colour_of.Given as goal

-- none of the labels so far is the one
abbrev pub invariant-loop-i : goal.invariant-loop-i
invariant-loop-i l = colour_of l.labels l.colours l.label ≡ colour_of (drop l.i l.labels) (drop l.i l.colours) l.label
