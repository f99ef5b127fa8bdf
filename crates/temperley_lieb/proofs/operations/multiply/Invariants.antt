use Rattle.std.proofs.Common.{◌≡◌, take}
use Rattle.std.specs.List.{flat_map}
use Rattle.strand_algebra.specs.Elements.{collected}
use Rattle.temperley_lieb.specs.Elements.{element_of}
use Rattle.temperley_lieb.proofs.Rows.{row}
use Rattle.temperley_lieb.proofs.operations.multiply.Given as goal

abbrev pub invariant-loop-above : goal.invariant-loop-above
invariant-loop-above l =
    l.product ≡ element_of l.x.strands (collected l.ring l.x.strands (flat_map (row l.delta l.x.strands l.y.terms) (take l.above-index l.above-items)))
