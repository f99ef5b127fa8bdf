use Rattle.std.proofs.Common.{◌≡◌, map}
use Rattle.std.specs.List.{range_with_len}
use Rattle.strand_algebra.specs.GluedProducts.{above_name}
use Rattle.temperley_lieb.proofs.stacking.above_names.Given as goal

abbrev pub invariant-loop-at : goal.invariant-loop-at
invariant-loop-at l = l.names.items ≡ map (above_name l.strands) (range_with_len 0 l.at)
