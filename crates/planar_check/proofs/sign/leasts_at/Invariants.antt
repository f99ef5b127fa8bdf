use Rattle.std.proofs.Common.{◌≡◌, map, take, slice_index}
use Rattle.planar_check.specs.Components.{rank}
use Rattle.planar_check.proofs.sign.leasts_at.Given as goal

abbrev pub invariant-loop-label : goal.invariant-loop-label
invariant-loop-label l = l.found.items ≡ map (λ label. slice_index l.leasts (rank l.names label)) (take l.label-index l.labels)
