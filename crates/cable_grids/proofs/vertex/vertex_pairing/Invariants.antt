use Rattle.std.proofs.Common.{◌≡◌, map}
use Rattle.std.specs.List.{range_with_len}
use Rattle.cables.specs.CableNodes.{vertex_point}
use Rattle.cable_grids.proofs.vertex.vertex_pairing.Given as goal

abbrev pub invariant-loop-at : goal.invariant-loop-at
invariant-loop-at l = l.partners.items ≡ map (vertex_point l.xy l.yz l.zx) (range_with_len 0 l.at)
