use Rattle.std.proofs.Common.{◌≡◌, map, take}
use Rattle.graph_parts.specs.Labels.{label_of}
use Rattle.plain_sum.specs.Places.{named}
use Rattle.plain_sum.proofs.parts.count_parts.Given as goal

abbrev pub invariant-loop-edge : goal.invariant-loop-edge
invariant-loop-edge l = l.labels.items ≡ map (label_of (named l.names (take l.edge-index l.edges))) l.names
