use Rattle.std.proofs.Common.{take}
use Rattle.graph_parts.specs.LeastNames.{least_label}
use Rattle.part_labels.specs.Forests.{IsDescending, StandsFor}
use Rattle.part_labels.proofs.forest.label_parts.Given as goal

abbrev pub invariant-loop-edge : goal.invariant-loop-edge
invariant-loop-edge l = IsDescending l.parents × StandsFor (least_label (take l.edge-index l.edges)) l.parents
