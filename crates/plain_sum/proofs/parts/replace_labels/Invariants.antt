use Rattle.std.proofs.Common.{◌≡◌, ◌++◌, map, take, drop}
use Rattle.graph_parts.specs.Renaming.{replaced}
use Rattle.plain_sum.proofs.parts.replace_labels.Given as goal

abbrev pub invariant-loop-label : goal.invariant-loop-label
invariant-loop-label l = l.labels ≡ map (replaced l.from l.to) (take l.label-index l.initial.labels) ++ drop l.label-index l.initial.labels
