use Rattle.std.proofs.Common.{◌≡◌, ◌++◌, drop}
use Rattle.cables.specs.CableNodes.{row}
use Rattle.cable_grids.proofs.row.push_row.Given as goal

abbrev pub invariant-loop-j : goal.invariant-loop-j
invariant-loop-j l =
    l.nodes.items ++ row l.params l.group (drop l.j l.bottoms) l.west (drop l.j l.line) (drop l.j l.tops)
    ≡ l.initial.nodes.items ++ row l.params l.group l.bottoms l.west-2 l.line l.tops
