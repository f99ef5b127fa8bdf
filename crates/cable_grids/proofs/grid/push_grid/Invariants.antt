use Rattle.std.proofs.Common.{◌≡◌, ◌++◌, drop, length, reverse}
use Rattle.cables.specs.CableNodes.{grid}
use Rattle.cable_grids.proofs.grid.push_grid.Given as goal

abbrev pub invariant-loop-i : goal.invariant-loop-i
invariant-loop-i l =
    (l.nodes.items ++ grid l.params l.group l.k l.u l.i l.bottoms.items (drop l.i l.wests.items) (drop l.i l.ends.b.items) (reverse l.ends.c.items)
    ≡ l.initial.nodes.items ++ grid l.params l.group l.k l.u 0 l.ends.a.items l.wests.items l.ends.b.items (reverse l.ends.c.items))
    × (length l.bottoms.items ≡ l.u)
