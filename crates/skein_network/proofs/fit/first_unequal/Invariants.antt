use Rattle.std.proofs.Common.{◌≡◌, drop}
use Rattle.cables.specs.Nets.{first_unequal}
use Rattle.skein_network.specs.Edges.{colour_at}
use Rattle.skein_network.proofs.fit.first_unequal.Given as goal

abbrev pub invariant-loop-item : goal.invariant-loop-item
invariant-loop-item l = first_unequal (colour_at l.edges) l.items ≡ first_unequal (colour_at l.edges) (drop l.item-index l.items)
