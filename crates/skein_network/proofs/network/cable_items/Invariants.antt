use Rattle.skein_network.specs.Colourings.{strands_in}
use Rattle.skein_network.specs.Progress.{standing_of}
use Rattle.skein_network.proofs.Progresses.{IsAlong}
use Rattle.skein_network.proofs.network.cable_items.Given as goal

abbrev pub invariant-loop-item : goal.invariant-loop-item
invariant-loop-item l = IsAlong l.colouring.params.now (strands_in l.colouring) l.items l.item-index l.progress.nodes.items l.progress.free (standing_of l.progress)
