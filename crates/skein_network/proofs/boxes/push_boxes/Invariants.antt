use Rattle.std.proofs.Common.{◌≡◌, ◌++◌, reverse, drop}
use Rattle.skein_network.specs.Colourings.{strands_in}
use Rattle.skein_network.specs.Boxes.{boxes_among}
use Rattle.skein_network.proofs.boxes.push_boxes.Given as goal

-- the boxes so far, and those that are left
abbrev pub invariant-loop-label : goal.invariant-loop-label
invariant-loop-label l =
    l.nodes.items ++ boxes_among (strands_in l.colouring) l.group (reverse l.seen) (drop l.label-index l.label-items)
    ≡ l.initial.nodes.items ++ boxes_among (strands_in l.colouring) l.group (reverse l.seen) l.label-items
