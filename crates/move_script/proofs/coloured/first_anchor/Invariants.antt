use Rattle.std.proofs.Common.{◌≡◌, ◌+◌, drop}
use Rattle.planar_check.specs.Components.{least_labels}
use Rattle.diagram_moves.specs.Anchors.{first_anchor}
use Rattle.move_script.proofs.coloured.first_anchor.Given as goal

-- none of the components so far is anchored
abbrev pub invariant-loop-index : goal.invariant-loop-index
invariant-loop-index l =
    first_anchor l.edges (drop l.index (least_labels l.diagram)) (drop l.index l.colours) (l.index + 1) ≡ first_anchor l.edges (least_labels l.diagram) l.colours 1
