use Rattle.std.proofs.Common.{◌≡◌, ◌==◌, drop}
use Rattle.std.specs.Set.{is_member}
use Rattle.diagram_moves.specs.Rewriting.{crossing_labels}
use Rattle.move_script.proofs.crossings.on_crossing.Given as goal

-- the label stands at none so far
abbrev pub invariant-loop-item : goal.invariant-loop-item
invariant-loop-item l = is_member ◌==◌ (crossing_labels l.items) l.label ≡ is_member ◌==◌ (crossing_labels (drop l.item-index l.items)) l.label
