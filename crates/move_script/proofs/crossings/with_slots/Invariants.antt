use Rattle.std.proofs.Common.{◌≡◌, ◌+◌, ◌≤◌, ◌++◌, drop}
use Rattle.diagram_moves.specs.Rewriting.{rewritten}
use Rattle.move_script.proofs.Loops.{anew_item}
use Rattle.move_script.proofs.crossings.with_slots.Given as goal

-- the items so far, and those to come
abbrev pub invariant-loop-item : goal.invariant-loop-item
invariant-loop-item l =
    (l.changed.items ++ rewritten (anew_item l.new) l.number (drop l.item-index l.items) ≡ rewritten (anew_item l.new) 1 l.items) × (l.number ≤ l.item-index + 1)
