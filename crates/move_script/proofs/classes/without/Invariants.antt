use Rattle.std.proofs.Common.{◌≡◌, ◌+◌, ◌≤◌, ◌++◌, drop}
use Rattle.diagram_moves.specs.Moves.{removed}
use Rattle.move_script.specs.Tables.{joined}
use Rattle.move_script.proofs.Loops.{removed_from}
use Rattle.move_script.proofs.classes.without.Given as goal

-- what is left of the items so far, and of those to come
abbrev pub invariant-loop-item : goal.invariant-loop-item
invariant-loop-item l =
    (l.left.items ++ removed_from l.gone (joined l.joins) l.number (drop l.item-index l.items) ≡ removed l.gone (joined l.joins) l.items) × (l.number ≤ l.item-index + 1)
