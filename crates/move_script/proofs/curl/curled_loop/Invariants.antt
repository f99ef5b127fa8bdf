use Rattle.std.proofs.Common.{◌≡◌, ◌++◌, cond, drop}
use Rattle.diagram_moves.specs.Moves.{curled_loop}
use Rattle.move_script.proofs.curl.curled_loop.Given as goal

-- the loop is still to come, or has its crossing
abbrev pub invariant-loop-item : goal.invariant-loop-item
invariant-loop-item l =
    l.all.items ++ cond l.waits (curled_loop l.edge l.slots (drop l.item-index l.items)) (drop l.item-index l.items) ≡ curled_loop l.edge l.slots l.items
