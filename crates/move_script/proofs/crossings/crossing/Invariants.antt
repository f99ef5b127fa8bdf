use Rattle.std.proofs.Common.{◌≡◌, ◌+◌, ◌≤◌, drop}
use Rattle.diagram_moves.specs.Rewriting.{crossing_at, crossing_from}
use Rattle.move_script.proofs.crossings.crossing.Given as goal

-- the crossing is one of those to come
abbrev pub invariant-loop-item : goal.invariant-loop-item
invariant-loop-item l = (crossing_from l.next (drop l.item-index l.items) l.number ≡ crossing_at l.items l.number) × (l.next ≤ l.item-index + 1)
