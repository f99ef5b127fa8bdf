use Rattle.std.proofs.Common.{◌≡◌, ◌*◌, ◌≤◌, ◌++◌, drop}
use Rattle.diagram_moves.specs.Rewriting.{at_places}
use Rattle.move_script.specs.Tables.{cut_by}
use Rattle.move_script.proofs.crossings.with_cuts.Given as goal

-- the items so far, and those to come
abbrev pub invariant-loop-item : goal.invariant-loop-item
invariant-loop-item l =
    (l.cut.items ++ at_places (cut_by l.cuts) l.place (drop l.item-index l.items) ≡ at_places (cut_by l.cuts) 0 l.items) × (l.place ≤ 4 * l.item-index)
