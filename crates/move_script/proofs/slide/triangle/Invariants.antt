use Rattle.std.proofs.Common.{◌≡◌, drop}
use Rattle.std.specs.List.{find}
use Rattle.diagram_moves.specs.Moves.{slot_triples}
use Rattle.move_script.proofs.Loops.{either_triangle}
use Rattle.move_script.proofs.slide.triangle.Given as goal

-- no triple so far passes
abbrev pub invariant-loop-k : goal.invariant-loop-k
invariant-loop-k l = find (either_triangle l.first l.second l.third) (drop l.k slot_triples) ≡ find (either_triangle l.first l.second l.third) slot_triples
