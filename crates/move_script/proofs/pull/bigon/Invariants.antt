use Rattle.std.proofs.Common.{◌≡◌, drop}
use Rattle.std.specs.List.{find}
use Rattle.diagram_moves.specs.Moves.{is_bigon, slot_pairs}
use Rattle.move_script.proofs.pull.bigon.Given as goal

-- no pair so far passes
abbrev pub invariant-loop-k : goal.invariant-loop-k
invariant-loop-k l = find (is_bigon l.here l.there) (drop l.k slot_pairs) ≡ find (is_bigon l.here l.there) slot_pairs
