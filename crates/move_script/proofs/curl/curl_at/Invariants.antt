use Rattle.std.proofs.Common.{◌≡◌, drop}
use Rattle.std.specs.List.{find}
use Rattle.diagram_moves.specs.Moves.{four, is_curl}
use Rattle.move_script.proofs.curl.curl_at.Given as goal

-- no slot so far passes
abbrev pub invariant-loop-s : goal.invariant-loop-s
invariant-loop-s l = find (is_curl l.slots) (drop l.s four) ≡ find (is_curl l.slots) four
