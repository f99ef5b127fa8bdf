use Rattle.std.proofs.Common.{◌≡◌, drop}
use Rattle.move_script.specs.Tables.{anew}
use Rattle.move_script.proofs.crossings.new_slots.Given as goal

-- no entry so far has the number
abbrev pub invariant-loop-at : goal.invariant-loop-at
invariant-loop-at l = anew (drop l.at-index l.new) l.number l.slots ≡ anew l.new l.number l.slots
