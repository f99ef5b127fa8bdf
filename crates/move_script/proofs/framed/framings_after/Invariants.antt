use Rattle.std.proofs.Common.{◌≡◌, take}
use Rattle.move_script.proofs.framed.framings_after.Given as goal

-- the framings so far
abbrev pub invariant-loop-index : goal.invariant-loop-index
invariant-loop-index l = l.all.items ≡ take l.index l.framed.framings
