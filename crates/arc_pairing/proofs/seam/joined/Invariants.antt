use Rattle.std.proofs.Common.{◌≡◌, ◌++◌, take}
use Rattle.arc_pairing.proofs.seam.joined.Given as goal

abbrev pub invariant-loop-name : goal.invariant-loop-name
invariant-loop-name l = l.all.items ≡ take l.name-index l.names

abbrev pub invariant-loop-end : goal.invariant-loop-end
invariant-loop-end l = l.all.items ≡ l.names ++ take l.end-index l.ends
