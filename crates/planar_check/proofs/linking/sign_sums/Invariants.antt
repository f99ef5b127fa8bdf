use Rattle.std.proofs.Common.{take}
use Rattle.planar_check.proofs.linking.sign_sums.Given as goal
use Rattle.planar_check.specs.Tables.{AreSignSums}

-- the sums over the crossings so far
abbrev pub invariant-loop-crossing : goal.invariant-loop-crossing
invariant-loop-crossing l = AreSignSums l.size (take l.crossing-index l.crossings) l.sums.items
