use Rattle.std.proofs.Common.{◌≡◌, ◌++◌}
use Rattle.planar_check.proofs.distinct.listed.Given as goal

-- the keys so far, and those that are left
abbrev pub invariant-loop-label : goal.invariant-loop-label
invariant-loop-label l = l.found.items ++ l.label-iterator ≡ l.set.keys
