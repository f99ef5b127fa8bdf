use Rattle.std.proofs.Common.{◌≡◌, ◌-◌, ◌+◌, ◌++◌}
use Rattle.braid_closures.specs.Closures.{loops}
use Rattle.braid_closures.proofs.closures.push_loops.Given as goal

-- the loops so far, and those of the positions left, are all
abbrev pub invariant-loop-place : goal.invariant-loop-place
invariant-loop-place l = l.items.items ++ loops l.word (l.place + 1) (l.strands - l.place) ≡ l.fn.items.items ++ loops l.word 1 l.strands
