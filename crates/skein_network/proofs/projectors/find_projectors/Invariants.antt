use Rattle.skein_network.proofs.FoundProjectors.{IsFoundBelow}
use Rattle.skein_network.proofs.projectors.find_projectors.Given as goal

-- the colours so far have their projectors
abbrev pub invariant-loop-n : goal.invariant-loop-n
invariant-loop-n l = IsFoundBelow l.table l.colours l.n l.projectors.items l.initial.notes l.notes
