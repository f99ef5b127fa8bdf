use Rattle.std.proofs.Common.{◌≡◌, take, None}
use Rattle.braid_trace.specs.Braids.{first_wide}
use Rattle.braid_trace.proofs.braid.first_wide.Given as goal

-- each entry so far crosses two of the strands
abbrev pub invariant-loop-i : goal.invariant-loop-i
invariant-loop-i l = first_wide l.strands (take l.i l.word) ≡ None
