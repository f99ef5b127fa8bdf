use Rattle.std.proofs.Common.{◌≡◌, ℕ, take}
use Rattle.graph_parts.specs.LeastNames.{least_label}
use Rattle.move_script.specs.Tables.{joined}
use Rattle.move_script.proofs.classes.joins.Given as goal

-- the joins so far make the classes of the pairs so far
abbrev pub invariant-loop-a : goal.invariant-loop-a
invariant-loop-a l = (label : ℕ) → joined l.joins.items label ≡ least_label (take l.a-index l.pairs) label
