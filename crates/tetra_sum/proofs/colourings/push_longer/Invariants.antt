use Rattle.std.proofs.Common.{◌≡◌, ◌++◌, filter}
use Rattle.std.specs.List.{range_with_len}
use Rattle.tetra_sum.specs.Colourings.{are_allowed}
use Rattle.tetra_sum.specs.Lists.{lists, longer_by}
use Rattle.tetra_sum.proofs.colourings.push_longer.Given as goal

-- the colours so far
abbrev pub invariant-loop-colour : goal.invariant-loop-colour
invariant-loop-colour l = lists l.list.items ≡ lists l.initial.list.items ++ filter (λ each. are_allowed l.r l.labels each l.faces) (longer_by (range_with_len 0 l.colour) l.colours)
