use Rattle.std.proofs.Common.{◌≡◌, filter}
use Rattle.coloured_values.specs.Surgery.{colour_lists}
use Rattle.tetra_sum.specs.Colourings.{are_allowed, colours_below}
use Rattle.tetra_sum.specs.Lists.{lists}
use Rattle.tetra_sum.proofs.colourings.allowed.Given as goal

-- the admissible colourings of the first labels
abbrev pub invariant-loop : goal.invariant-loop
invariant-loop l = lists l.list.items ≡ filter (λ each. are_allowed l.r l.labels each l.faces) (colour_lists (colours_below l.r) l.counter)
