use Rattle.std.proofs.Common.{◌≡◌, filter, flat_map, take}
use Rattle.tetra_sum.specs.Colourings.{are_allowed, colours_below}
use Rattle.tetra_sum.specs.Lists.{lists, longer_by}
use Rattle.tetra_sum.proofs.colourings.longer.Given as goal

-- the colourings so far
abbrev pub invariant-loop-colours : goal.invariant-loop-colours
invariant-loop-colours l = lists l.next.items ≡ flat_map (λ colours. filter (λ each. are_allowed l.r l.labels each l.faces) (longer_by (colours_below l.r) colours)) (lists (take l.colours-index l.list))
