use Rattle.std.proofs.Common.{◌≡◌, map}
use Rattle.std.specs.List.{range_with_len}
use Rattle.planar_check.specs.Cycles.{next_on}
use Rattle.planar_check.proofs.cycles.way_edges.Given as goal

-- the places so far, each with the one that follows it
abbrev pub invariant-loop-place : goal.invariant-loop-place
invariant-loop-place l = l.edges.items ≡ map (λ p. (p, next_on l.way l.after l.others p)) (range_with_len 0 l.place)
