use Rattle.std.proofs.Common.{◌≡◌, max, drop}
use Rattle.planar_check.specs.Components.{greatest}
use Rattle.slide_band.proofs.edges.top.Given as goal

-- the greatest so far, and of those to come
abbrev pub invariant-loop-label : goal.invariant-loop-label
invariant-loop-label l = max l.greatest (greatest (drop l.label-index l.label-items)) ≡ greatest l.label-items
