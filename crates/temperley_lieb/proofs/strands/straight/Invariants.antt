use Rattle.std.proofs.Common.{◌≡◌, ◌+◌, ◌-◌, map}
use Rattle.std.specs.List.{range_with_len}
use Rattle.temperley_lieb.proofs.strands.straight.Given as goal

abbrev pub invariant-loop-at : goal.invariant-loop-at
invariant-loop-at l = l.partners.items ≡ map (λ i. l.strands + l.strands - 1 - i) (range_with_len 0 l.at)
